-- The first use that may be too far from its label, one item after another.
use Rattle.std.proofs.Common.{ℕ, ◌≡◌, ◌+◌, ◌-◌, ◌^◌, ◌<◌, ◌≤◌, false, cond, List, [], ◌∷◌, length, get_or, drop, Option, None, Some, refl, sym, ap, ◌∙◌, arith, nat_cmp}
use Rattle.std.specs.Prelude.{◌||◌, nat_lt, is_some, option_and_then}
use Rattle.std.specs.FinMap.{FinMap, get}
use Rattle.std.specs.List.{list_any}
use Rattle.std.specs.Option.{option_map_or, option_or}
use Rattle.std.proofs.lemmas.Bool.{le-ltb}
use Rattle.a64_base.specs.declared.entity.MachLabel.{MachLabel}
use Rattle.a64_base.specs.declared.entity.UserStackMap.{UserStackMap}
use Rattle.a64_inst.specs.declared.emission.EmitFlags.{EmitFlags}
use Rattle.a64_inst.specs.declared.frame.FrameLayout.{FrameLayout}
use Rattle.a64_inst.specs.declared.inst.Inst.{Inst}
use Rattle.a64_inst.specs.declared.item.Item.{Item}
use Rattle.a64_inst.specs.declared.item.Item.TheVariants.{Emit}
use Rattle.a64_buffer.specs.declared.force.ForceVeneers.{ForceVeneers}
use Rattle.a64_cells.specs.declared.site.Site.{Site}
use Rattle.a64_emit.specs.Bounds.{whole}
use Rattle.a64_cells.specs.Cells.{inst_cells, kept_by, cells_of, sites_of}
use Rattle.a64_emit.specs.Reach.{binding_index, near_label, is_near, has_near, first_some, is_far, far_label, first_far_from, reach}
use Rattle.a64_emit.proofs.Keeping.{keep_sites}
use Rattle.a64_assemble.specs.Tally.{HasBindings}
use Rattle.a64_assemble.proofs.Bindings.{drop_item, drop_all}
use Rattle.a64_assemble.proofs.Checked.{neither}
use Rattle.a64_assemble.proofs.Nears.{near_cons}
use Rattle.a64_assemble.proofs.Reaching.{reach_within}

module _ (frame : FrameLayout) (flags : EmitFlags) (force : ForceVeneers) (items : List Item) where
  -- ---- one use

  -- a use of a label that the item with this index binds
  pub far_bound : (indices : FinMap nat_cmp ℕ) → HasBindings items indices → (i j : ℕ) (site : Site) (label : MachLabel) → near_label site ≡ Some label → get indices label.0 ≡ Some j → far_label frame flags force items i site ≡ cond (nat_lt (2 ^ 20 - 1) (reach frame flags force items i j)) (Some label) None
  far_bound indices s i j site label near bound =
      ap (option_and_then (λ l. cond (is_far frame flags force items i l) (Some l) None)) near
      ∙ ap (λ o. cond (option_map_or (λ k. nat_lt (2 ^ 20 - 1) (reach frame flags force items i k)) o false) (Some label) None) (sym (s label) ∙ bound)

  -- a map that is kept at an instruction leaves its uses
  pub far_kept : (i : ℕ) (inst : Inst) (kept : Option UserStackMap) → first_some (far_label frame flags force items i) (sites_of (cells_of frame flags (Emit inst kept))) ≡ first_some (far_label frame flags force items i) (sites_of (inst_cells frame flags inst))
  far_kept i inst kept = ap (first_some (far_label frame flags force items i)) (keep_sites (kept_by inst kept) (inst_cells frame flags inst))

  -- ---- item after item

  -- the first such label of the items from one on
  abbrev pub far_rest : ℕ → Option MachLabel
  far_rest i = first_far_from frame flags force items i (drop i items)

  far_more : (i : ℕ) (d x : Item) → i < length items → get_or items i d ≡ x → far_rest i ≡ option_or (first_some (far_label frame flags force items i) (sites_of (cells_of frame flags x))) (far_rest (i + 1))
  far_more i d x within is = ap (first_far_from frame flags force items i) (drop_item items i d x within is)

  pub far_skip : (i : ℕ) (d x : Item) → i < length items → get_or items i d ≡ x → first_some (far_label frame flags force items i) (sites_of (cells_of frame flags x)) ≡ None → far_rest (i + 1) ≡ far_rest i
  far_skip i d x within is none = sym (far_more i d x within is ∙ ap (λ o. option_or o (far_rest (i + 1))) none)

  pub far_found : (i : ℕ) (d x : Item) (label : MachLabel) → i < length items → get_or items i d ≡ x → first_some (far_label frame flags force items i) (sites_of (cells_of frame flags x)) ≡ Some label → far_rest i ≡ Some label
  far_found i d x label within is some = far_more i d x within is ∙ ap (λ o. option_or o (far_rest (i + 1))) some

  pub far_end : (i : ℕ) → length items ≤ i → far_rest i ≡ None
  far_end i all = ap (first_far_from frame flags force items i) (drop_all items i all)

-- ---- where none is too far

module _ (frame : FrameLayout) (flags : EmitFlags) (force : ForceVeneers) (all : List Item) where
  none_near : (f : MachLabel → Option MachLabel) (sites : List Site) → list_any is_near sites ≡ false → first_some (λ site. option_and_then f (near_label site)) sites ≡ None
  none_near f [] e = refl
  none_near f (site ∷ sites) e =
      let both = neither (is_near site) (list_any is_near sites) e in
      ap (λ o. option_or o (first_some (λ s. option_and_then f (near_label s)) sites)) (go (near_label site) both.0) ∙ none_near f sites both.1
    where
      go : (o : Option MachLabel) → is_some o ≡ false → option_and_then f o ≡ None
      go None none = refl
      go (Some label) none = absurd cc

  -- no use needs its label near
  pub far_none : (items : List Item) (n : ℕ) → has_near frame flags items ≡ false → first_far_from frame flags force all n items ≡ None
  far_none [] n e = refl
  far_none (x ∷ items) n e =
      let split : (list_any is_near (sites_of (cells_of frame flags x)) || has_near frame flags items) ≡ false = sym (near_cons frame flags x items) ∙ e in
      let both = neither (list_any is_near (sites_of (cells_of frame flags x))) (has_near frame flags items) split in
      ap (λ o. option_or o (first_far_from frame flags force all (n + 1) items)) (none_near (λ label. cond (is_far frame flags force all n label) (Some label) None) (sites_of (cells_of frame flags x)) both.0)
      ∙ far_none items (n + 1) both.1

  -- the whole is no longer than each of them reaches
  module _ (small : whole frame flags all < 2 ^ 20) where
    never_far : (n : ℕ) (label : MachLabel) → is_far frame flags force all n label ≡ false
    never_far n label = go (binding_index all label)
      where
        go : (o : Option ℕ) → option_map_or (λ j. nat_lt (2 ^ 20 - 1) (reach frame flags force all n j)) o false ≡ false
        go None = refl
        go (Some j) = le-ltb (2 ^ 20 - 1) (reach frame flags force all n j) (omega (arith, small, reach_within frame flags force all n j))

    near_all : (n : ℕ) (sites : List Site) → first_some (far_label frame flags force all n) sites ≡ None
    near_all n [] = refl
    near_all n (site ∷ sites) = ap (λ o. option_or o (first_some (far_label frame flags force all n) sites)) (go (near_label site)) ∙ near_all n sites
      where
        go : (o : Option MachLabel) → option_and_then (λ label. cond (is_far frame flags force all n label) (Some label) None) o ≡ None
        go None = refl
        go (Some label) = ap (λ b. cond b (Some label) None) (never_far n label)

    pub far_small : (items : List Item) (n : ℕ) → first_far_from frame flags force all n items ≡ None
    far_small [] n = refl
    far_small (x ∷ items) n = ap (λ o. option_or o (first_far_from frame flags force all (n + 1) items)) (near_all n (sites_of (cells_of frame flags x))) ∙ far_small items (n + 1)
