-- Each use that can have no veneer reaches its label.
use Rattle.std.proofs.Common.{ℕ, ◌≡◌, ◌+◌, ◌<◌, ◌^◌, ◌-◌, suc, zero, Bool, true, false, cond, List, [], ◌∷◌, length, get_or, Option, None, Some, refl, sym, ap, ◌∙◌, subst, arith, inl, inr}
use Rattle.std.specs.Prelude.{nat_lt, option_and_then}
use Rattle.std.specs.Option.{option_map_or, option_or}
use Rattle.std.proofs.lemmas.Bool.{false≢true, lt-ltb, cases_lt}
use Rattle.a64_base.specs.declared.entity.MachLabel.{MachLabel}
use Rattle.a64_inst.specs.declared.emission.EmitFlags.{EmitFlags}
use Rattle.a64_inst.specs.declared.frame.FrameLayout.{FrameLayout}
use Rattle.a64_inst.specs.declared.item.Item.{Item}
use Rattle.a64_buffer.specs.declared.force.ForceVeneers.{ForceVeneers}
use Rattle.a64_cells.specs.declared.site.Site.{Site}
use Rattle.a64_cells.specs.Cells.{cells_of, sites_of}
use Rattle.a64_emit.specs.Reach.{binding_index, near_label, first_some, first_far_from, far_label, is_far, reach}

-- ---- what is not found

-- where the first of two has no answer, neither has
neither_some : {Y : Type 0} (a b : Option Y) → option_or a b ≡ None → (a ≡ None) × (b ≡ None)
neither_some None b e = (refl, e)
neither_some (Some y) b e = absurd cc

-- where there is no first answer, there is none
none_first : {X Y : Type 0} (f : X → Option Y) (xs : List X) → first_some f xs ≡ None → (k : ℕ) (d : X) → k < length xs → f (get_or xs k d) ≡ None
none_first f [] e k d h = absurd (omega arith)
none_first f (x ∷ xs) e zero d h = (neither_some (f x) (first_some f xs) e).0
none_first f (x ∷ xs) e (suc k) d h = none_first f xs (neither_some (f x) (first_some f xs) e).1 k d (omega arith)

module _ (frame : FrameLayout) (flags : EmitFlags) (force : ForceVeneers) (all : List Item) where
  -- where no use may be too far, each is near
  pub none_far : (items : List Item) (n : ℕ) → first_far_from frame flags force all n items ≡ None → (i k : ℕ) (d : Item) (s : Site) → i < length items → k < length (sites_of (cells_of frame flags (get_or items i d))) → far_label frame flags force all (n + i) (get_or (sites_of (cells_of frame flags (get_or items i d))) k s) ≡ None
  none_far [] n e i k d s h w = absurd (omega arith)
  none_far (x ∷ items) n e zero k d s h w =
      let same : n ≡ n + 0 = omega arith in
      let here = neither_some (first_some (far_label frame flags force all n) (sites_of (cells_of frame flags x))) (first_far_from frame flags force all (n + 1) items) e in
      subst (λ m. far_label frame flags force all m (get_or (sites_of (cells_of frame flags x)) k s) ≡ None) same (none_first (far_label frame flags force all n) (sites_of (cells_of frame flags x)) here.0 k s w)
  none_far (x ∷ items) n e (suc i) k d s h w =
      let same : n + 1 + i ≡ n + suc i = omega arith in
      let later = neither_some (first_some (far_label frame flags force all n) (sites_of (cells_of frame flags x))) (first_far_from frame flags force all (n + 1) items) e in
      subst (λ m. far_label frame flags force all m (get_or (sites_of (cells_of frame flags (get_or items i d))) k s) ≡ None) same (none_far items (n + 1) later.1 i k d s (omega arith) w)

  -- a use that is not too far is within its reach
  pub within_reach : (i j : ℕ) (site : Site) (label : MachLabel) → far_label frame flags force all i site ≡ None → near_label site ≡ Some label → binding_index all label ≡ Some j → reach frame flags force all i j < 2 ^ 20
  within_reach i j site label none near bound =
      let here : cond (is_far frame flags force all i label) (Some label) None ≡ None = sym (ap (option_and_then (λ l. cond (is_far frame flags force all i l) (Some l) None)) near) ∙ none in
      let not_far : nat_lt (2 ^ 20 - 1) (reach frame flags force all i j) ≡ false = sym (ap (λ o. option_map_or (λ m. nat_lt (2 ^ 20 - 1) (reach frame flags force all i m)) o false) bound) ∙ case (is_far frame flags force all i label) here in
      elim (cases_lt (2 ^ 20 - 1) (reach frame flags force all i j)) [
        | inl lt ↦ absurd (false≢true (sym not_far ∙ lt-ltb (2 ^ 20 - 1) (reach frame flags force all i j) lt))
        | inr le ↦ omega (arith, le)
      ]
    where
      case : (b : Bool) → cond b (Some label) None ≡ None → b ≡ false
      case true e = absurd cc
      case false e = refl
