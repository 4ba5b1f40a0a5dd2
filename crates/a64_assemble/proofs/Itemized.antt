-- What is true of items, told of the elements that they are.
use Rattle.std.proofs.Common.{ℕ, zero, suc, ◌≡◌, ◌+◌, ◌*◌, ◌^◌, ◌<◌, ◌≤◌, Bool, true, false, cond, not, List, [], ◌∷◌, All, length, get_or, map, take, drop, Option, None, Some, refl, sym, ap, ◌∙◌, subst, arith, inl, inr}
use Rattle.std.specs.Prelude.{◌&&◌, ◌||◌, nat_eq, nat_lt, min, max, Contains, sum_by, count_by, is_some}
use Rattle.std.specs.List.{list_any, slice_get}
use Rattle.std.specs.Option.{option_map_or}
use Rattle.std.proofs.lemmas.Bool.{cases_lt, cases_eq, false≢true, ltb-true}
use Rattle.std.proofs.lemmas.List.{drop-map, get_or-map, length-map, get_or-take, get_or_default, length-take-le, take_all}
use Rattle.std.proofs.lemmas.List.Sums.{sum_by-cons}
use Rattle.std.proofs.lemmas.List.Elements.{filter_map-append, Contains-append_left, Contains-append_right}
use Rattle.std.proofs.lemmas.Option.{slice_get-get_or, slice_get_within}
use Rattle.a64_base.specs.declared.entity.MachLabel.{MachLabel}
use Rattle.a64_inst.specs.declared.emission.EmitFlags.{EmitFlags}
use Rattle.a64_inst.specs.declared.frame.FrameLayout.{FrameLayout}
use Rattle.a64_inst.specs.declared.inst.Inst.TheVariants as insts
use Rattle.a64_inst.specs.declared.item.Item.{Item}
use Rattle.a64_inst.specs.declared.item.Item.TheVariants.{Bind, Emit}
use Rattle.a64_buffer.specs.declared.force.ForceVeneers.{ForceVeneers}
use Rattle.a64_buffer.specs.declared.force.ForceVeneers.TheVariants.{No, Yes}
use Rattle.a64_buffer.specs.declared.site.Target.{Target}
use Rattle.a64_buffer.specs.declared.site.Target.TheVariants.{Label, Constant, Trap, IslandEnd}
use Rattle.a64_buffer.specs.Buffer.{label_of}
use Rattle.a64_cells.specs.declared.site.Site.{Site}
use Rattle.a64_cells.specs.Cells.{sites_of, cells_of, all_cells}
use Rattle.a64_emit.specs.Bounds.{veneer_range, ranges_in, lesser, least, growth_of, item_size, item_charge, whole}
use Rattle.a64_emit.specs.Faults.{used_label, second_binding, unbound_use}
use Rattle.a64_emit.specs.Reach.{binds, span, is_unforced, needs_near, near_label, is_near, far_label, sizes, charges, is_quiet, is_loose, loose, reach, first_far_from}
use Rattle.a64_label_use.specs.LabelUses.{label_kinds, has_veneer, forward_range}
use Rattle.a64_label_use.specs.LabelLaws.{label_kinds_lawful}
use Rattle.a64_assemble.specs.Progress.{AreQuiet}
use Rattle.a64_emit.proofs.Burdens.{open_range}
use Rattle.a64_buffer.specs.Classes.{wants}
use Rattle.a64_buffer.specs.Sound.{IsKinded}
use Rattle.a64_buffer.proofs.Rooms.{wanting_range}
use Rattle.a64_emit.specs.Contents.{site_class}
use Rattle.a64_assemble.specs.Elements.{Element, Binding, Asking, element_of, elements_of, cells_in, size_in, charge_in, growth_in, space_in, sizes_in, whole_in, is_bound_by, AreBoundOnce, element_at}
use Rattle.a64_assemble.specs.LooseUses.{is_alive, is_load, loose_in, charges_in, reach_between, AreAllBound, AreAllNear}
use Rattle.a64_assemble.proofs.Checked.{not_bound_before, among_bindings, uses_bound}
use Rattle.a64_assemble.proofs.Reached.{none_far, within_reach}
use Rattle.a64_emit.proofs.Sites.{found_in}
use Rattle.a64_assemble.proofs.Spans.{has_binding, first_binding}
use Rattle.a64_emit.specs.Layout.{standing}

-- ---- lists

take-map : {X Y : Type 0} (f : X → Y) (n : ℕ) (xs : List X) → take n (map f xs) ≡ map f (take n xs)
take-map f zero xs = refl
take-map f (suc n) [] = refl
take-map f (suc n) (x ∷ xs) = ap (λ ys. f x ∷ ys) (take-map f n xs)

module _ (frame : FrameLayout) (flags : EmitFlags) where
  -- ---- sums

  sum_same : (f : Element → ℕ) (h : Item → ℕ) → ((x : Item) → f (element_of frame flags x) ≡ h x) → (items : List Item) → sum_by f (elements_of frame flags items) ≡ sum_by h items
  sum_same f h same [] = refl
  sum_same f h same (x ∷ items) = omega (arith, sum_by-cons f (element_of frame flags x) (elements_of frame flags items), sum_by-cons h x items, same x, sum_same f h same items)

  pub cells_same : (x : Item) → cells_in (element_of frame flags x) ≡ cells_of frame flags x
  cells_same (Bind label) = refl
  cells_same (Emit (insts.EmitIsland space) kept) = refl
  cells_same (Emit _ kept) = refl

  size_same : (x : Item) → size_in (element_of frame flags x) ≡ item_size frame flags x
  size_same (Bind label) = refl
  size_same (Emit (insts.EmitIsland space) kept) = refl
  size_same (Emit _ kept) = refl

  charge_same : (x : Item) → charge_in (element_of frame flags x) ≡ item_charge frame flags x
  charge_same (Bind label) = refl
  charge_same (Emit (insts.EmitIsland space) kept) = refl
  charge_same (Emit _ kept) = refl

  pub grows_same : (x : Item) → growth_in (element_of frame flags x) + space_in (element_of frame flags x) ≡ growth_of frame flags x
  grows_same (Bind label) = refl
  grows_same (Emit (insts.EmitIsland space) kept) = omega arith
  grows_same (Emit _ kept) = omega arith

  pub whole_same : (items : List Item) → whole_in (elements_of frame flags items) ≡ whole frame flags items
  whole_same items = sum_same (λ x. growth_in x + space_in x) (growth_of frame flags) grows_same items

  pub sizes_same : (items : List Item) → sizes_in (elements_of frame flags items) ≡ sizes frame flags items
  sizes_same items = sum_same size_in (item_size frame flags) size_same items

  charges_same : (items : List Item) → charges_in (elements_of frame flags items) ≡ charges frame flags items
  charges_same items = sum_same charge_in (item_charge frame flags) charge_same items

  part_same : (i j : ℕ) (items : List Item) → drop i (take j (elements_of frame flags items)) ≡ elements_of frame flags (drop i (take j items))
  part_same i j items = ap (drop i) (take-map (element_of frame flags) j items) ∙ drop-map (element_of frame flags) i (take j items)

  -- ---- labels that are bound

  pub bound_same : (items : List Item) (label : MachLabel) → is_bound_by (elements_of frame flags items) label.0 ≡ list_any (binds label) items
  bound_same [] label = refl
  bound_same (Bind bound ∷ items) label = ap (λ b. nat_eq bound.0 label.0 || b) (bound_same items label)
  bound_same (Emit (insts.EmitIsland space) kept ∷ items) label = bound_same items label
  bound_same (Emit _ kept ∷ items) label = bound_same items label

  -- an element that binds a label is an item that does
  pub binding_item : (items : List Item) (i label : ℕ) → i < length items → element_at (elements_of frame flags items) i ≡ Binding label → slice_get items i ≡ Some (Bind (record { 0 = label }))
  binding_item [] i label w e = absurd (omega arith)
  binding_item (Bind bound ∷ items) zero label w e = ap (λ n. Some (Bind (record { 0 = n }))) (same_binding e)
    where
      same_binding : {m n : ℕ} → Binding m ≡ Binding n → m ≡ n
      same_binding f = cc
  binding_item (Emit (insts.EmitIsland space) kept ∷ items) zero label w e = absurd cc
  binding_item (Emit _ kept ∷ items) zero label w e = absurd cc
  binding_item (x ∷ items) (suc i) label w e = binding_item items i label (omega arith) e

  count_same : (items : List Item) → length (elements_of frame flags items) ≡ length items
  count_same items = length-map items (element_of frame flags)

  pub once_same : (items : List Item) → second_binding items ≡ None → AreBoundOnce (elements_of frame flags items)
  once_same items none i j label wi wj bi bj =
      let li : i < length items = omega (arith, wi, count_same items) in
      let lj : j < length items = omega (arith, wj, count_same items) in
      elim (cases_eq i j) [
        | inl e ↦ e
        | inr ne ↦ elim (cases_lt i j) [
          | inl lt ↦ absurd (twice i j lt lj (binding_item items i label li bi) (binding_item items j label lj bj))
          | inr ge ↦ absurd (twice j i (omega (arith, ge)) li (binding_item items j label lj bj) (binding_item items i label li bi))
        ]
      ]
    where
      twice : (a b : ℕ) → a < b → b < length items → slice_get items a ≡ Some (Bind (record { 0 = label })) → slice_get items b ≡ Some (Bind (record { 0 = label })) → ⊥
      twice a b lt wb ea eb =
          let d : Item = Bind (record { 0 = label }) in
          let there : get_or items b d ≡ Bind (record { 0 = label }) = some_same (sym (slice_get-get_or items b d wb) ∙ eb) in
          let first : slice_get (take b items) a ≡ Some (Bind (record { 0 = label })) = slice_get-get_or (take b items) a d (omega (arith, lt, length-take-le b items (omega arith))) ∙ ap (λ (x : Item). Some x) (get_or-take b items a d lt ∙ some_same (sym (slice_get-get_or items a d (omega (arith, lt, wb))) ∙ ea)) in
          false≢true (sym (not_bound_before items b d (record { 0 = label }) none wb there) ∙ among_bindings (take b items) a (record { 0 = label }) (record { 0 = label }) first refl)
        where
          some_same : {x y : Item} → Some x ≡ Some y → x ≡ y
          some_same f = cc

  -- ---- loose uses

  loose_sites : (later : List Item) (ss : List Site) → count_by (is_loose frame flags later) ss ≡ count_by (is_alive (λ n. true) (elements_of frame flags later)) ss + cond (nat_lt (sizes_in (elements_of frame flags later)) (2 ^ 20)) (count_by is_load ss) 0
  loose_sites later [] = nothing (nat_lt (sizes_in (elements_of frame flags later)) (2 ^ 20))
    where
      nothing : (q : Bool) → 0 ≡ 0 + cond q 0 0
      nothing true = refl
      nothing false = refl
  loose_sites later (s ∷ ss) = add (cond (is_loose frame flags later s) 1 0) (cond (is_alive (λ n. true) (elements_of frame flags later) s) 1 0) (cond (is_load s) 1 0) (count_by (is_loose frame flags later) ss) (count_by (is_alive (λ n. true) (elements_of frame flags later)) ss) (count_by is_load ss) (count_by (is_loose frame flags later) (s ∷ ss)) (count_by (is_alive (λ n. true) (elements_of frame flags later)) (s ∷ ss)) (count_by is_load (s ∷ ss)) (one s.target) (loose_sites later ss) (sum_by-cons (λ s. cond (is_loose frame flags later s) 1 0) s ss) (sum_by-cons (λ s. cond (is_alive (λ n. true) (elements_of frame flags later) s) 1 0) s ss) (sum_by-cons (λ s. cond (is_load s) 1 0) s ss)
    where
      label_one : (a b : Bool) → cond a 1 0 ≡ cond a 1 0 + cond b 0 0
      label_one true true = refl
      label_one true false = refl
      label_one false true = refl
      label_one false false = refl

      one : (t : Target) → cond (is_loose frame flags later (record { kind = s.kind; target = t })) 1 0 ≡ cond (is_alive (λ n. true) (elements_of frame flags later) (record { kind = s.kind; target = t })) 1 0 + cond (nat_lt (sizes_in (elements_of frame flags later)) (2 ^ 20)) (cond (is_load (record { kind = s.kind; target = t })) 1 0) 0
      one (Label l) = ap (λ b. cond {A = ℕ} (has_veneer s.kind && not b) 1 0) (sym (bound_same later l)) ∙ label_one (has_veneer s.kind && not (is_bound_by (elements_of frame flags later) l.0)) (nat_lt (sizes_in (elements_of frame flags later)) (2 ^ 20))
      one (Constant c) = let e = ap (λ n. cond {A = ℕ} (nat_lt n (2 ^ 20)) 1 0) (sym (sizes_same later)) in omega (arith, e)
      one (Trap c) = let e = ap (λ n. cond {A = ℕ} (nat_lt n (2 ^ 20)) 1 0) (sym (sizes_same later)) in omega (arith, e)
      one IslandEnd = label_one false (nat_lt (sizes_in (elements_of frame flags later)) (2 ^ 20))

      add : (a b c a' b' c' l m n : ℕ) → a ≡ b + cond (nat_lt (sizes_in (elements_of frame flags later)) (2 ^ 20)) c 0 → a' ≡ b' + cond (nat_lt (sizes_in (elements_of frame flags later)) (2 ^ 20)) c' 0 → l ≡ a + a' → m ≡ b + b' → n ≡ c + c' → l ≡ m + cond (nat_lt (sizes_in (elements_of frame flags later)) (2 ^ 20)) n 0
      add a b c a' b' c' l m n p p' el em en = go (nat_lt (sizes_in (elements_of frame flags later)) (2 ^ 20)) p p'
        where
          go : (q : Bool) → a ≡ b + cond q c 0 → a' ≡ b' + cond q c' 0 → l ≡ m + cond q n 0
          go true p p' = omega (arith, p, p', el, em, en)
          go false p p' = omega (arith, p, p', el, em)

  pub loose_same : (items : List Item) → loose_in (elements_of frame flags items) ≡ loose frame flags items
  loose_same [] = refl
  loose_same (x ∷ later) =
      let here = loose_sites later (sites_of (cells_of frame flags x)) in
      let a = ap (λ cs. count_by (is_alive (λ n. true) (elements_of frame flags later)) (sites_of cs)) (cells_same x) in
      let l = ap (λ cs. cond (nat_lt (sizes_in (elements_of frame flags later)) (2 ^ 20)) (count_by is_load (sites_of cs)) 0) (cells_same x) in
      omega (arith, here, a, l, loose_same later)

  -- ---- reach

  pub reach_same : (force : ForceVeneers) (items : List Item) (i j : ℕ) → reach_between (is_quiet frame flags force items) (elements_of frame flags items) (min i j) (max i j) ≡ reach frame flags force items i j
  reach_same force items i j =
      let part = part_same (min i j) (max i j + 1) items in
      let s = ap sizes_in part ∙ sizes_same (span items (min i j) (max i j)) in
      let c = ap charges_in part ∙ charges_same (span items (min i j) (max i j)) in
      let l = ap loose_in (take-map (element_of frame flags) (min i j) items) ∙ loose_same (take (min i j) items) in
      ap (λ n. n + cond (is_quiet frame flags force items) 0 (charges_in (drop (min i j) (take (max i j + 1) (elements_of frame flags items))) + 28 * loose_in (take (min i j) (elements_of frame flags items)))) s
      ∙ ap (λ n. sizes frame flags (span items (min i j) (max i j)) + cond (is_quiet frame flags force items) 0 (n + 28 * loose_in (take (min i j) (elements_of frame flags items)))) c
      ∙ ap (λ n. sizes frame flags (span items (min i j) (max i j)) + cond (is_quiet frame flags force items) 0 (charges frame flags (span items (min i j) (max i j)) + 28 * n)) l

  -- ---- what the checks say

  site_item : (items : List Item) (i : ℕ) (s : Site) → i < length items → Contains (sites_of (cells_in (element_at (elements_of frame flags items) i))) s → Contains (sites_of (cells_of frame flags (get_or items i (Bind (record { 0 = 0 }))))) s
  site_item items i s w h = subst (λ cs. Contains (sites_of cs) s) (ap cells_in (get_or-map (element_of frame flags) items i (Bind (record { 0 = 0 })) (Asking 0) w) ∙ cells_same (get_or items i (Bind (record { 0 = 0 })))) h

  pub near_same : (force : ForceVeneers) (items : List Item) → second_binding items ≡ None → first_far_from frame flags force items 0 items ≡ None → AreAllNear (is_quiet frame flags force items) (elements_of frame flags items)
  near_same force items once none i j label s wi wj stands near number bind =
      let d : Item = Bind (record { 0 = 0 }) in
      let li : i < length items = omega (arith, wi, count_same items) in
      let lj : j < length items = omega (arith, wj, count_same items) in
      let c = site_item items i s li stands in
      let there : slice_get items j ≡ Some (Bind (record { 0 = label })) = binding_item items j label lj bind in
      let index = has_binding items 0 j (record { 0 = label }) (record { 0 = label }) there refl in
      let first = first_binding items (record { 0 = label }) index.0 index.1 in
      let same : index.0 ≡ j = once_same items once index.0 j label (omega (arith, first.within, count_same items)) wj (get_or-map (element_of frame flags) items index.0 d (Asking 0) first.within ∙ ap (element_of frame flags) (first.is d) ∙ ap (λ n. Binding n) first.same) bind in
      let start : 0 + i ≡ i = omega arith in
      let not_far : far_label frame flags force items i s ≡ None = sym (ap (far_label frame flags force items i) c.2) ∙ subst (λ n. far_label frame flags force items n (get_or (sites_of (cells_of frame flags (get_or items i d))) c.0 s) ≡ None) start (none_far frame flags force items items 0 none i c.0 d s li c.1) in
      let within = within_reach frame flags force items i index.0 s (record { 0 = label }) not_far (label_near s label near number) index.1 in
      omega (arith, within, ap (reach frame flags force items i) same, reach_same force items i j)
    where
      label_near : (s : Site) (label : ℕ) → is_near s ≡ true → label_of s.target ≡ Some label → near_label s ≡ Some (record { 0 = label })
      label_near s label near number = go s.target near number
        where
          pick : (b : Bool) (l : MachLabel) → is_some (cond b (Some l) None) ≡ true → l.0 ≡ label → cond b (Some l) None ≡ Some (record { 0 = label })
          pick true l e f = ap (λ n. Some (record { 0 = n })) f
          pick false l e f = absurd (false≢true e)

          some_eq : {m n : ℕ} → Some m ≡ Some n → m ≡ n
          some_eq f = cc

          go : (t : Target) → is_near (record { kind = s.kind; target = t }) ≡ true → label_of t ≡ Some label → near_label (record { kind = s.kind; target = t }) ≡ Some (record { 0 = label })
          go (Label l) near number = pick (needs_near s.kind) l near (some_eq number)
          go (Constant c) near number = absurd (false≢true near)
          go (Trap c) near number = absurd (false≢true near)
          go IslandEnd near number = absurd (false≢true near)

  -- every use of the items' cells stands among all uses
  all_sites : (items : List Item) (i : ℕ) (d : Item) (s : Site) → i < length items → Contains (sites_of (cells_of frame flags (get_or items i d))) s → Contains (sites_of (all_cells frame flags items)) s
  all_sites [] i d s w h = absurd (omega arith)
  all_sites (x ∷ items) zero d s w h = subst (λ ss. Contains ss s) (sym (filter_map-append (λ cell. cell.site) (cells_of frame flags x) (all_cells frame flags items))) (Contains-append_left (sites_of (cells_of frame flags x)) (sites_of (all_cells frame flags items)) s h)
  all_sites (x ∷ items) (suc i) d s w h = subst (λ ss. Contains ss s) (sym (filter_map-append (λ cell. cell.site) (cells_of frame flags x) (all_cells frame flags items))) (Contains-append_right (sites_of (cells_of frame flags x)) (sites_of (all_cells frame flags items)) s (all_sites items i d s (omega arith) h))

  -- where no item's label is unbound, no element's is
  pub bound_all : (items : List Item) → unbound_use frame flags items ≡ None → AreAllBound (elements_of frame flags items)
  bound_all items none i label s wi stands number =
      let d : Item = Bind (record { 0 = 0 }) in
      let li : i < length items = omega (arith, wi, count_same items) in
      let c = all_sites items i d s li (site_item items i s li stands) in
      let found = found_in used_label (sites_of (all_cells frame flags items)) c.0 s (record { 0 = label }) c.1 (ap used_label c.2 ∙ used s.target number) in
      let binding = uses_bound frame flags items none found.index (record { 0 = label }) found.within in
      let same : binding.label.0 ≡ label = binding.same ∙ ap (λ (l : MachLabel). l.0) (found.is (record { 0 = label })) in
      let within = slice_get_within items binding.index (Bind binding.label) binding.binds in
      let there : get_or items binding.index d ≡ Bind binding.label = some_item (sym (slice_get-get_or items binding.index d within) ∙ binding.binds) in
      (binding.index, omega (arith, within, count_same items), get_or-map (element_of frame flags) items binding.index d (Asking 0) within ∙ ap (element_of frame flags) there ∙ ap (λ n. Binding n) same)
    where
      some_item : {x y : Item} → Some x ≡ Some y → x ≡ y
      some_item f = cc

      used : (t : Target) → label_of t ≡ Some label → used_label (record { kind = s.kind; target = t }) ≡ Some (record { 0 = label })
      used (Label l) e = ap (λ n. Some (record { 0 = n })) (number_is e)
        where
          number_is : Some l.0 ≡ Some label → l.0 ≡ label
          number_is f = cc
      used (Constant c) e = absurd cc
      used (Trap c) e = absurd cc
      used IslandEnd e = absurd cc

  -- ---- quiet items

  -- where items are quiet, so are their elements
  pub quiet_same : (force : ForceVeneers) (items : List Item) → All (λ s. IsKinded label_kinds s.target s.kind) (sites_of (all_cells frame flags items)) → is_quiet frame flags force items ≡ true → AreQuiet force (elements_of frame flags items)
  quiet_same force items kinded quiet i e wi k s w want =
      let d : Item = Bind (record { 0 = 0 }) in
      let li : i < length items = omega (arith, wi, count_same items) in
      let site : Site = get_or (sites_of (cells_in (get_or (elements_of frame flags items) i e))) k s in
      let here : Contains (sites_of (cells_in (element_at (elements_of frame flags items) i))) site = subst (λ (x : Element). Contains (sites_of (cells_in x)) site) (get_or_default (elements_of frame flags items) i e (Asking 0) wi) (k, w, get_or_default (sites_of (cells_in (get_or (elements_of frame flags items) i e))) k site s w) in
      let c = all_sites items i d site li (site_item items i site li here) in
      let found = found_in veneer_range (sites_of (all_cells frame flags items)) c.0 site (forward_range site.kind) c.1 (ap veneer_range c.2 ∙ wanted_range site want) in
      let least' = least_le (ranges_in (all_cells frame flags items)) found.index found.within in
      let z = both (is_unforced force) (nat_lt (whole frame flags items) least'.0) (sym (ap (λ o. option_map_or (λ range. is_unforced force && nat_lt (whole frame flags items) range) o true) least'.1) ∙ quiet) in
      let is_kinded = subst (λ (s : Site). IsKinded label_kinds s.target s.kind) c.2 (kinded c.0 site c.1) in
      let range = wanting_range label_kinds label_kinds_lawful site.target site.kind is_kinded want in
      (unforced_is force z.0, omega (arith, ltb-true (whole frame flags items) least'.0 z.1, least'.2, found.is 0, range, whole_same items))
    where
      both : (a b : Bool) → (a && b) ≡ true → (a ≡ true) × (b ≡ true)
      both true b e = (refl, e)
      both false b e = absurd (false≢true e)

      unforced_is : (force : ForceVeneers) → is_unforced force ≡ true → force ≡ No
      unforced_is No e = refl
      unforced_is Yes e = absurd (false≢true e)

      wanted_range : (s : Site) → wants (site_class s) ≡ true → veneer_range s ≡ Some (forward_range s.kind)
      wanted_range s want = open_range (record { offset = 0; target = s.target; kind = s.kind; stop = None }) (ap (λ b. b && true) want)

      least_le : (rs : List ℕ) (k : ℕ) → k < length rs → (m : ℕ) × (least rs ≡ Some m) × (m ≤ get_or rs k 0)
      least_le [] k w = absurd (omega arith)
      least_le (x ∷ xs) zero w = (option_map_or (min x) (least xs) x, refl, below (least xs))
        where
          below : (o : Option ℕ) → option_map_or (min x) o x ≤ x
          below None = omega arith
          below (Some y) = omega arith
      least_le (x ∷ xs) (suc k) w =
          let z = least_le xs k (omega arith) in
          (min x z.0, ap (lesser (Some x)) z.1, omega (arith, z.2))

-- ---- their cells

module _ (frame : FrameLayout) (flags : EmitFlags) where
  pub cell_lists : (items : List Item) → map cells_in (elements_of frame flags items) ≡ map (cells_of frame flags) items
  cell_lists [] = refl
  cell_lists (x ∷ items) = ap (λ cs. cs ∷ map cells_in (elements_of frame flags items)) (cells_same frame flags x) ∙ ap (λ css. cells_of frame flags x ∷ css) (cell_lists items)

  pub all_cells_are : (items : List Item) (places : List ℕ) → standing (map cells_in (take (length (elements_of frame flags items)) (elements_of frame flags items))) places ≡ standing (map (cells_of frame flags) items) places
  all_cells_are items places = ap (λ xs. standing (map cells_in xs) places) (take_all (length (elements_of frame flags items)) (elements_of frame flags items) (omega arith)) ∙ ap (λ css. standing css places) (cell_lists items)
