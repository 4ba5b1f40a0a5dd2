-- Uses without veneers reach their labels, also over islands.
use Rattle.std.proofs.Common.{ℕ, zero, suc, ◌≡◌, ◌+◌, ◌*◌, ◌-◌, ◌%◌, ◌^◌, ◌<◌, ◌≤◌, Bool, true, false, cond, List, [], ◌∷◌, ◌++◌, All, length, get_or, take, drop, Option, None, Some, refl, sym, ap, ◌∙◌, subst, arith, inl, inr}
use Rattle.std.specs.Prelude.{min, max, Contains, IfSome, IsSome, IsSomeAnd}
use Rattle.std.specs.FinMap.{get}
use Rattle.std.proofs.lemmas.Bool.{cases_eq, cases_lt, false≢true}
use Rattle.std.proofs.lemmas.List.{get_or_append_left}
use Rattle.std.proofs.lemmas.List.Sums.{sum_by-cons}
use Rattle.a64_buffer.specs.declared.site.Use.{Use}
use Rattle.a64_buffer.specs.declared.site.Target.{Target}
use Rattle.a64_buffer.specs.declared.site.Target.TheVariants.{Label, Constant, Trap, IslandEnd}
use Rattle.a64_buffer.specs.declared.force.ForceVeneers.{ForceVeneers}
use Rattle.a64_buffer.specs.Kinds.{IsWithin}
use Rattle.a64_buffer.specs.Buffer.{Buffer, end_of, label_of, IsBound, IsReached}
use Rattle.a64_buffer.specs.Sound.{IsWhole}
use Rattle.a64_label_use.specs.declared.label_use.LabelUse.{LabelUse}
use Rattle.a64_label_use.specs.declared.label_use.LabelUse.TheVariants as uses
use Rattle.a64_cells.specs.declared.site.Site.{Site}
use Rattle.a64_label_use.specs.LabelUses.{label_kinds}
use Rattle.a64_cells.specs.Cells.{sites_of}
use Rattle.a64_emit.specs.Emission.{site_of}
use Rattle.a64_emit.specs.Reach.{is_near}
use Rattle.a64_assemble.specs.Elements.{Element, Binding, cells_in, size_in, growth_in, charge_in, sizes_in, growths_in, element_at}
use Rattle.a64_assemble.specs.LooseUses.{loose_in, charges_in, reach_between, AreAllBound, AreAllNear}
use Rattle.a64_assemble.specs.Stations.{IsFollowedIn, end_of_element}
use Rattle.a64_assemble.specs.Progress.{HasPut, IsUsedIn, HasDistances}
use Rattle.a64_assemble.proofs.Spreading.{sums_more}

-- sizes and charges
growths_split : (xs : List Element) → growths_in xs ≡ sizes_in xs + charges_in xs
growths_split [] = refl
growths_split (x ∷ xs) = omega (arith, sum_by-cons growth_in x xs, sum_by-cons size_in x xs, sum_by-cons charge_in x xs, growths_split xs)

no_island : {A : Type 0} (x : A) → Contains [] x → ⊥
no_island x h = omega (arith, h.1)

no_sites : (x : Element) (label : ℕ) (s : Site) → x ≡ Binding label → Contains (sites_of (cells_in x)) s → ⊥
no_sites x label s e h = no_island s (subst (λ y. Contains (sites_of (cells_in y)) s) e h)

module _ (force : ForceVeneers) (xs : List Element) (places : List ℕ) (b : Buffer LabelUse) (h : HasPut force xs (length xs) places b) (d : HasDistances xs (length xs) places b) where
  -- all used labels are bound
  pub all_bound : AreAllBound xs → All (IsBound b.labels) b.uses
  all_bound all k e w = go (label_of (get_or b.uses k e).target) (d.used k e w)
    where
      go : (o : Option ℕ) → IfSome o (λ label. IsUsedIn xs label) → IfSome o (λ label. IsSome (get b.labels label))
      go None q = tt
      go (Some n) q = let j = all q.element n q.site q.within q.stands q.label_is in subst IsSome (sym (h.labels.bound j.0 n j.1 j.2)) refl

  module _ (quiet : Bool) (none : quiet ≡ true → b.islands ≡ []) where
    -- with no island, places are just the sizes apart
    exact : b.islands ≡ [] → (hi lo : ℕ) → lo ≤ hi → hi ≤ length xs → get_or (places ++ (end_of b) ∷ []) hi 0 ≤ get_or (places ++ (end_of b) ∷ []) lo 0 + sizes_in (drop lo (take hi xs))
    exact none zero lo le top = let z : lo ≡ 0 = omega arith in omega (arith, ap (λ i. get_or (places ++ (end_of b) ∷ []) i 0) z)
    exact none (suc n) lo le top = elim (cases_eq lo (suc n)) [
      | inl e ↦ omega (arith, ap (λ i. get_or (places ++ (end_of b) ∷ []) i 0) e)
      | inr ne ↦
          let lt : lo ≤ n = omega arith in
          let z = exact none n lo lt (omega arith) in
          let next : IsFollowedIn xs (places ++ (end_of b) ∷ []) [] n = subst (λ is. IsFollowedIn xs (places ++ (end_of b) ∷ []) is n) none (h.laid.next n (omega arith)) in
          let flat : get_or (places ++ (end_of b) ∷ []) (n + 1) 0 ≡ end_of_element xs (places ++ (end_of b) ∷ []) n = elim next [ inl f ↦ f | inr i ↦ absurd (no_island (end_of_element xs (places ++ (end_of b) ∷ []) n, get_or (places ++ (end_of b) ∷ []) (n + 1) 0) i.0) ] in
          let same : n + 1 ≡ suc n = omega arith in
          subst (λ m. get_or (places ++ (end_of b) ∷ []) m 0 ≤ get_or (places ++ (end_of b) ∷ []) lo 0 + sizes_in (drop lo (take m xs))) same (omega (arith, z, flat, sums_more size_in xs lo n lt (omega arith)))
    ]

    -- two places and the size of the later element are within the reach
    span : (lo hi : ℕ) → lo ≤ hi → hi < length xs → get_or (places ++ (end_of b) ∷ []) hi 0 + size_in (element_at xs hi) ≤ get_or (places ++ (end_of b) ∷ []) lo 0 + reach_between quiet xs lo hi
    span lo hi le top = elim quiet as (λ q. quiet ≡ q → get_or (places ++ (end_of b) ∷ []) hi 0 + size_in (element_at xs hi) ≤ get_or (places ++ (end_of b) ∷ []) lo 0 + (sizes_in (drop lo (take (hi + 1) xs)) + cond q 0 (charges_in (drop lo (take (hi + 1) xs)) + 28 * loose_in (take lo xs)))) [
      | true ↦ λ e. let z = exact (none e) hi lo le (omega (arith, top)) in omega (arith, z, sums_more size_in xs lo hi le top)
      | false ↦ λ e. let z = d.spread lo hi le (omega (arith, top)) in omega (arith, z.most, sums_more growth_in xs lo hi le top, growths_split (drop lo (take (hi + 1) xs)))
    ] refl

    behind_it : (i : ℕ) → i < length xs → get_or (places ++ (end_of b) ∷ []) i 0 + size_in (element_at xs i) ≤ get_or (places ++ (end_of b) ∷ []) (i + 1) 0
    behind_it i w = let z = d.spread i (i + 1) (omega arith) (omega (arith, w)) in omega (arith, z.least, sums_more size_in xs i i (omega arith) w, nothing i (omega (arith, w)))
      where
        nothing : (i : ℕ) → i ≤ length xs → 0 ≤ sizes_in (drop i (take i xs))
        nothing i le = omega arith

    reached_by : (u : Use LabelUse) (i j label : ℕ) (s : Site) → AreAllNear quiet xs → i < length xs → j < length xs → Contains (sites_of (cells_in (element_at xs i))) s → is_near s ≡ true → label_of s.target ≡ Some label → element_at xs j ≡ Binding label → get_or (places ++ (end_of b) ∷ []) i 0 ≤ u.offset → u.offset < get_or (places ++ (end_of b) ∷ []) i 0 + size_in (element_at xs i) → (get_or (places ++ (end_of b) ∷ []) j 0 ≤ u.offset + (2 ^ 20 - 1)) × (u.offset ≤ get_or (places ++ (end_of b) ∷ []) j 0 + (2 ^ 20 - 1))
    reached_by u i j label s all wi wj stands near number bind low high =
        let within : reach_between quiet xs (min i j) (max i j) ≤ 2 ^ 20 - 1 = all i j label s wi wj stands near number bind in
        let size : size_in (element_at xs j) ≡ 0 = ap size_in bind in
        elim (cases_eq i j) [
          | inl e ↦ absurd (no_sites (element_at xs i) label s (ap (element_at xs) e ∙ bind) stands)
          | inr ne ↦ elim (cases_lt i j) [
            | inl lt ↦
                let a : min i j ≡ i = omega arith in
                let c : max i j ≡ j = omega arith in
                let close : reach_between quiet xs i j ≤ 2 ^ 20 - 1 = subst (λ hi. reach_between quiet xs i hi ≤ 2 ^ 20 - 1) c (subst (λ lo. reach_between quiet xs lo (max i j) ≤ 2 ^ 20 - 1) a within) in
                let z = d.spread (i + 1) j (omega arith) (omega (arith, wj)) in
                (omega (arith, span i j (omega arith) wj, close, low, size), omega (arith, z.least, behind_it i wi, high))
            | inr ge ↦
                let a : min i j ≡ j = omega arith in
                let c : max i j ≡ i = omega arith in
                let close : reach_between quiet xs j i ≤ 2 ^ 20 - 1 = subst (λ hi. reach_between quiet xs j hi ≤ 2 ^ 20 - 1) c (subst (λ lo. reach_between quiet xs lo (max i j) ≤ 2 ^ 20 - 1) a within) in
                let z = d.spread j i ge (omega (arith, wi)) in
                (omega (arith, z.least, low), omega (arith, span j i ge wi, close, high))
          ]
        ]

    place_is : (j : ℕ) → j < length xs → get_or (places ++ (end_of b) ∷ []) j 0 ≡ get_or places j 0
    place_is j w = get_or_append_left places ((end_of b) ∷ []) 0 j (omega (arith, w, h.laid.each_placed))

    -- a use of a kind without veneers is near its label, or may be as far as code is long
    one_direct : AreAllNear quiet xs → AreAllBound xs → end_of b < 2 ^ 31 → (k : ℕ) (e : Use LabelUse) → k < length b.uses → (get_or b.uses k e).offset < end_of b → (t : Target) (kind : LabelUse) → (get_or b.uses k e).target ≡ t → (get_or b.uses k e).kind ≡ kind → label_kinds.veneers kind ≡ false → (place : ℕ) → IfSome (label_of t) (λ label. get b.labels label ≡ Some place → place ≤ end_of b → IsWithin (label_kinds.forward kind) (label_kinds.backward kind) (get_or b.uses k e).offset place)
    one_direct all bound short k e w placed (Label l) kind et ek direct place = λ at low. go kind ek direct at low
      where
        close : is_near (site_of (get_or b.uses k e)).1 ≡ true → get b.labels l.0 ≡ Some place → (place ≤ (get_or b.uses k e).offset + (2 ^ 20 - 1)) × ((get_or b.uses k e).offset ≤ place + (2 ^ 20 - 1))
        close near at =
            let z = d.near k e w near in
            let j = h.labels.only l.0 place at in
            let x = reached_by (get_or b.uses k e) z.element j.0 l.0 (site_of (get_or b.uses k e)).1 all z.within j.1 z.stands near (ap label_of et) j.2 z.low z.high in
            (omega (arith, x.0, place_is j.0 j.1, j.3), omega (arith, x.1, place_is j.0 j.1, j.3))

        near_is : (kind : LabelUse) → (get_or b.uses k e).kind ≡ kind → is_near (site_of (get_or b.uses k e)).1 ≡ is_near (record { kind = kind; target = Label l })
        near_is kind ek = ap (λ q. is_near (record { kind = q; target = (get_or b.uses k e).target })) ek ∙ ap (λ t. is_near (record { kind = kind; target = t })) et

        go : (kind : LabelUse) → (get_or b.uses k e).kind ≡ kind → label_kinds.veneers kind ≡ false → get b.labels l.0 ≡ Some place → place ≤ end_of b → IsWithin (label_kinds.forward kind) (label_kinds.backward kind) (get_or b.uses k e).offset place
        go uses.Branch14 ek direct at low = absurd (false≢true (sym direct))
        go uses.Branch19 ek direct at low = absurd (false≢true (sym direct))
        go uses.Branch26 ek direct at low = absurd (false≢true (sym direct))
        go uses.Ldr19 ek direct at low = let x = close (near_is uses.Ldr19 ek) at in record { ahead = x.0; behind = omega (arith, x.1) }
        go uses.Adr21 ek direct at low = let x = close (near_is uses.Adr21 ek) at in record { ahead = x.0; behind = omega (arith, x.1) }
        go uses.PCRel32 ek direct at low = record { ahead = omega (arith, low, short); behind = omega (arith, placed, short) }
    one_direct all bound short k e w placed (Constant c) kind et ek direct place = tt
    one_direct all bound short k e w placed (Trap c) kind et ek direct place = tt
    one_direct all bound short k e w placed IslandEnd kind et ek direct place = tt

    pub all_direct : AreAllNear quiet xs → AreAllBound xs → IsWhole label_kinds b → All (λ u. label_kinds.veneers u.kind ≡ false → IsReached label_kinds b.labels u) b.uses
    all_direct all bound whole k e w direct = go (label_of (get_or b.uses k e).target) refl (all_bound bound k e w)
      where
        some_place : (o : Option ℕ) → IsSome o → (g : ℕ) × (o ≡ Some g)
        some_place None s = absurd (false≢true s)
        some_place (Some g) s = (g, refl)

        go : (o : Option ℕ) → label_of (get_or b.uses k e).target ≡ o → IfSome o (λ label. IsSome (get b.labels label)) → IfSome o (λ label. IsSomeAnd (get b.labels label) (λ place. IsWithin (label_kinds.forward (get_or b.uses k e).kind) (label_kinds.backward (get_or b.uses k e).kind) (get_or b.uses k e).offset place))
        go None q s = tt
        go (Some n) q s =
            let g = some_place (get b.labels n) s in
            let low = subst (λ o. IfSome o (λ place. (place % 4 ≡ 0) × (place ≤ end_of b))) g.1 (whole.sound.bound n) in
            let one = subst (λ o. IfSome o (λ label. get b.labels label ≡ Some g.0 → g.0 ≤ end_of b → IsWithin (label_kinds.forward (get_or b.uses k e).kind) (label_kinds.backward (get_or b.uses k e).kind) (get_or b.uses k e).offset g.0)) q
            (one_direct all bound whole.sound.short k e w (whole.sound.placed k e w).inside (get_or b.uses k e).target (get_or b.uses k e).kind refl refl direct g.0) in
            subst (λ o. IsSomeAnd o (λ place. IsWithin (label_kinds.forward (get_or b.uses k e).kind) (label_kinds.backward (get_or b.uses k e).kind) (get_or b.uses k e).offset place)) (sym g.1) (one g.1 low.1)
