-- Where elements and islands stand, one behind another.
use Rattle.std.proofs.Common.{ℕ, zero, suc, ◌≡◌, ◌+◌, ◌-◌, ◌<◌, ◌≤◌, true, false, List, [], ◌∷◌, ◌++◌, get_or, sym, ap, ◌∙◌, subst, arith, inl, inr}
use Rattle.std.specs.Prelude.{Contains}
use Rattle.std.proofs.lemmas.Bool.{cases_lt, cases_eq, false≢true}
use Rattle.std.proofs.lemmas.List.{get_or_default}
use Rattle.a64_assemble.specs.Elements.{Element, Binding, Words, Asking, size_in, hosts, falls_in, element_at}
use Rattle.a64_assemble.specs.Stations.{IsIslandBehind, IsLaid, end_of_element}

-- an element behind which an island may stand, and execution does not go on, has words
pub has_size : (x : Element) → hosts x ≡ true → falls_in x ≡ false → 4 ≤ size_in x
has_size (Binding label) host stops = absurd (false≢true host)
has_size (Words goes_on []) host stops = absurd (false≢true host)
has_size (Words goes_on (c ∷ cs)) host stops = omega arith
has_size (Asking space) host stops = absurd (false≢true (sym stops))

module _ (xs : List Element) (count : ℕ) (places : List ℕ) (islands : List (ℕ × ℕ)) (end : ℕ) (laid : IsLaid xs count places islands end) where
  abbrev station : ℕ → ℕ
  station i = get_or (places ++ end ∷ []) i 0

  pub next_station : (i : ℕ) → i < count → station i ≤ station (i + 1)
  next_station i h = elim (laid.next i h) [ inl flat ↦ omega (arith, flat) | inr island ↦ (let long = island.1.long in omega (arith, long)) ]

  -- what follows an element stands at its end or behind it
  element_before : (i : ℕ) → i < count → end_of_element xs (places ++ end ∷ []) i ≤ station (i + 1)
  element_before i h = elim (laid.next i h) [ inl flat ↦ omega (arith, flat) | inr island ↦ (let long = island.1.long in omega (arith, long)) ]

  stations_rise : (n i : ℕ) → i + n ≤ count → station i ≤ station (i + n)
  stations_rise zero i h = let e : i ≡ i + 0 = omega arith in subst (λ j. station i ≤ station j) e (omega arith)
  stations_rise (suc n) i h =
      let e : i + n + 1 ≡ i + suc n = omega arith in
      subst (λ j. station i ≤ station j) e (let a = stations_rise n i (omega (arith, h)) in let b = next_station (i + n) (omega (arith, h)) in omega (arith, a, b))

  pub rises : (i j : ℕ) → i ≤ j → j ≤ count → station i ≤ station j
  rises i j le h = let e : i + (j - i) ≡ j = omega (arith, le) in subst (λ k. station i ≤ station k) e (stations_rise (j - i) i (omega (arith, le, h)))

  -- no element stands inside of an island
  pub not_inside : (island : ℕ × ℕ) → Contains islands island → (i : ℕ) → i < count → island.0 < station i → station i < island.1 → ⊥
  not_inside island listed i h low high =
      let once = subst (λ (x : ℕ × ℕ). (after : ℕ) × (after < count) × (x.0 ≡ end_of_element xs (places ++ end ∷ []) after) × (x.1 ≡ station (after + 1))) listed.2 (let z = laid.once listed.0 island listed.1 in (z.after, z.within, z.stands.begins, z.stands.ends)) in
      elim (cases_lt once.0 i) [
        | inl behind ↦ (let a = rises (once.0 + 1) i (omega (arith, behind)) (omega (arith, h)) in omega (arith, a, once.3, high))
        | inr before ↦ (let a = rises i once.0 (omega (arith, before)) (let w = once.1 in omega (arith, w)) in omega (arith, a, once.2, low))
      ]

  -- an island does not begin inside of another
  pub islands_apart : (x y : ℕ × ℕ) → Contains islands x → Contains islands y → x.0 < y.0 → y.0 < x.1 → ⊥
  islands_apart x y cx cy low high = elim (cases_lt cx.0 cy.0) [
    | inl lt ↦ (let a = laid.apart cx.0 cy.0 x lt cy.1 in omega (arith, a, ap (λ (i : ℕ × ℕ). i.1) cx.2, ap (λ (i : ℕ × ℕ). i.0) (get_or_default islands cy.0 x y cy.1 ∙ cy.2), high))
    | inr ge ↦ elim (cases_eq cx.0 cy.0) [
      | inl e ↦ (let same : x ≡ y = sym cx.2 ∙ (ap (λ n. get_or islands n x) e ∙ (get_or_default islands cy.0 x y cy.1 ∙ cy.2)) in omega (arith, ap (λ (i : ℕ × ℕ). i.0) same, low))
      | inr ne ↦ (let a = laid.apart cy.0 cx.0 x (omega (arith, ge, ne)) cx.1 in let long : y.0 ≤ y.1 = subst (λ (i : ℕ × ℕ). i.0 ≤ i.1) cy.2 (let z = (laid.once cy.0 y cy.1).stands.long in omega (arith, z)) in omega (arith, a, long, ap (λ (i : ℕ × ℕ). i.0) cx.2, ap (λ (i : ℕ × ℕ). i.1) (get_or_default islands cy.0 x y cy.1 ∙ cy.2), low))
    ]
  ]

  -- where execution does not go on behind an island's element, that has words, so that no element stands at the
  -- island's begin either
  pub not_within : (island : ℕ × ℕ) (after : ℕ) → after < count → IsIslandBehind xs (places ++ end ∷ []) after island → falls_in (element_at xs after) ≡ false
      → (i : ℕ) → i < count → island.0 ≤ station i → station i < island.1 → ⊥
  not_within island after within s stops i h low high = elim (cases_lt after i) [
    | inl behind ↦ (let a = rises (after + 1) i (omega (arith, behind)) (omega (arith, h)) in let ends = s.ends in omega (arith, a, ends, high))
    | inr before ↦ (
        let a = rises i after before (omega (arith, within)) in
        let begins = s.begins in
        let size = has_size (element_at xs after) s.hosted stops in
        omega (arith, a, begins, size, low)
        )
  ]
