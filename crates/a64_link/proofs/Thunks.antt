-- Thunks one behind the other, and what stands between units.
use Rattle.std.proofs.Common.{ℕ, zero, suc, ◌≡◌, ◌+◌, ◌<◌, ◌≤◌, cond, inl, inr, Bool, true, false, List, [], ◌∷◌, ◌++◌, length, take, get_or, map, refl, sym, ap, ap₂, subst, ◌∙◌, arith}
use Rattle.std.specs.List.{count_by, filter, flat_map, enumerate_from}
use Rattle.std.specs.List.Sorted.{IsStrictlyIncreasing}
use Rattle.std.proofs.lemmas.Bool.{cases_lt}
use Rattle.std.proofs.lemmas.List.{take_all, take_more, map-append, flat_map_more}
use Rattle.std.proofs.lemmas.List.Elements.{filter_more}
use Rattle.std.proofs.lemmas.List.FromFn.{length-enumerate_from, get_or-enumerate_from}
use Rattle.a64_link.specs.declared.unit.Unit.{Unit}
use Rattle.a64_link.specs.Units.{Relocation, size}
use Rattle.a64_link.specs.Layout.{IsUnit, AreStarts, is_far, end_before, start_of, thunk_of}
use Rattle.a64_link.specs.Linking.{IsReloc}
use Rattle.a64_link.specs.Linked.{thunks_in, all_thunks, IsInThunk, IsSomewhere}
use Rattle.a64_link.proofs.Rooms.{count_step}
use Rattle.a64_link.proofs.Places.{unit_end}
use Rattle.a64_link.proofs.Geometry.{unit_there}

-- ---- numbers that rise

-- numbers rise from one on, and stay below another
abbrev pub Rise : ℕ → List ℕ → ℕ → Type 0
Rise low [] high = low ≤ high
Rise low (x ∷ xs) high = (low ≤ x) × Rise (x + 1) xs high

from_below : (low mid : ℕ) (xs : List ℕ) (high : ℕ) → low ≤ mid → Rise mid xs high → Rise low xs high
from_below low mid [] high le r = omega arith
from_below low mid (x ∷ xs) high le r = (omega (arith, r.0), r.1)

joined : (low : ℕ) (xs : List ℕ) (mid : ℕ) (ys : List ℕ) (high : ℕ) → Rise low xs mid → Rise mid ys high → Rise low (xs ++ ys) high
joined low [] mid ys high a b = from_below low mid ys high a b
joined low (x ∷ xs) mid ys high a b = (a.0, joined (x + 1) xs mid ys high a.1 b)

next_above : (low : ℕ) (xs : List ℕ) (high : ℕ) → Rise low xs high → (k : ℕ) → suc k < length xs → get_or xs k 0 < get_or xs (suc k) 0
next_above low [] high r k lt = absurd (omega arith)
next_above low (x ∷ []) high r k lt = absurd (omega arith)
next_above low (x ∷ y ∷ ys) high r zero lt = omega (arith, r.1.0)
next_above low (x ∷ y ∷ ys) high r (suc k) lt = next_above (x + 1) (y ∷ ys) high r.1 k (omega arith)

pub increasing : (low : ℕ) (xs : List ℕ) (high : ℕ) → Rise low xs high → IsStrictlyIncreasing xs
increasing low xs high r = λ k lt.
    let e : suc k ≡ k + 1 = omega arith in
    subst (λ m. get_or xs k 0 < get_or xs m 0) e (next_above low xs high r k (omega arith))

mapped : {X : Type 0} (f : X → ℕ) (xs : List X) (x : X) (b : Bool) → map f (xs ++ cond b (x ∷ []) []) ≡ map f xs ++ cond b (f x ∷ []) []
mapped f xs x true = map-append f xs (x ∷ [])
mapped f xs x false = map-append f xs []

item_there : {X : Type 0} (xs : List X) (i : ℕ) → i < length xs → (x : X) × ((d : X) → get_or xs i d ≡ x)
item_there [] i lt = absurd (omega arith)
item_there (x ∷ xs) zero lt = (x, λ d. refl)
item_there (x ∷ xs) (suc i) lt = item_there xs i (omega arith)

-- each number below the count has a relocation
pub reloc_there : (unit : Unit) (k : ℕ) → k < length unit.relocs.items → (r : Relocation) × IsReloc unit k r
reloc_there unit k lt = let w = item_there unit.relocs.items k lt in (w.0, record { within = lt; is = w.1 })

module _ (units : List Unit) (starts : List ℕ) where
  -- ---- the thunks of a unit

  module _ (i : ℕ) (unit : Unit) where
    -- those of the first so many relocations
    abbrev pub first_thunks : ℕ → List ℕ
    first_thunks n =
        map (λ (e : ℕ × Relocation). thunk_of units starts i unit e.0)
        (filter (λ (e : ℕ × Relocation). is_far units i e.1) (take n (enumerate_from 0 unit.relocs.items)))

    pub thunk_step : (n : ℕ) (r : Relocation) → IsReloc unit n r → thunk_of units starts i unit (n + 1) ≡ thunk_of units starts i unit n + cond (is_far units i r) 20 0
    thunk_step n r q = by (is_far units i r) (count_step (is_far units i) unit.relocs.items n r (is_far units i r) q.within (ap (is_far units i) (q.is r)))
      where
        by : (b : Bool) → count_by (is_far units i) (take (n + 1) unit.relocs.items) ≡ cond b (count_by (is_far units i) (take n unit.relocs.items) + 1) (count_by (is_far units i) (take n unit.relocs.items))
            → thunk_of units starts i unit (n + 1) ≡ thunk_of units starts i unit n + cond b 20 0
        by true e = omega (arith, e)
        by false e = omega (arith, e)

    pub list_step : (n : ℕ) (r : Relocation) → IsReloc unit n r → first_thunks (n + 1) ≡ first_thunks n ++ cond (is_far units i r) (thunk_of units starts i unit n ∷ []) []
    list_step n r q =
        let p = λ (e : ℕ × Relocation). is_far units i e.1 in
        let f = λ (e : ℕ × Relocation). thunk_of units starts i unit e.0 in
        let numbered = enumerate_from 0 unit.relocs.items in
        let same : 0 + n ≡ n = omega arith in
        let here : get_or numbered n (n, r) ≡ (n, r) = get_or-enumerate_from 0 unit.relocs.items n (n, r) q.within ∙ ap₂ (λ (m : ℕ) (s : Relocation). (m, s)) same (q.is r) in
        let inside : n < length numbered = omega (arith, length-enumerate_from 0 unit.relocs.items, q.within) in
        ap (map f) (filter_more p numbered n (n, r) inside ∙ ap (λ (e : ℕ × Relocation). filter p (take n numbered) ++ cond (p e) (e ∷ []) []) here)
        ∙ mapped f (filter p (take n numbered)) (n, r) (is_far units i r)

    pub whole_list : (n : ℕ) → length unit.relocs.items ≤ n → first_thunks n ≡ thunks_in units starts i unit
    whole_list n le =
        let all = take_all n (enumerate_from 0 unit.relocs.items) (omega (arith, length-enumerate_from 0 unit.relocs.items)) in
        ap (λ (es : List (ℕ × Relocation)). map (λ (e : ℕ × Relocation). thunk_of units starts i unit e.0) (filter (λ (e : ℕ × Relocation). is_far units i e.1) es)) all

    one_rises : (b : Bool) (t high : ℕ) → high ≡ t + cond b 20 0 → Rise t (cond b (t ∷ []) []) high
    one_rises true t high e = (omega arith, omega arith)
    one_rises false t high e = omega arith

    thunks_rise : (n : ℕ) → n ≤ length unit.relocs.items → Rise (start_of starts i + size unit) (first_thunks n) (thunk_of units starts i unit n)
    thunks_rise zero le = omega arith
    thunks_rise (suc n) le =
        let e : n + 1 ≡ suc n = omega arith in
        let w = reloc_there unit n (omega arith) in
        let before = thunks_rise n (omega arith) in
        let t : ℕ = thunk_of units starts i unit n in
        let one = one_rises (is_far units i w.0) t (thunk_of units starts i unit (n + 1)) (thunk_step n w.0 w.1) in
        let both = joined (start_of starts i + size unit) (first_thunks n) t (cond (is_far units i w.0) (t ∷ []) []) (thunk_of units starts i unit (n + 1)) before one in
        subst (λ m. Rise (start_of starts i + size unit) (first_thunks m) (thunk_of units starts i unit m)) e
        (subst (λ xs. Rise (start_of starts i + size unit) xs (thunk_of units starts i unit (n + 1))) (sym (list_step n w.0 w.1)) both)

    -- a place behind the words of the unit and before a thunk is in one
    in_thunk : IsUnit units i unit → (n : ℕ) → n ≤ length unit.relocs.items → (place : ℕ) → start_of starts i + size unit ≤ place → place < thunk_of units starts i unit n → IsInThunk units starts place
    in_thunk u zero le place low high = absurd (omega arith)
    in_thunk u (suc n) le place low high =
        let e : n + 1 ≡ suc n = omega arith in
        let w = reloc_there unit n (omega arith) in
        let next : thunk_of units starts i unit (suc n) ≡ thunk_of units starts i unit n + cond (is_far units i w.0) 20 0 = ap (thunk_of units starts i unit) (sym e) ∙ thunk_step n w.0 w.1 in
        elim (cases_lt place (thunk_of units starts i unit n)) [
          | inl less ↦ in_thunk u n (omega arith) place low less
          | inr more ↦ here w.0 w.1 (is_far units i w.0) refl more (omega (arith, next))
        ]
      where
        here : (r : Relocation) → IsReloc unit n r → (b : Bool) → is_far units i r ≡ b → thunk_of units starts i unit n ≤ place → place < thunk_of units starts i unit n + cond b 20 0 → IsInThunk units starts place
        here r q true far from before = record { number = i; unit = unit; is = u; call = n; reloc = r; reloc_is = q; far = far; from = from; before = before }
        here r q false far from before = absurd (omega arith)

  -- ---- all units

  -- the thunks of the first so many units
  abbrev pub thunks_of_first : ℕ → List ℕ
  thunks_of_first n = flat_map (λ (e : ℕ × Unit). thunks_in units starts e.0 e.1) (take n (enumerate_from 0 units))

  pub unit_step : (n : ℕ) (unit : Unit) → IsUnit units n unit → thunks_of_first (n + 1) ≡ thunks_of_first n ++ thunks_in units starts n unit
  unit_step n unit u =
      let g = λ (e : ℕ × Unit). thunks_in units starts e.0 e.1 in
      let numbered = enumerate_from 0 units in
      let same : 0 + n ≡ n = omega arith in
      let here : get_or numbered n (n, unit) ≡ (n, unit) = get_or-enumerate_from 0 units n (n, unit) u.within ∙ ap₂ (λ (m : ℕ) (v : Unit). (m, v)) same (u.is unit) in
      let inside : n < length numbered = omega (arith, length-enumerate_from 0 units, u.within) in
      ap (flat_map g) (take_more numbered n (n, unit) inside ∙ ap (λ (e : ℕ × Unit). take n numbered ++ e ∷ []) here)
      ∙ sym (flat_map_more g [] (take n numbered) (n, unit))

  pub whole_thunks : (n : ℕ) → length units ≤ n → thunks_of_first n ≡ all_thunks units starts
  whole_thunks n le =
      ap (flat_map (λ (e : ℕ × Unit). thunks_in units starts e.0 e.1)) (take_all n (enumerate_from 0 units) (omega (arith, length-enumerate_from 0 units)))

  all_rise : AreStarts units starts → (n : ℕ) → n ≤ length units → Rise 0 (thunks_of_first n) (end_before units starts n)
  all_rise a zero le = omega arith
  all_rise a (suc n) le =
      let e : n + 1 ≡ suc n = omega arith in
      let w = unit_there units n (omega arith) in
      let before = all_rise a n (omega arith) in
      let own = thunks_rise n w.0 (length w.0.relocs.items) (omega arith) in
      let named = subst (λ xs. Rise (start_of starts n + size w.0) xs (thunk_of units starts n w.0 (length w.0.relocs.items))) (whole_list n w.0 (length w.0.relocs.items) (omega arith)) own in
      let ended = subst (Rise (start_of starts n + size w.0) (thunks_in units starts n w.0)) (sym (unit_end units starts n w.0 w.1)) named in
      let start = a.start n (omega arith) in
      let on = from_below (end_before units starts n) (start_of starts n + size w.0) (thunks_in units starts n w.0) (end_before units starts (suc n)) (omega (arith, start)) ended in
      let both = joined 0 (thunks_of_first n) (end_before units starts n) (thunks_in units starts n w.0) (end_before units starts (suc n)) before on in
      subst (λ xs. Rise 0 xs (end_before units starts (suc n))) (sym (unit_step n w.0 w.1) ∙ ap thunks_of_first e) both

  pub thunks_increase : AreStarts units starts → IsStrictlyIncreasing (all_thunks units starts)
  thunks_increase a =
      let n : ℕ = length units in
      increasing 0 (all_thunks units starts) (end_before units starts n) (subst (λ xs. Rise 0 xs (end_before units starts n)) (whole_thunks n (omega arith)) (all_rise a n (omega arith)))

  -- ---- there is nothing else

  pub somewhere : (n : ℕ) → n ≤ length units → (place : ℕ) → place < end_before units starts n → IsSomewhere units starts place
  somewhere zero le place lt = absurd (omega arith)
  somewhere (suc n) le place lt =
      let w = unit_there units n (omega arith) in
      elim (cases_lt place (end_before units starts n)) [
        | inl less ↦ somewhere n (omega arith) place less
        | inr behind ↦ elim (cases_lt place (start_of starts n)) [
          | inl gap ↦ inr (inr (record { number = n; within = omega arith; from = behind; before = gap }))
          | inr from ↦ elim (cases_lt place (start_of starts n + size w.0)) [
            | inl inside ↦ inl (record { number = n; unit = w.0; is = w.1; from = from; before = inside })
            | inr past ↦ inr (inl (in_thunk n w.0 w.1 (length w.0.relocs.items) (omega arith) place past (omega (arith, unit_end units starts n w.0 w.1))))
          ]
        ]
      ]
