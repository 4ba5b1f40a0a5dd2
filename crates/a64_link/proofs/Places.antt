-- Places of units.
use Rattle.std.proofs.Common.{ℕ, suc, zero, ◌≡◌, ◌+◌, ◌*◌, ◌<◌, ◌≤◌, ◌^◌, cond, inl, inr, List, [], ◌∷◌, ◌++◌, length, take, get_or, refl, sym, ap, ◌∙◌, arith, Bool, true, false, Some}
use Rattle.std.specs.Prelude.{◌&&◌}
use Rattle.std.specs.List.{count_by}
use Rattle.std.specs.Map.{lookup}
use Rattle.std.proofs.lemmas.Bool.{cases_lt}
use Rattle.std.proofs.lemmas.List.{length_push, get_or_push, get_or_append_left, get_or_read, take_all}
use Rattle.std.proofs.lemmas.List.Sums.{sum_by_more, sum_by-take-le, sum_by-le-sum_by}
use Rattle.a64_base.specs.declared.entity.ExternalName.{ExternalName}
use Rattle.a64_link.specs.declared.unit.Unit.{Unit}
use Rattle.a64_link.specs.declared.unit.Symbol.{Symbol}
use Rattle.a64_link.specs.Units.{Definition, Relocation, is_call, room, rooms, round_up, size, defined_in, defined_from, symbol_of}
use Rattle.a64_link.specs.Layout.{is_far, stands_far, extent, extents_from, end_before, AreSums, AreStarts, IsUnit, thunk_of}
use Rattle.a64_link.proofs.Rooms.{whole_rooms}

-- ---- symbols stand in units

module _ (test : ℕ → Bool) (n : ℕ) where
  below_one : (i place : ℕ) (more : List (ℕ × Symbol)) (s : Symbol) (b : Bool) → i < n → (lookup test more ≡ Some s → s.unit < n)
      → cond b (Some (record { unit = i; place = place })) (lookup test more) ≡ Some s → s.unit < n
  below_one i place more s true lt h e =
      let same : record { unit = i; place = place } ≡ s = cc in
      let u : i ≡ s.unit = ap (λ (t : Symbol). t.unit) same in
      omega arith
  below_one i place more s false lt h e = h e

  below_in : (i : ℕ) (ds : List Definition) (more : List (ℕ × Symbol)) (s : Symbol) → i < n
      → (lookup test more ≡ Some s → s.unit < n) → lookup test (defined_in i ds ++ more) ≡ Some s → s.unit < n
  below_in i [] more s lt h e = h e
  below_in i (d ∷ ds) more s lt h e = below_one i d.1 (defined_in i ds ++ more) s (test d.0.0) lt (below_in i ds more s lt h) e

  below_from : (i : ℕ) (units : List Unit) (s : Symbol) → i + length units ≤ n → lookup test (defined_from i units) ≡ Some s → s.unit < n
  below_from i [] s le e = absurd cc
  below_from i (unit ∷ units) s le e = below_in i unit.defines.items (defined_from (suc i) units) s (omega arith) (below_from (suc i) units s (omega arith)) e

pub symbol_in : (units : List Unit) (name : ExternalName) (s : Symbol) → symbol_of units name ≡ Some s → s.unit < length units
symbol_in units name s e = below_from _ (length units) 0 units s (omega arith) e

-- ---- how many bytes units take

module _ (units : List Unit) where
  few : (i : ℕ) (r : Relocation) → cond (is_far units i r) 1 0 ≤ cond (is_call r.1) 1 0
  few i r = at (is_call r.1) (stands_far units i (symbol_of units r.2))
    where
      at : (a b : Bool) → cond (a && b) 1 0 ≤ cond a 1 0
      at true true = omega arith
      at true false = omega arith
      at false b = omega arith

  fewer : (i : ℕ) (rs : List Relocation) → count_by (is_far units i) rs ≤ count_by (λ (r : Relocation). is_call r.1) rs
  fewer i rs = sum_by-le-sum_by _ _ rs (few i)

  pub extent_in : (i : ℕ) (unit : Unit) → extent units i unit ≤ room unit
  extent_in i unit = omega (arith, fewer i unit.relocs.items)

  -- a part of the thunks fits too
  pub part_in : (sums : List ℕ) (i n count : ℕ) (unit : Unit) → AreSums units sums → IsUnit units i unit → count ≡ count_by (is_far units i) (take n unit.relocs.items)
      → size unit + 20 * count + rooms (take i units) ≤ rooms (take (i + 1) units)
  part_in sums i n count unit s u is =
      omega (arith, is, sum_by-take-le (λ r. cond (is_far units i r) 1 0) unit.relocs.items n, extent_in i unit, sum_by_more room units i unit u.within, ap room (u.is unit))

  pub rooms_small : (sums : List ℕ) (i : ℕ) → AreSums units sums → rooms (take i units) < 2 ^ 31
  rooms_small sums i s = omega (arith, sum_by-take-le room units i, s.small)

  extent_at : (i : ℕ) (more : List Unit) (k : ℕ) (d : Unit) → k < length more → get_or (extents_from units i more) k 0 ≡ extent units (i + k) (get_or more k d)
  extent_at i [] k d lt = absurd (omega arith)
  extent_at i (unit ∷ more) zero d lt = (let e : i ≡ i + 0 = omega arith in ap (λ j. extent units j unit) e)
  extent_at i (unit ∷ more) (suc k) d lt = (let e : suc i + k ≡ i + suc k = omega arith in extent_at (suc i) more k d (omega arith) ∙ ap (λ j. extent units j (get_or more k d)) e)

  pub extent_of_unit : (i : ℕ) (unit : Unit) → IsUnit units i unit → get_or (extents_from units 0 units) i 0 ≡ extent units i unit
  extent_of_unit i unit u =
      let e : 0 + i ≡ i = omega arith in
      extent_at 0 units i unit u.within ∙ ap (λ j. extent units j (get_or units i unit)) e ∙ ap (extent units i) (u.is unit)

  -- a unit ends behind the last of its thunks
  pub unit_end : (starts : List ℕ) (i : ℕ) (unit : Unit) → IsUnit units i unit → end_before units starts (suc i) ≡ thunk_of units starts i unit (length unit.relocs.items)
  unit_end starts i unit u = omega (arith, ap (count_by (is_far units i)) (take_all (length unit.relocs.items) unit.relocs.items (omega arith)), extent_of_unit i unit u)

  -- ---- starts

  pub record AreStartsOf (n : ℕ) (starts : List ℕ) (end : ℕ) : Type 0 where
    pub count : length starts ≡ n
    pub start : (k : ℕ) → k < n → get_or starts k 0 ≡ round_up (end_before units starts k)
    pub end_is : end ≡ end_before units starts n
    pub fits : end ≤ rooms (take n units)

  pub no_starts : (starts : List ℕ) → starts ≡ [] → AreStartsOf 0 starts 0
  no_starts starts is = record { count = ap length is; start = λ k lt. absurd (omega arith); end_is = refl; fits = omega arith }

  same_end : (starts : List ℕ) (x k : ℕ) → k ≤ length starts → end_before units (starts ++ x ∷ []) k ≡ end_before units starts k
  same_end starts x zero le = refl
  same_end starts x (suc k) le = ap (λ s. s + get_or (extents_from units 0 units) k 0) (get_or_append_left starts (x ∷ []) 0 k (omega arith))

  -- a place that is rounded up stays within the rooms
  pub rounded_in : (n end : ℕ) → end ≤ rooms (take n units) → round_up end ≤ rooms (take n units)
  rounded_in n end le = omega (arith, whole_rooms (take n units))

  pub next_fits : (sums : List ℕ) (n end start : ℕ) (unit : Unit) → AreSums units sums → IsUnit units n unit → end ≤ rooms (take n units) → start ≡ round_up end → start + extent units n unit < 2 ^ 31
  next_fits sums n end start unit s u le is =
      omega (arith, rounded_in n end le, extent_in n unit, sum_by_more room units n unit u.within, ap room (u.is unit), rooms_small sums (n + 1) s)

  pub more_starts : (n : ℕ) (unit : Unit) (starts : List ℕ) (start end next : ℕ) → IsUnit units n unit → start ≡ round_up end → next ≡ start + extent units n unit
      → AreStartsOf n starts end → AreStartsOf (n + 1) (starts ++ start ∷ []) next
  more_starts n unit starts start end next u is_start is_next s = record {
    count = length_push starts start ∙ ap (λ k. k + 1) s.count;
    start = at;
    end_is = last;
    fits = omega (arith, is_start, is_next, rounded_in n end s.fits, extent_in n unit, sum_by_more room units n unit u.within, ap room (u.is unit));
  }
    where
      here : get_or (starts ++ start ∷ []) n 0 ≡ start
      here = get_or_push starts start 0 n s.count

      at : (k : ℕ) → k < n + 1 → get_or (starts ++ start ∷ []) k 0 ≡ round_up (end_before units (starts ++ start ∷ []) k)
      at k lt = elim (cases_lt k n) [
        | inl less ↦ get_or_append_left starts (start ∷ []) 0 k (omega (arith, s.count)) ∙ s.start k less ∙ ap round_up (sym (same_end starts start k (omega (arith, s.count))))
        | inr more ↦
            let e : k ≡ n = omega arith in
            ap (λ m. get_or (starts ++ start ∷ []) m 0) e ∙ here ∙ is_start
            ∙ ap round_up (s.end_is ∙ sym (same_end starts start n (omega (arith, s.count))) ∙ ap (end_before units (starts ++ start ∷ [])) (sym e))
      ]

      last : next ≡ end_before units (starts ++ start ∷ []) (n + 1)
      last =
          let e : suc n ≡ n + 1 = omega arith in
          let sum : next ≡ end_before units (starts ++ start ∷ []) (suc n) = omega (arith, is_next, here, extent_of_unit n unit u) in
          sum ∙ ap (end_before units (starts ++ start ∷ [])) e

  pub all_starts : (n end : ℕ) (starts : List ℕ) → n ≡ length units → AreStartsOf n starts end → AreStarts units starts
  all_starts n end starts e s = record { count = s.count ∙ e; start = λ k lt. s.start k (omega arith) }

pub unit_read : (units : List Unit) (i : ℕ) (unit : Unit) → i < length units → unit ≡ get_or units i unit → IsUnit units i unit
unit_read units i unit within is = record { within = within; is = λ d. sym (get_or_read units i unit within is d) }
