-- How far places of linked units are from each other.
use Rattle.std.proofs.Common.{ℕ, suc, zero, ◌≡◌, ◌+◌, ◌-◌, ◌%◌, ◌<◌, ◌≤◌, ◌^◌, min, max, inl, inr, List, [], ◌∷◌, length, take, get_or, refl, sym, ap, subst, ◌∙◌, arith}
use Rattle.std.proofs.lemmas.Bool.{cases_lt}
use Rattle.std.proofs.lemmas.List.Sums.{sum_by_more, sum_by-take-le}
use Rattle.a64_buffer.specs.Kinds.{IsWithin}
use Rattle.a64_link.specs.declared.unit.Unit.{Unit}
use Rattle.a64_link.specs.Units.{room, rooms, size, span, near}
use Rattle.a64_link.specs.Layout.{AreSums, AreStarts, IsUnit}
use Rattle.a64_link.proofs.Rooms.{range_sum}
use Rattle.a64_link.proofs.Places.{extent_in, extent_of_unit}

-- each number below the length has a unit
pub unit_there : (units : List Unit) (i : ℕ) → i < length units → (unit : Unit) × IsUnit units i unit
unit_there [] i lt = absurd (omega arith)
unit_there (unit ∷ units) zero lt = (unit, record { within = lt; is = λ d. refl })
unit_there (unit ∷ units) (suc i) lt = let w = unit_there units i (omega arith) in (w.0, record { within = lt; is = w.1.is })

module _ (units : List Unit) (sums starts : List ℕ) (s : AreSums units sums) (a : AreStarts units starts) where
  room_more : (i : ℕ) (unit : Unit) → IsUnit units i unit → rooms (take (i + 1) units) ≡ rooms (take i units) + room unit
  room_more i unit u = sum_by_more room units i unit u.within ∙ ap (λ v. rooms (take i units) + room v) (u.is unit)

  whole_start : (i : ℕ) → i < length units → get_or starts i 0 % 16 ≡ 0
  whole_start i lt = omega (arith, a.start i lt)

  one_on : (i : ℕ) → suc i < length units → (get_or starts i 0 ≤ get_or starts (suc i) 0) × (get_or starts (suc i) 0 + rooms (take i units) ≤ get_or starts i 0 + rooms (take (suc i) units))
  one_on i lt =
      let w = unit_there units i (omega arith) in
      let e : i + 1 ≡ suc i = omega arith in
      let next = a.start (suc i) lt in
      let taken = extent_of_unit units i w.0 w.1 in
      let more = room_more i w.0 w.1 in
      let same = ap (λ n. rooms (take n units)) e in
      let fits = extent_in units i w.0 in
      let whole = whole_start i (omega arith) in
      (omega (arith, next, taken), omega (arith, next, taken, more, same, fits, whole))

  on : (n i : ℕ) → i + n < length units → (get_or starts i 0 ≤ get_or starts (i + n) 0) × (get_or starts (i + n) 0 + rooms (take i units) ≤ get_or starts i 0 + rooms (take (i + n) units))
  on zero i lt =
      let e : i + 0 ≡ i = omega arith in
      (omega (arith, ap (λ k. get_or starts k 0) e), omega (arith, ap (λ k. get_or starts k 0) e, ap (λ k. rooms (take k units)) e))
  on (suc n) i lt =
      let e : suc (i + n) ≡ i + suc n = omega arith in
      let h = on n i (omega arith) in
      let k = one_on (i + n) (omega arith) in
      let at = ap (λ m. get_or starts m 0) e in
      let sum = ap (λ m. rooms (take m units)) e in
      (omega (arith, h.0, k.0, at), omega (arith, h.1, k.1, at, sum))

  -- a unit stands within the rooms of the first ones
  pub ends : (i : ℕ) (unit : Unit) → IsUnit units i unit → get_or starts i 0 + room unit ≤ rooms (take (i + 1) units)
  ends i unit u =
      let e : 0 + i ≡ i = omega arith in
      let within : i < length units = u.within in
      let first = a.start 0 (omega arith) in
      let h = on i 0 (omega arith) in
      omega (arith, first, h.1, room_more i unit u, ap (λ m. get_or starts m 0) e, ap (λ m. rooms (take m units)) e)

  pub ends_small : (i : ℕ) (unit : Unit) → IsUnit units i unit → get_or starts i 0 + room unit < 2 ^ 31
  ends_small i unit u = omega (arith, ends i unit u, sum_by-take-le room units (i + 1), s.small)

  pub start_whole : (i : ℕ) (unit : Unit) → IsUnit units i unit → get_or starts i 0 % 16 ≡ 0
  start_whole i unit u = whole_start i u.within

  -- units from one to another that stands not before it
  apart : (i n : ℕ) (u v : Unit) → IsUnit units i u → IsUnit units (i + n) v
      → (get_or starts i 0 ≤ get_or starts (i + n) 0) × (get_or starts (i + n) 0 + room v + rooms (take i units) ≤ get_or starts i 0 + rooms (take (i + n + 1) units)) × (room u + rooms (take i units) ≤ rooms (take (i + n + 1) units))
  apart i n u v is_u is_v =
      let within : i + n < length units = is_v.within in
      let h = on n i within in
      let more = room_more (i + n) v is_v in
      let one = room_more i u is_u in
      let up = range_sum room units (i + 1) (i + n + 1) (omega arith) in
      (h.0, omega (arith, h.1, more), omega (arith, one, up))

  spanned : (low n i j : ℕ) → low ≡ min i j → low + n ≡ max i j → rooms (take low units) + span units i j ≡ rooms (take (low + n + 1) units)
  spanned low n i j is_low is_high =
      let e : suc (max i j) ≡ low + n + 1 = omega arith in
      let parts = range_sum room units (min i j) (suc (max i j)) (omega arith) in
      omega (arith, parts, ap (λ k. rooms (take k units)) e, ap (λ k. rooms (take k units)) is_low)

  -- where the span is near, a branch reaches
  pub reaches : (i j p q : ℕ) (u v : Unit) → IsUnit units i u → IsUnit units j v → p < size u → q < size v → span units i j ≤ near
      → IsWithin (2 ^ 27 - 1) (2 ^ 27) (get_or starts i 0 + p) (get_or starts j 0 + q)
  reaches i j p q u v is_u is_v in_u in_v le = elim (cases_lt j i) [
    | inl back ↦
        let e : j + (i - j) ≡ i = omega arith in
        let h = apart j (i - j) v u is_v (subst (λ k. IsUnit units k u) (sym e) is_u) in
        let at = ap (λ m. get_or starts m 0) e in
        let sum = spanned j (i - j) i j (omega arith) (omega arith) in
        record { ahead = omega (arith, h.0, h.1, h.2, at, sum); behind = omega (arith, h.0, h.1, h.2, at, sum) }
    | inr on_ ↦
        let e : i + (j - i) ≡ j = omega arith in
        let h = apart i (j - i) u v is_u (subst (λ k. IsUnit units k v) (sym e) is_v) in
        let at = ap (λ m. get_or starts m 0) e in
        let sum = spanned i (j - i) i j (omega arith) (omega arith) in
        record { ahead = omega (arith, h.0, h.1, h.2, at, sum); behind = omega (arith, h.0, h.1, h.2, at, sum) }
  ]
