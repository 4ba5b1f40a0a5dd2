-- Sums of rooms.
use Rattle.std.proofs.Common.{ℕ, suc, ◌≡◌, ◌+◌, ◌-◌, ◌%◌, ◌<◌, ◌≤◌, ◌^◌, ◌⊎◌, ltb, min, max, cond, inl, inr, List, [], ◌∷◌, ◌++◌, length, take, drop, get_or, refl, sym, ap, ◌∙◌, arith, Bool, true, false}
use Rattle.std.specs.Prelude.{slice_range}
use Rattle.std.specs.List.{sum_by, count_by}
use Rattle.std.proofs.lemmas.List.{take-take, drop-take, take_all, length_push, get_or_push, get_or_append_left}
use Rattle.std.proofs.lemmas.List.Sums.{sum_by-take-drop, sum_by_more, sum_by-take-le, sum_by-cons, count_by_more_yes, count_by_more_no}
use Rattle.std.proofs.lemmas.Bool.{cases_lt, lt-ltb}
use Rattle.a64_link.specs.declared.unit.Unit.{Unit}
use Rattle.a64_link.specs.Units.{room, rooms, span, near}
use Rattle.a64_link.specs.Layout.{AreSums}

-- what a part of a list sums up to
part_sum : {X : Type 0} (f : X → ℕ) (xs : List X) (a n : ℕ) → sum_by f (take a xs) + sum_by f (take n (drop a xs)) ≡ sum_by f (take (a + n) xs)
part_sum f xs a n =
    let parts = sum_by-take-drop f (take (a + n) xs) a in
    let front : sum_by f (take a (take (a + n) xs)) ≡ sum_by f (take a xs) = ap (sum_by f) (take-take a (a + n) xs (omega arith)) in
    let back : sum_by f (drop a (take (a + n) xs)) ≡ sum_by f (take n (drop a xs)) = ap (sum_by f) (drop-take a n xs) in
    omega (arith, parts, front, back)

pub range_sum : {X : Type 0} (f : X → ℕ) (xs : List X) (a b : ℕ) → a ≤ b → sum_by f (take a xs) + sum_by f (slice_range xs a b) ≡ sum_by f (take b xs)
range_sum f xs a b le =
    let e : a + (b - a) ≡ b = omega arith in
    part_sum f xs a (b - a) ∙ ap (λ n. sum_by f (take n xs)) e

pub spans : (units : List Unit) (sums : List ℕ) (i j low high : ℕ) → AreSums units sums → i < length units → j < length units → low ≡ min i j → high ≡ max i j
    → get_or sums low 0 + span units i j ≡ get_or sums (high + 1) 0
spans units sums i j low high s li lj is_low is_high =
    let e : suc (max i j) ≡ high + 1 = omega arith in
    let at_low = s.sum low (omega arith) in
    let at_high = s.sum (high + 1) (omega arith) in
    let parts = range_sum room units (min i j) (suc (max i j)) (omega arith) in
    omega (arith, at_low, at_high, parts, ap (λ n. rooms (take n units)) e, ap (λ n. rooms (take n units)) is_low)

-- one more that may be counted
pub count_step : {X : Type 0} (p : X → Bool) (xs : List X) (i : ℕ) (d : X) (b : Bool) → i < length xs → p (get_or xs i d) ≡ b → count_by p (take (i + 1) xs) ≡ cond b (count_by p (take i xs) + 1) (count_by p (take i xs))
count_step p xs i d true within is = count_by_more_yes p xs i d within is
count_step p xs i d false within is = count_by_more_no p xs i d within is

-- sums of the rooms of the first so many units
pub record AreSumsOf (units : List Unit) (n : ℕ) (sums : List ℕ) (sum : ℕ) : Type 0 where
  pub count : length sums ≡ n + 1
  pub each : (k : ℕ) → k ≤ n → get_or sums k 0 ≡ rooms (take k units)
  pub last : sum ≡ rooms (take n units)
  pub small : sum < 2 ^ 31

pub no_sums : (units : List Unit) (sums : List ℕ) → sums ≡ 0 ∷ [] → AreSumsOf units 0 sums 0
no_sums units sums is = record {
  count = ap length is;
  each = λ k le. (let e : k ≡ 0 = omega arith in ap (λ xs. get_or xs k 0) is ∙ ap (λ n. get_or (0 ∷ []) n 0) e ∙ sym (ap (λ n. rooms (take n units)) e));
  last = refl;
  small = omega arith;
}

pub more_sums : (units : List Unit) (n : ℕ) (sums new : List ℕ) (sum next : ℕ) (d : Unit) → n < length units → new ≡ sums ++ next ∷ [] → next ≡ sum + room (get_or units n d) → next < 2 ^ 31 → AreSumsOf units n sums sum → AreSumsOf units (n + 1) new next
more_sums units n sums new sum next d within is_new is_next fits s = record {
  count = ap length is_new ∙ length_push sums next ∙ ap (λ k. k + 1) s.count;
  each = λ k le. ap (λ xs. get_or xs k 0) is_new ∙ at k le;
  last = is;
  small = fits;
}
  where
    is : next ≡ rooms (take (n + 1) units)
    is = omega (arith, is_next, s.last, sum_by_more room units n d within)

    at : (k : ℕ) → k ≤ n + 1 → get_or (sums ++ next ∷ []) k 0 ≡ rooms (take k units)
    at k le = elim (cases_lt k (n + 1)) [
      | inl less ↦ get_or_append_left sums (next ∷ []) 0 k (omega (arith, s.count)) ∙ s.each k (omega arith)
      | inr more ↦ (let e : k ≡ n + 1 = omega arith in get_or_push sums next 0 k (omega (arith, s.count)) ∙ (is ∙ sym (ap (λ m. rooms (take m units)) e)))
    ]

pub all_sums : (units : List Unit) (n : ℕ) (sums : List ℕ) (sum : ℕ) → n ≡ length units → AreSumsOf units n sums sum → AreSums units sums
all_sums units n sums sum e s = record {
  count = s.count ∙ omega arith;
  sum = λ k le. s.each k (omega arith);
  small = omega (arith, s.last, s.small, ap rooms (take_all n units (omega arith)));
}

pub too_large : (units : List Unit) (n sum room_ : ℕ) (d : Unit) → n < length units → sum ≡ rooms (take n units) → 2 ^ 31 ≤ sum + room (get_or units n d) → 2 ^ 31 ≤ rooms units
too_large units n sum room_ d within is le = omega (arith, sum_by_more room units n d within, sum_by-take-le room units (n + 1))

-- rooms are multiples of 16
pub whole_rooms : (units : List Unit) → rooms units % 16 ≡ 0
whole_rooms [] = refl
whole_rooms (unit ∷ units) = omega (arith, sum_by-cons room unit units, whole_rooms units)

-- both are above the span that is near, or neither is
pub same_above : (a b : ℕ) → (a ≡ b) ⊎ ((2 ^ 31 ≤ a) × (2 ^ 31 ≤ b)) → ltb near a ≡ ltb near b
same_above a b (inl e) = ap (ltb near) e
same_above a b (inr h) = lt-ltb near a (omega (arith, h.0)) ∙ sym (lt-ltb near b (omega (arith, h.1)))
