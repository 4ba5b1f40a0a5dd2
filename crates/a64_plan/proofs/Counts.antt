-- How many halfwords of a number are the same, and what a write of one of them changes.
use Rattle.std.proofs.Common.{◌≡◌, ℕ, zero, suc, ◌+◌, ◌^◌, ◌<◌, ◌≤◌, Bool, true, false, if◌then◌else◌, nat_eq, length, [], ◌∷◌, ◌++◌, refl, ap, arith, length-append}
use Rattle.a64_base.specs.declared.size.OperandSize.{OperandSize}
use Rattle.a64_base.specs.declared.size.OperandSize.TheVariants.{Size32, Size64}
use Rattle.a64_imms.specs.MoveWides.{halfword}
use Rattle.a64_plan.specs.Machine.{cut, with_halfword}
use Rattle.a64_plan.specs.Shapes.{halfword_count}
use Rattle.a64_plan.specs.Plans.{count, given, places}

-- what is known of each halfword of both sizes is known of any
pub at_each : (P : OperandSize → ℕ → Type 0) → P Size32 0 → P Size32 1 → P Size64 0 → P Size64 1 → P Size64 2 → P Size64 3
    → (size : OperandSize) (k : ℕ) → k < halfword_count size → P size k
at_each P low_0 low_1 p_0 p_1 p_2 p_3 Size32 zero there = low_0
at_each P low_0 low_1 p_0 p_1 p_2 p_3 Size32 (suc zero) there = low_1
at_each P low_0 low_1 p_0 p_1 p_2 p_3 Size32 (suc (suc k)) there = absurd (omega arith)
at_each P low_0 low_1 p_0 p_1 p_2 p_3 Size64 zero there = p_0
at_each P low_0 low_1 p_0 p_1 p_2 p_3 Size64 (suc zero) there = p_1
at_each P low_0 low_1 p_0 p_1 p_2 p_3 Size64 (suc (suc zero)) there = p_2
at_each P low_0 low_1 p_0 p_1 p_2 p_3 Size64 (suc (suc (suc zero))) there = p_3
at_each P low_0 low_1 p_0 p_1 p_2 p_3 Size64 (suc (suc (suc (suc k)))) there = absurd (omega arith)

-- 1 where a halfword is these bits
abbrev pub one : ℕ → ℕ → ℕ
one bits half = if nat_eq half bits then 1 else 0

pub one_few : (bits half : ℕ) → one bits half ≤ 1
one_few bits half = elim (nat_eq half bits) as (λ b. (if b then 1 else 0) ≤ 1) [ true ↦ omega arith | false ↦ omega arith ]

pub count_few : (bits value k : ℕ) → count bits value k ≤ k
count_few bits value zero = omega arith
count_few bits value (suc k) =
    let rest = count_few bits value k in
    let few = one_few bits (halfword k value) in
    omega arith

-- the places of a plan are the halfwords that are not given
pub places_count : (negated : Bool) (value k : ℕ) → length (places negated value k) + count (given negated) value k ≡ k
places_count negated value zero = refl
places_count negated value (suc k) = at (nat_eq (halfword k value) (given negated)) (places_count negated value k)
  where
    at : (same : Bool) → length (places negated value k) + count (given negated) value k ≡ k
        → length (if same then places negated value k else places negated value k ++ (k ∷ [])) + (count (given negated) value k + (if same then 1 else 0)) ≡ suc k
    at true e = omega arith
    at false e = omega (arith, length-append (places negated value k) (k ∷ []))

-- ---- a halfword is written

-- what a write of a halfword at a size leaves
abbrev pub written : OperandSize → ℕ → ℕ → ℕ → ℕ
written size k bits n = cut size (with_halfword k bits n)

-- halfword j is what it was
abbrev Stays : OperandSize → ℕ → ℕ → ℕ → ℕ → Type 0
Stays size k j bits n = halfword j (written size k bits n) ≡ halfword j n

-- a write takes at most one from the halfwords that are the same
pub written_count : (size : OperandSize) (same k bits n : ℕ) → bits < 2 ^ 16 → k < halfword_count size
    → count same n (halfword_count size) ≤ count same (written size k bits n) (halfword_count size) + 1
written_count Size32 same zero bits n fits there =
    let few = one_few same (halfword 0 n) in
    let stays_1 : Stays Size32 0 1 bits n = omega arith in
    let same_1 = ap (one same) stays_1 in
    omega arith
written_count Size32 same (suc zero) bits n fits there =
    let few = one_few same (halfword 1 n) in
    let stays_0 : Stays Size32 1 0 bits n = omega arith in
    let same_0 = ap (one same) stays_0 in
    omega arith
written_count Size32 same (suc (suc k)) bits n fits there = absurd (omega arith)
written_count Size64 same zero bits n fits there =
    let few = one_few same (halfword 0 n) in
    let stays_1 : Stays Size64 0 1 bits n = omega arith in
    let same_1 = ap (one same) stays_1 in
    let stays_2 : Stays Size64 0 2 bits n = omega arith in
    let same_2 = ap (one same) stays_2 in
    let stays_3 : Stays Size64 0 3 bits n = omega arith in
    let same_3 = ap (one same) stays_3 in
    omega arith
written_count Size64 same (suc zero) bits n fits there =
    let few = one_few same (halfword 1 n) in
    let stays_0 : Stays Size64 1 0 bits n = omega arith in
    let same_0 = ap (one same) stays_0 in
    let stays_2 : Stays Size64 1 2 bits n = omega arith in
    let same_2 = ap (one same) stays_2 in
    let stays_3 : Stays Size64 1 3 bits n = omega arith in
    let same_3 = ap (one same) stays_3 in
    omega arith
written_count Size64 same (suc (suc zero)) bits n fits there =
    let few = one_few same (halfword 2 n) in
    let stays_0 : Stays Size64 2 0 bits n = omega arith in
    let same_0 = ap (one same) stays_0 in
    let stays_1 : Stays Size64 2 1 bits n = omega arith in
    let same_1 = ap (one same) stays_1 in
    let stays_3 : Stays Size64 2 3 bits n = omega arith in
    let same_3 = ap (one same) stays_3 in
    omega arith
written_count Size64 same (suc (suc (suc zero))) bits n fits there =
    let few = one_few same (halfword 3 n) in
    let stays_0 : Stays Size64 3 0 bits n = omega arith in
    let same_0 = ap (one same) stays_0 in
    let stays_1 : Stays Size64 3 1 bits n = omega arith in
    let same_1 = ap (one same) stays_1 in
    let stays_2 : Stays Size64 3 2 bits n = omega arith in
    let same_2 = ap (one same) stays_2 in
    omega arith
written_count Size64 same (suc (suc (suc (suc k)))) bits n fits there = absurd (omega arith)
