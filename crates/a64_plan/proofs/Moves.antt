-- The moves of a plan leave the value, and how many they are.
use Rattle.std.proofs.Common.{◌≡◌, ◌≢◌, ℕ, zero, suc, ◌+◌, ◌-◌, ◌*◌, ◌%◌, ◌^◌, ◌<◌, ◌≤◌, Bool, true, false, if◌then◌else◌, ◌&&◌, nat_eq, List, [], ◌∷◌, ◌++◌, length, map, refl, sym, ap, subst, ◌∙◌, arith, add-one}
use Rattle.std.specs.List.{AllByRecursion}
use Rattle.std.proofs.lemmas.Bool.{lt-ltb, ltb-true, ltb-false, eqb-true, eqb-false, eq-eqb, ne_eqb}
use Rattle.std.proofs.lemmas.List.{map_push, length-map}
use Rattle.a64_base.specs.declared.size.OperandSize.{OperandSize}
use Rattle.a64_base.specs.declared.size.OperandSize.TheVariants.{Size32, Size64}
use Rattle.a64_base.specs.OperandSizes.{operand_bits}
use Rattle.a64_imms.specs.MoveWides.{halfword}
use Rattle.a64_plan.specs.declared.step.ConstStep.{ConstStep}
use Rattle.a64_plan.specs.Machine.{after, after_all}
use Rattle.a64_plan.specs.Shapes.{halfword_count, IsMovK, IsShape, Leave}
use Rattle.a64_plan.specs.Plans.{count, given, places, takes_movn, first_move, next_move, move_at, moves_at, moves_of, has_two_moves}
use Rattle.a64_plan.proofs.Counts.{at_each, written, places_count}

-- ---- what the register holds on the way

-- the register that a first move is thought to write its halfword into
abbrev blank : OperandSize → Bool → ℕ
blank size negated = if negated then 2 ^ operand_bits size - 1 else 0

-- the halfwords of the value below k, and blank above
abbrev so_far : OperandSize → Bool → ℕ → ℕ → ℕ
so_far size negated value k = if negated then value % 2 ^ (16 * k) + (2 ^ operand_bits size - 2 ^ (16 * k)) else value % 2 ^ (16 * k)

abbrev Begins : Bool → ℕ → ℕ → OperandSize → ℕ → Type 0
Begins negated value old size k = after (first_move size negated value k) old ≡ written size k (halfword k value) (blank size negated)

begins : (negated : Bool) (value old : ℕ) (size : OperandSize) (k : ℕ) → k < halfword_count size → Begins negated value old size k
begins true value old = at_each (Begins true value old) (omega arith) (omega arith) (omega arith) (omega arith) (omega arith) (omega arith)
begins false value old = at_each (Begins false value old) (omega arith) (omega arith) (omega arith) (omega arith) (omega arith) (omega arith)

-- a halfword that the first move gives needs no move
abbrev Skips : Bool → ℕ → OperandSize → ℕ → Type 0
Skips negated value size k = halfword k value ≡ given negated → so_far size negated value k ≡ so_far size negated value (suc k)

skips : (negated : Bool) (value : ℕ) (size : OperandSize) (k : ℕ) → k < halfword_count size → Skips negated value size k
skips true value = at_each (Skips true value) (λ e. omega arith) (λ e. omega arith) (λ e. omega arith) (λ e. omega arith) (λ e. omega arith) (λ e. omega arith)
skips false value = at_each (Skips false value) (λ e. omega arith) (λ e. omega arith) (λ e. omega arith) (λ e. omega arith) (λ e. omega arith) (λ e. omega arith)

-- a halfword that is written
abbrev Fills : Bool → ℕ → OperandSize → ℕ → Type 0
Fills negated value size k = written size k (halfword k value) (so_far size negated value k) ≡ so_far size negated value (suc k)

fills : (negated : Bool) (value : ℕ) (size : OperandSize) (k : ℕ) → k < halfword_count size → Fills negated value size k
fills true value = at_each (Fills true value) (omega arith) (omega arith) (omega arith) (omega arith) (omega arith) (omega arith)
fills false value = at_each (Fills false value) (omega arith) (omega arith) (omega arith) (omega arith) (omega arith) (omega arith)

starts : (size : OperandSize) (negated : Bool) (value : ℕ) → so_far size negated value 0 ≡ blank size negated
starts Size32 true value = omega arith
starts Size32 false value = omega arith
starts Size64 true value = omega arith
starts Size64 false value = omega arith

ends : (size : OperandSize) (negated : Bool) (value : ℕ) → value < 2 ^ operand_bits size → so_far size negated value (halfword_count size) ≡ value
ends Size32 true value fits = omega arith
ends Size32 false value fits = omega arith
ends Size64 true value fits = omega arith
ends Size64 false value fits = omega arith

after-push : (steps : List ConstStep) (step : ConstStep) (old : ℕ) → after_all (steps ++ (step ∷ [])) old ≡ after step (after_all steps old)
after-push [] step old = refl
after-push (first ∷ steps) step old = after-push steps step (after first old)

-- movks for all places below k
movks_leave : (size : OperandSize) (negated : Bool) (value k : ℕ) → k ≤ halfword_count size
    → after_all (map (next_move size value) (places negated value k)) (blank size negated) ≡ so_far size negated value k
movks_leave size negated value zero there = sym (starts size negated value)
movks_leave size negated value (suc k) there = at (nat_eq (halfword k value) (given negated)) refl (movks_leave size negated value k (omega arith))
  where
    at : (same : Bool) → nat_eq (halfword k value) (given negated) ≡ same
        → after_all (map (next_move size value) (places negated value k)) (blank size negated) ≡ so_far size negated value k
        → after_all (map (next_move size value) (if same then places negated value k else places negated value k ++ (k ∷ []))) (blank size negated) ≡ so_far size negated value (suc k)
    at true is e = e ∙ skips negated value size k (omega arith) (eqb-true (halfword k value) (given negated) is)
    at false is e =
        ap (λ steps. after_all steps (blank size negated)) (map_push (next_move size value) (places negated value k) k)
        ∙ after-push (map (next_move size value) (places negated value k)) (next_move size value k) (blank size negated)
        ∙ ap (λ n. written size k (halfword k value) n) e
        ∙ fills negated value size k (omega arith)

-- ---- the shape

movks-push : (size : OperandSize) (steps : List ConstStep) (step : ConstStep) → AllByRecursion (IsMovK size) steps → IsMovK size step
    → AllByRecursion (IsMovK size) (steps ++ (step ∷ []))
movks-push size [] step all here = (here, tt)
movks-push size (first ∷ steps) step (there, all) here = (there, movks-push size steps step all here)

is_movk : (size : OperandSize) (value k : ℕ) → k < halfword_count size → IsMovK size (next_move size value k)
is_movk size value k there = (refl, record { bits_fit = omega arith; has_place = there })

are_movks : (size : OperandSize) (negated : Bool) (value k : ℕ) → k ≤ halfword_count size
    → AllByRecursion (IsMovK size) (map (next_move size value) (places negated value k))
are_movks size negated value zero there = tt
are_movks size negated value (suc k) there = at (nat_eq (halfword k value) (given negated)) (are_movks size negated value k (omega arith))
  where
    at : (same : Bool) → AllByRecursion (IsMovK size) (map (next_move size value) (places negated value k))
        → AllByRecursion (IsMovK size) (map (next_move size value) (if same then places negated value k else places negated value k ++ (k ∷ [])))
    at true all = all
    at false all =
        subst (AllByRecursion (IsMovK size)) (sym (map_push (next_move size value) (places negated value k) k))
        (movks-push size (map (next_move size value) (places negated value k)) (next_move size value k) all (is_movk size value k (omega arith)))

-- ---- both

-- the steps have a shape, and leave the value
pub record AreRight (value : ℕ) (steps : List ConstStep) : Type 0 where
  pub shape : IsShape steps
  pub leave : Leave steps value

shape_at : (size : OperandSize) (negated : Bool) (value k : ℕ) (steps : List ConstStep) → IsMovK size (next_move size value k)
    → AllByRecursion (IsMovK size) steps → IsShape (first_move size negated value k ∷ steps)
shape_at size true value k steps (e, is) all = (record { bits_fit = omega arith; has_place = is.has_place }, all)
shape_at size false value k steps (e, is) all = (is, all)

right_at : (size : OperandSize) (negated : Bool) (value : ℕ) (ks : List ℕ) → AllByRecursion (IsMovK size) (map (next_move size value) ks)
    → after_all (map (next_move size value) ks) (blank size negated) ≡ value → value ≢ blank size negated → AreRight value (moves_at size negated value ks)
right_at size negated value [] all e some = absurd (some (sym e))
right_at size negated value (k ∷ ks) (here, all) e some = record {
  shape = shape_at size negated value k (map (next_move size value) ks) here all;
  leave = λ old. ap (after_all (map (next_move size value) ks)) (begins negated value old size k here.1.has_place) ∙ e;
}

not_blank : (size : OperandSize) (negated : Bool) (value : ℕ) → value ≢ 0 → value ≢ 2 ^ operand_bits size - 1 → value ≢ blank size negated
not_blank size true value some part = part
not_blank size false value some part = some

pub moves_right : (size : OperandSize) (value : ℕ) → value < 2 ^ operand_bits size → value ≢ 0 → value ≢ 2 ^ operand_bits size - 1
    → AreRight value (moves_of size value)
unfolding moves_of
moves_right size value fits some part =
    let negated = takes_movn size value in
    let n = halfword_count size in
    right_at size negated value (places negated value n) (are_movks size negated value n (omega arith))
    (movks_leave size negated value n (omega arith) ∙ ends size negated value fits) (not_blank size negated value some part)

-- ---- how many

length_at : (size : OperandSize) (negated : Bool) (value : ℕ) (ks : List ℕ) → length (moves_at size negated value ks) ≡ length ks
length_at size negated value [] = refl
length_at size negated value (k ∷ ks) = ap suc (length-map ks (next_move size value))

-- so many moves beside the halfwords that are these bits are at most one for each halfword
abbrev pub AreFew : OperandSize → ℕ → ℕ → ℕ → Type 0
AreFew size value bits many = many + count bits value (halfword_count size) ≤ halfword_count size

pub moves_few : (size : OperandSize) (value : ℕ)
    → AreFew size value 0 (length (moves_of size value)) × AreFew size value (2 ^ 16 - 1) (length (moves_of size value))
unfolding moves_of
moves_few size value = at (takes_movn size value) refl
  where
    at : (negated : Bool) → takes_movn size value ≡ negated
        → AreFew size value 0 (length (moves_at size negated value (places negated value (halfword_count size))))
        × AreFew size value (2 ^ 16 - 1) (length (moves_at size negated value (places negated value (halfword_count size))))
    at true is =
        let more = ltb-true (count 0 value (halfword_count size)) (count (2 ^ 16 - 1) value (halfword_count size)) is in
        let e = length_at size true value (places true value (halfword_count size)) in
        let all = places_count true value (halfword_count size) in
        (omega arith, omega arith)
    at false is =
        let more = ltb-false (count 0 value (halfword_count size)) (count (2 ^ 16 - 1) value (halfword_count size)) is in
        let e = length_at size false value (places false value (halfword_count size)) in
        let all = places_count false value (halfword_count size) in
        (omega arith, omega arith)

all_moves : (value : ℕ) → count 0 value 2 ≡ 0 → count (2 ^ 16 - 1) value 2 ≡ 0 → length (moves_of Size32 value) ≡ 2
unfolding moves_of
all_moves value zeros ones = at (takes_movn Size32 value)
  where
    at : (negated : Bool) → length (moves_at Size32 negated value (places negated value 2)) ≡ 2
    at true = length_at Size32 true value (places true value 2) ∙ omega (arith, places_count true value 2)
    at false = length_at Size32 false value (places false value 2) ∙ omega (arith, places_count false value 2)

-- moves are two at 32 bits where the first one gives neither halfword
pub two_moves : (value : ℕ) → value < 2 ^ 32 → has_two_moves value ≡ (nat_eq (count 0 value 2) 0 && nat_eq (count (2 ^ 16 - 1) value 2) 0)
two_moves value low =
    ap (λ b. b && nat_eq (length (moves_of Size32 value)) 2) (lt-ltb value (2 ^ 32) low)
    ∙ at (nat_eq (count 0 value 2) 0) refl (nat_eq (count (2 ^ 16 - 1) value 2) 0) refl (moves_few Size32 value)
  where
    at : (no_zeros : Bool) → nat_eq (count 0 value 2) 0 ≡ no_zeros → (no_ones : Bool) → nat_eq (count (2 ^ 16 - 1) value 2) 0 ≡ no_ones
        → AreFew Size32 value 0 (length (moves_of Size32 value)) × AreFew Size32 value (2 ^ 16 - 1) (length (moves_of Size32 value))
        → nat_eq (length (moves_of Size32 value)) 2 ≡ (no_zeros && no_ones)
    at true zeros true ones few = eq-eqb (length (moves_of Size32 value)) 2 (all_moves value (eqb-true _ _ zeros) (eqb-true _ _ ones))
    at true zeros false ones few = let some = eqb-false (count (2 ^ 16 - 1) value 2) 0 ones in ne_eqb (length (moves_of Size32 value)) 2 (λ two. absurd (omega arith))
    at false zeros no_ones ones few = let some = eqb-false (count 0 value 2) 0 zeros in ne_eqb (length (moves_of Size32 value)) 2 (λ two. absurd (omega arith))

-- ---- one more halfword

pub places_same : (negated : Bool) (value k : ℕ) → halfword k value ≡ given negated → places negated value (k + 1) ≡ places negated value k
places_same negated value k is =
    rw add-one (ap (λ b. if b then places negated value k else places negated value k ++ (k ∷ [])) (eq-eqb (halfword k value) (given negated) is))

pub places_more : (negated : Bool) (value k : ℕ) → halfword k value ≢ given negated → places negated value (k + 1) ≡ places negated value k ++ (k ∷ [])
places_more negated value k apart =
    rw add-one (ap (λ b. if b then places negated value k else places negated value k ++ (k ∷ [])) (ne_eqb (halfword k value) (given negated) apart))

pub moves-push : (size : OperandSize) (negated : Bool) (value k : ℕ) (ks : List ℕ)
    → moves_at size negated value (ks ++ (k ∷ []))
    ≡ moves_at size negated value ks ++ (move_at (nat_eq (length (moves_at size negated value ks)) 0) size negated value k ∷ [])
moves-push size negated value k [] = refl
moves-push size negated value k (first ∷ ks) =
    ap (λ steps. first_move size negated value first ∷ steps) (map_push (next_move size value) ks k)
    ∙ ap (λ is_first. moves_at size negated value (first ∷ ks) ++ (move_at is_first size negated value k ∷ [])) (sym (ne_eqb _ 0 (omega arith)))
