-- The plan of a value is shortest.
use Rattle.std.proofs.Common.{◌≡◌, ◌≢◌, ℕ, ◌-◌, ◌^◌, ◌<◌, ◌≤◌, ◌⊎◌, inl, inr, ◌&&◌, nat_eq, nat_lt, if◌then◌else◌, Bool, true, false, Option, None, Some, List, [], ◌∷◌, length, refl, sym, ap, ap₂, subst, ◌∙◌, arith}
use Rattle.std.specs.Prelude.{option_map}
use Rattle.std.proofs.lemmas.Bool.{cases_lt, lt-ltb, le-ltb, ltb-true, eqb-false}
use Rattle.a64_base.specs.declared.size.OperandSize.{OperandSize}
use Rattle.a64_base.specs.declared.size.OperandSize.TheVariants.{Size32, Size64}
use Rattle.a64_imms.specs.declared.imm_logic.ImmLogic.{ImmLogic}
use Rattle.a64_imms.specs.declared.move_wide.MoveWideConst.{MoveWideConst}
use Rattle.a64_imms.specs.declared.run.Run.{Run}
use Rattle.a64_imms.specs.declared.run.Period.TheVariants.{SixtyFour}
use Rattle.a64_imms.specs.MoveWides.{wide_of}
use Rattle.a64_imms.specs.Runs.{number, run_of}
use Rattle.a64_base.specs.OperandSizes.{operand_bits}
use Rattle.a64_imms.specs.Logic.{seen, IsLogicValue, IsImmLogic, logic_with, logic_of}
use Rattle.a64_imms.proofs.Found.{wide_holds, wide_named, run_holds, run_none}
use Rattle.a64_plan.specs.declared.step.ConstStep.{ConstStep}
use Rattle.a64_plan.specs.declared.step.ConstStep.TheVariants.{MovZ, MovN, Orr}
use Rattle.a64_plan.specs.Machine.{cut}
use Rattle.a64_plan.specs.Shapes.{halfword_count, IsShape, Leave, NoneFewer}
use Rattle.a64_plan.specs.Plans.{moves_of, moves_size, alone_or, narrow_logic_of, plan_of}
use Rattle.a64_plan.proofs.Moves.{moves_right, moves_few}
use Rattle.a64_plan.proofs.Bound.{IsAlone, orr_number, low_least, high_least}

-- steps of a shape that leave the value, of which none are fewer, and at most four
pub record IsShortest (value : ℕ) (steps : List ConstStep) : Type 0 where
  pub shape : IsShape steps
  pub leave : Leave steps value
  pub least : NoneFewer (length steps) value
  pub few : length steps ≤ 4

-- ---- one step

some_steps : (steps : List ConstStep) → IsShape steps → 1 ≤ length steps
some_steps [] is = elim is [ ]
some_steps (step ∷ steps) is = omega arith

one_shortest : (value : ℕ) (step : ConstStep) → IsShape (step ∷ []) → Leave (step ∷ []) value → IsShortest value (step ∷ [])
one_shortest value step shape leave = record {
  shape = shape;
  leave = leave;
  least = λ steps old is e. some_steps steps is;
  few = omega arith;
}

-- the steps where one was found, or else the rest
alone_shortest : {A : Type 0} (value : ℕ) (found : Option A) (step : A → ConstStep) (rest : List ConstStep)
    → ((x : A) → found ≡ Some x → IsShape (step x ∷ []) × Leave (step x ∷ []) value) → (found ≡ None → IsShortest value rest)
    → IsShortest value (alone_or (option_map step found) rest)
alone_shortest value (Some x) step rest some none = let (shape, leave) = some x refl in one_shortest value (step x) shape leave
alone_shortest value None step rest some none = none refl

movz_right : (value : ℕ) → value < 2 ^ 64 → (imm : MoveWideConst) → wide_of value ≡ Some imm
    → IsShape (MovZ imm Size64 ∷ []) × Leave (MovZ imm Size64 ∷ []) value
movz_right value fits imm e =
    let (is, value_is) = wide_holds value imm e in
    let low = is.shift_fits in
    ((record { bits_fit = is.bits_fit; has_place = omega arith }, tt), λ old. omega arith)

movn_right : (value : ℕ) → value < 2 ^ 64 → (imm : MoveWideConst) → wide_of (2 ^ 64 - 1 - value) ≡ Some imm
    → IsShape (MovN imm Size64 ∷ []) × Leave (MovN imm Size64 ∷ []) value
movn_right value fits imm e =
    let (is, value_is) = wide_holds (2 ^ 64 - 1 - value) imm e in
    let low = is.shift_fits in
    ((record { bits_fit = is.bits_fit; has_place = omega arith }, tt), λ old. omega arith)

-- the immediate that is named is lawful
pub logic_lawful : (size : OperandSize) (value : ℕ) (imm : ImmLogic) → logic_of size value ≡ Some imm → IsImmLogic imm × (imm.value ≡ value) × (imm.size ≡ size)
logic_lawful size value imm e = at (run_of (seen size value)) refl e
  where
    at : (named : Option Run) → run_of (seen size value) ≡ named → option_map (logic_with size value) named ≡ Some imm
        → IsImmLogic imm × (imm.value ≡ value) × (imm.size ≡ size)
    at None is e = absurd cc
    at (Some run) is e =
        let same : logic_with size value run ≡ imm = cc in
        let (is_run, number_is) = run_holds (seen size value) run is in
        subst (λ made. IsImmLogic made × (made.value ≡ value) × (made.size ≡ size)) same (
          record { run = run; is_run = is_run; number_is = number_is; triple = record { n_is = refl; r_is = refl; s_is = refl }; value_is = refl; size_is = refl },
          refl,
          refl,
        )

-- what is seen of a value of a size leaves it
seen_leaves : (size : OperandSize) (value : ℕ) → value < 2 ^ operand_bits size → cut size (seen size value) ≡ value
seen_leaves Size32 value fits = omega arith
seen_leaves Size64 value fits = omega arith

orr_right : (size : OperandSize) (value : ℕ) → value < 2 ^ operand_bits size → (imm : ImmLogic) → logic_of size value ≡ Some imm
    → IsShape (Orr imm ∷ []) × Leave (Orr imm ∷ []) value
orr_right size value fits imm e =
    let (is, value_is, size_is) = logic_lawful size value imm e in
    ((is, refl), λ old. ap₂ cut size_is (orr_number imm is ∙ ap₂ seen size_is value_is) ∙ seen_leaves size value fits)

-- an orr of 32 bits in the place of two moves
narrow_right : (value : ℕ) (imm : ImmLogic) → narrow_logic_of value ≡ Some imm → IsShape (Orr imm ∷ []) × Leave (Orr imm ∷ []) value
narrow_right value imm e = at (nat_lt value (2 ^ 32)) refl (nat_eq (length (moves_of Size32 value)) 2) e
  where
    at : (low : Bool) → nat_lt value (2 ^ 32) ≡ low → (two : Bool) → (if low && two then logic_of Size32 value else None) ≡ Some imm
        → IsShape (Orr imm ∷ []) × Leave (Orr imm ∷ []) value
    at true is true e = orr_right Size32 value (ltb-true value (2 ^ 32) is) imm e
    at true is false e = absurd cc
    at false is two e = absurd cc

-- ---- moves

moves_within : (size : OperandSize) (value : ℕ) → length (moves_of size value) ≤ 4
moves_within size value = let (zeros, ones) = moves_few size value in at size (length (moves_of size value)) (omega arith)
  where
    at : (size : OperandSize) (many : ℕ) → many ≤ halfword_count size → many ≤ 4
    at Size32 many few = omega arith
    at Size64 many few = few

not_zero : (value : ℕ) → wide_of value ≡ None → value ≢ 0
not_zero value none e =
    let named = wide_named value (record { bits = 0; shift = 0 })
    (record { lawful = record { bits_fit = omega arith; shift_fits = omega arith }; value_is = sym e; lowest = λ zero. refl }) in
    absurd cc

none_logic : (size : OperandSize) (value : ℕ) → logic_of size value ≡ None → ¬ IsLogicValue size value
none_logic size value e (run, is, number_is) = run_none (seen size value) (at (run_of (seen size value)) refl e) run is number_is
  where
    at : (named : Option Run) → run_of (seen size value) ≡ named → option_map (logic_with size value) named ≡ None → run_of (seen size value) ≡ None
    at None is e = is
    at (Some run) is e = absurd cc

-- 32 ones are a run of 64 bits
low_ones : IsLogicValue Size64 (2 ^ 32 - 1)
unfolding number
low_ones = (record { period = SixtyFour; ones = 32; turn = 0 }, record { some = omega arith; part = omega arith; turned = omega arith }, refl)

pub narrow_low : (value : ℕ) → value < 2 ^ 32 → narrow_logic_of value ≡ (if nat_eq (length (moves_of Size32 value)) 2 then logic_of Size32 value else None)
narrow_low value low = ap (λ (b : Bool). if b && nat_eq (length (moves_of Size32 value)) 2 then logic_of Size32 value else None) (lt-ltb value (2 ^ 32) low)

-- moves at 32 bits are other than two, or there is no orr of 32 bits in their place
abbrev HasNoNarrow : ℕ → Type 0
HasNoNarrow value = (length (moves_of Size32 value) ≢ 2) ⊎ (logic_of Size32 value ≡ None)

no_narrow : (value : ℕ) → value < 2 ^ 32 → narrow_logic_of value ≡ None → HasNoNarrow value
no_narrow value low none = at (nat_eq (length (moves_of Size32 value)) 2) refl (sym (narrow_low value low) ∙ none)
  where
    at : (two : Bool) → nat_eq (length (moves_of Size32 value)) 2 ≡ two → (if two then logic_of Size32 value else None) ≡ None → HasNoNarrow value
    at true is none = inr none
    at false is none = inl (eqb-false (length (moves_of Size32 value)) 2 is)

low_fewest : (value : ℕ) → ¬ IsLogicValue Size64 value → HasNoNarrow value → NoneFewer (length (moves_of Size32 value)) value
low_fewest value wide (inl other) steps old is e =
    let (zeros, ones) = moves_few Size32 value in
    let some = some_steps steps is in
    omega arith
low_fewest value wide (inr none) steps old is e = low_least value (λ alone. elim alone [ inl is ↦ wide is | inr is ↦ none_logic Size32 value none is.1 ]) steps old is e

low_shortest : (value : ℕ) → value < 2 ^ 32 → value ≢ 0 → ¬ IsLogicValue Size64 value → HasNoNarrow value → IsShortest value (moves_of Size32 value)
low_shortest value low some wide narrow =
    let right = moves_right Size32 value low some (λ e. wide (subst (IsLogicValue Size64) (sym e) low_ones)) in
    record { shape = right.shape; leave = right.leave; least = low_fewest value wide narrow; few = moves_within Size32 value }

high_shortest : (value : ℕ) → value < 2 ^ 64 → 2 ^ 32 ≤ value → value ≢ 2 ^ 64 - 1 → ¬ IsLogicValue Size64 value → IsShortest value (moves_of Size64 value)
high_shortest value fits high part wide =
    let right = moves_right Size64 value fits (λ e. omega arith) part in
    let apart : ¬ IsAlone value = λ alone. elim alone [ inl is ↦ wide is | inr is ↦ (let low = is.0 in omega arith) ] in
    record { shape = right.shape; leave = right.leave; least = high_least value high apart; few = moves_within Size64 value }

pub size_low : (value : ℕ) → value < 2 ^ 32 → moves_size value ≡ Size32
size_low value low = ap (λ (b : Bool). if b then Size32 else Size64) (lt-ltb value (2 ^ 32) low)

size_high : (value : ℕ) → 2 ^ 32 ≤ value → moves_size value ≡ Size64
size_high value high = ap (λ (b : Bool). if b then Size32 else Size64) (le-ltb value (2 ^ 32) high)

moves_shortest : (value : ℕ) → value < 2 ^ 64 → wide_of value ≡ None → wide_of (2 ^ 64 - 1 - value) ≡ None → logic_of Size64 value ≡ None
    → narrow_logic_of value ≡ None → IsShortest value (moves_of (moves_size value) value)
moves_shortest value fits wide negated logic narrow = elim (cases_lt value (2 ^ 32)) [
  | inl low ↦
      subst (λ size. IsShortest value (moves_of size value)) (sym (size_low value low))
      (low_shortest value low (not_zero value wide) (none_logic Size64 value logic) (no_narrow value low narrow))
  | inr high ↦
      subst (λ size. IsShortest value (moves_of size value)) (sym (size_high value high))
      (high_shortest value fits high (λ e. not_zero (2 ^ 64 - 1 - value) negated (omega arith)) (none_logic Size64 value logic))
]

-- ---- the plan

pub plan_shortest : (value : ℕ) → value < 2 ^ 64 → IsShortest value (plan_of value)
unfolding plan_of
plan_shortest value fits =
    alone_shortest value (wide_of value) (λ imm. MovZ imm Size64) _ (movz_right value fits)
    (λ wide. alone_shortest value (wide_of (2 ^ 64 - 1 - value)) (λ imm. MovN imm Size64) _ (movn_right value fits)
    (λ negated. alone_shortest value (logic_of Size64 value) Orr _ (orr_right Size64 value fits)
    (λ logic. alone_shortest value (narrow_logic_of value) Orr _ (narrow_right value)
    (λ narrow. moves_shortest value fits wide negated logic narrow))))
