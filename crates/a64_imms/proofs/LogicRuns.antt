-- The complement of a logical instruction's value, and the values of 32 bits.
use Rattle.std.proofs.Common.{◌≡◌, ◌≢◌, ℕ, ◌+◌, ◌-◌, ◌%◌, ◌^◌, ◌<◌, ◌≤◌, Bool, true, false, Some, refl, sym, ap, subst, ◌∙◌, arith}
use Rattle.std.specs.Prelude.{◌&&◌, nat_eq, nat_lt}
use Rattle.std.specs.Bool.{Decides}
use Rattle.std.proofs.lemmas.Bool.Decides.{same_from_decides}
use Rattle.std.proofs.lemmas.Bool.{and_parts, eq-eqb, eqb-true, lt-ltb, ltb-true}
use Rattle.a64_base.specs.declared.size.OperandSize.{OperandSize}
use Rattle.a64_base.specs.declared.size.OperandSize.TheVariants.{Size32, Size64}
use Rattle.a64_base.specs.OperandSizes.{operand_type}
use Rattle.a64_imms.specs.declared.run.Period.{Period}
use Rattle.a64_imms.specs.declared.run.Period.TheVariants.{Two, Four, Eight, Sixteen, ThirtyTwo, SixtyFour}
use Rattle.a64_imms.specs.declared.run.Run.{Run}
use Rattle.a64_imms.specs.declared.imm_logic.ImmLogic.{ImmLogic}
use Rattle.a64_imms.specs.Runs.{width, prefix, copies, number, IsRun, is_run, opposite}
use Rattle.a64_imms.specs.Logic.{size_for, seen, is_widest, logic_value, IsLogicValue, HasTriple, IsImmLogic, period_in, run_in, is_imm_logic, inverted}
use Rattle.a64_imms.proofs.Table.{is_built, halves_apart, same_run}

is_opposite : (run : Run) → IsRun run → IsRun (opposite run)
is_opposite run is =
    let some = is.some in
    let part = is.part in
    record { some = omega arith; part = omega arith; turned = omega arith }

-- the type of a size has this size
pub size_of_type : (size : OperandSize) → size_for (operand_type size) ≡ Some size
size_of_type Size32 = refl
size_of_type Size64 = refl

-- what is seen of a complement is the complement of what is seen
seen_complement : (size : OperandSize) (value : ℕ) → value < 2 ^ 64 → seen size (2 ^ 64 - 1 - value) ≡ 2 ^ 64 - 1 - seen size value
seen_complement Size32 value fits = omega arith
seen_complement Size64 value fits = refl

pub complement_is : (size : OperandSize) (value : ℕ) → value < 2 ^ 64 → IsLogicValue size value → IsLogicValue size (2 ^ 64 - 1 - value)
complement_is size value fits (run, is, e) = (
  opposite run,
  is_opposite run is,
  (is_built run is).complement ∙ ap (λ n. 2 ^ 64 - 1 - n) e ∙ sym (seen_complement size value fits),
)

doubled : (n value : ℕ) → n ≡ copies 32 (value % 2 ^ 32) 2 → copies 32 (n % 2 ^ 32) 2 ≡ n
doubled n value e = omega arith

not_widest : (period : Period) → width period ≢ 64 → is_widest period ≡ false
not_widest Two apart = refl
not_widest Four apart = refl
not_widest Eight apart = refl
not_widest Sixteen apart = refl
not_widest ThirtyTwo apart = refl
not_widest SixtyFour apart = absurd (apart refl)

-- at 32 bits no run is one of 64 bits
pub narrow : (size : OperandSize) (value : ℕ) (run : Run) → size ≡ Size32 → IsRun run → number run ≡ seen size value → is_widest run.period ≡ false
narrow size value run small is e =
    let twice : number run ≡ copies 32 (value % 2 ^ 32) 2 = e ∙ ap (λ s. seen s value) small in
    not_widest run.period (λ wide. halves_apart run is wide (doubled (number run) value twice))

-- ---- the run that the fields tell

-- the period, from its own triple
period_found : (p : Period) (k : ℕ) (n : Bool) (s : ℕ) → 0 < k → k < width p → n ≡ is_widest p → s ≡ prefix p + (k - 1) → period_in n s ≡ p
period_found p k n s some part widest same = grind arith

run_found : (imm : ImmLogic) (run : Run) → IsRun run → HasTriple run imm → run_in imm ≡ run
run_found imm run is triple =
    let period = period_found run.period run.ones imm.n imm.s is.some is.part triple.n_is triple.s_is in
    let prefixes = ap prefix period in
    let some = is.some in
    let s_is = triple.s_is in
    same_run (run_in imm) run (ap width period) (omega arith) triple.r_is

-- ---- the test of an immediate

pub run_passes : (run : Run) → IsRun run → is_run run ≡ true
run_passes run is = rw (lt-ltb 0 run.ones is.some, lt-ltb run.ones (width run.period) is.part, lt-ltb run.turn (width run.period) is.turned) refl

pub passed_run : (run : Run) → is_run run ≡ true → IsRun run
passed_run run passed =
    let (some, rest) = and_parts (nat_lt 0 run.ones) _ passed in
    let (part, turned) = and_parts (nat_lt run.ones (width run.period)) _ rest in
    record { some = ltb-true _ _ some; part = ltb-true _ _ part; turned = ltb-true _ _ turned }

pub passes : (imm : ImmLogic) → IsImmLogic imm → is_imm_logic imm ≡ true
unfolding is_imm_logic
passes imm is =
    ap (λ (run : Run). is_run run && nat_eq (number run) (seen imm.size (logic_value imm))) (run_found imm is.run is.is_run is.triple)
    ∙ rw (run_passes is.run is.is_run, eq-eqb (number is.run) (seen imm.size (logic_value imm)) is.number_is) refl

widest_in : (n : Bool) (s : ℕ) → n ≡ is_widest (period_in n s)
widest_in true s = refl
widest_in false s = grind arith

prefix_in : (n : Bool) (s : ℕ) → prefix (period_in n s) ≤ s
prefix_in true s = omega arith
prefix_in false s = grind arith

pub passed : (imm : ImmLogic) → is_imm_logic imm ≡ true → IsImmLogic imm
unfolding is_imm_logic
passed imm test =
    let (is, same) = and_parts (is_run (run_in imm)) _ test in
    let low = prefix_in imm.n imm.s in
    record {
      run = run_in imm;
      is_run = passed_run (run_in imm) is;
      number_is = eqb-true _ _ same;
      triple = record { n_is = widest_in imm.n imm.s; r_is = refl; s_is = omega arith };
      value_is = refl;
      size_is = refl;
    }

pub test_Decides : (imm : ImmLogic) → Decides (is_imm_logic imm) (IsImmLogic imm)
test_Decides imm = (passed imm, passes imm)

-- what decides lawfulness is the test
pub decided : (imm : ImmLogic) (r : Bool) → Decides r (IsImmLogic imm) → r ≡ is_imm_logic imm
decided imm r decides = same_from_decides r (is_imm_logic imm) decides (test_Decides imm)

-- a run, a value and a size have one immediate
pub same_imm : (a b : ImmLogic) (run : Run) → HasTriple run a → HasTriple run b → logic_value a ≡ logic_value b → a.size ≡ b.size → a ≡ b
same_imm a b run of_a of_b value size =
    let at : ℕ → Bool → ℕ → ℕ → OperandSize → ImmLogic = λ v n r s z. record { value = v; n = n; r = r; s = s; size = z } in
    ap (λ v. at v a.n a.r a.s a.size) value
    ∙ ap (λ n. at b.value n a.r a.s a.size) (of_a.n_is ∙ sym of_b.n_is)
    ∙ ap (λ r. at b.value b.n r a.s a.size) (of_a.r_is ∙ sym of_b.r_is)
    ∙ ap (λ s. at b.value b.n b.r s a.size) (of_a.s_is ∙ sym of_b.s_is)
    ∙ ap (λ z. at b.value b.n b.r b.s z) size

-- the immediate of the complement has the triple of the opposite run
pub inverted_is : (imm one : ImmLogic) → IsImmLogic imm → logic_value imm < 2 ^ 64
    → ((run : Run) → IsRun run → number run ≡ seen one.size (2 ^ 64 - 1 - logic_value imm) → HasTriple run one)
    → logic_value one ≡ 2 ^ 64 - 1 - logic_value imm → one.size ≡ imm.size → one ≡ inverted imm
unfolding inverted
inverted_is imm one is fits only value size =
    let found = run_found imm is.run is.is_run is.triple in
    let other = opposite (run_in imm) in
    let there : IsRun other = subst (λ run. IsRun (opposite run)) (sym found) (is_opposite is.run is.is_run) in
    let number_is : number other ≡ seen one.size (2 ^ 64 - 1 - logic_value imm) =
    ap (λ run. number (opposite run)) found ∙ (is_built is.run is.is_run).complement
    ∙ ap (λ n. 2 ^ 64 - 1 - n) is.number_is ∙ sym (seen_complement imm.size (logic_value imm) fits)
    ∙ ap (λ s. seen s (2 ^ 64 - 1 - logic_value imm)) (sym size)
    in
    same_imm one (inverted imm) other (only other there number_is) (record { n_is = refl; r_is = refl; s_is = refl }) value size
