-- The form of a logical operation with an immediate that has no fault of its own is a form of its row.
use Rattle.std.proofs.Common.{◌≡◌, ◌+◌, ◌-◌, ◌<◌, true, false, refl, ap, ◌∙◌, arith, rules}
use Rattle.std.specs.Prelude.{◌==◌, nat_eq}
use Rattle.std.proofs.lemmas.Bool.{and_parts, and_from, eqb-true}
use Rattle.std.proofs.lemmas.Nat.{mod_below}
use Rattle.a64_base.specs.declared.reg.Reg.{Reg}
use Rattle.a64_base.specs.declared.size.OperandSize.{OperandSize}
use Rattle.a64_base.specs.declared.size.OperandSize.TheVariants.{Size32, Size64}
use Rattle.a64_base.specs.OperandSizes.{sf_of}
use Rattle.a64_imms.specs.declared.imm_logic.ImmLogic.{ImmLogic}
use Rattle.a64_imms.specs.declared.run.Run.{Run}
use Rattle.a64_imms.specs.Runs.{width, prefix, number, IsRun, is_run, opposite}
use Rattle.a64_imms.specs.Logic.{seen, is_widest, logic_value, logic_with, run_in, is_imm_logic, inverted, IsImmLogic}
use Rattle.a64_imms.specs.LogicLaws.{r_fits, s_fits}
use Rattle.a64_imms.proofs.LogicRuns.{narrow, passed, passed_run}
use Rattle.a64_ops.specs.declared.operator.ALUOp.{ALUOp}
use Rattle.a64_ops.specs.declared.operator.ALUOp.TheVariants as alu
use Rattle.a64_operand.specs.Operands.{is_same_size, is_logic_of}
use Rattle.a64_rows.specs.Forms.{IsFormOf}
use Rattle.a64_rows.specs.Limits.{is_bitmask, is_bitmask_of}
use Rattle.a64_rows.specs.DataProcessing.{logic_imm}
use Rattle.a64_enc_int.specs.Operators.{bit_of}
use Rattle.a64_enc_int.proofs.Immediates.{logic_within}
use Rattle.a64_cells.specs.IntegerForms.{logic_fields, taken, alu_rr_imm_logic_form}
use Rattle.a64_cells.proofs.OneWord.{field_widths}

same_size : (a b : OperandSize) → is_same_size a b ≡ true → a ≡ b
same_size Size32 Size32 e = refl
same_size Size64 Size64 e = refl
same_size Size32 Size64 e = absurd cc
same_size Size64 Size32 e = absurd cc

taken_size : (op : ALUOp) (imm : ImmLogic) → (taken op imm).size ≡ imm.size
unfolding inverted
taken_size op imm = grind arith

-- N, R and S are those of a bitmask immediate of the size
record AreFields (size : OperandSize) (imm : ImmLogic) : Type 0 where
  r : imm.r < 64
  s : imm.s < 64
  bitmask : is_bitmask_of (sf_of size) (bit_of imm.n) imm.r imm.s ≡ true

fields_within : (op : ALUOp) (size : OperandSize) (rd rn : Reg) (imm : ImmLogic) → AreFields size imm → IsFormOf (logic_imm (logic_fields op size rd rn imm))
fields_within op size rd rn imm are = search (rules, field_widths)

lawful_fields : (size : OperandSize) (imm : ImmLogic) → imm.size ≡ size → IsImmLogic imm → AreFields size imm
lawful_fields size imm same is = record { r = r_fits imm.size imm is; s = s_fits imm.size imm is; bitmask = logic_within size imm same is }

-- of the immediate that the word has
pub alu_rr_imm_logic_is_form : (op : ALUOp) (size : OperandSize) (rd rn : Reg) (imml imm : ImmLogic) → is_logic_of size imml ≡ true
    → imm ≡ taken op imml → IsImmLogic imm
    → IsFormOf (logic_imm (logic_fields op size rd rn imm))
alu_rr_imm_logic_is_form op size rd rn imml imm of_size is lawful =
    let same : imm.size ≡ size = ap (λ (i : ImmLogic). i.size) is ∙ taken_size op imml ∙ same_size imml.size size (and_parts (is_same_size imml.size size) (is_imm_logic imml) of_size).0 in
    fields_within op size rd rn imm (lawful_fields size imm same lawful)

-- the triple of a run is that of the immediate of its number
lawful_run : (run : Run) → IsRun run → IsImmLogic (logic_with Size64 (number run) run)
lawful_run run is = record { run = run; is_run = is; number_is = refl; triple = record { n_is = refl; r_is = refl; s_is = refl }; value_is = refl; size_is = refl }

run_bitmask : (size : OperandSize) (run : Run) → IsRun run → (size ≡ Size32 → is_widest run.period ≡ false)
    → is_bitmask_of (sf_of size) (bit_of (is_widest run.period)) run.turn (prefix run.period + (run.ones - 1)) ≡ true
run_bitmask Size64 run is small = logic_within Size64 (logic_with Size64 (number run) run) refl (lawful_run run is)
run_bitmask Size32 run is small =
    let bitmask = (and_parts (is_bitmask (bit_of (is_widest run.period)) run.turn (prefix run.period + (run.ones - 1))) true (logic_within Size64 (logic_with Size64 (number run) run) refl (lawful_run run is))).0 in
    and_from (is_bitmask (bit_of (is_widest run.period)) run.turn (prefix run.period + (run.ones - 1))) (bit_of (is_widest run.period) == 0) bitmask (rw (small refl) refl)

opposite_run : (run : Run) → IsRun run → IsRun (opposite run)
opposite_run run is =
    let some = is.some in
    let part = is.part in
    record { some = omega (arith, some, part); part = omega (arith, some, part); turned = mod_below (run.turn + (width run.period - run.ones)) (width run.period) (omega (arith, some, part)) }

-- the immediate of the complement has the triple of the opposite run
inverted_fields : (size : OperandSize) (imm : ImmLogic) → imm.size ≡ size → is_imm_logic imm ≡ true → AreFields size (inverted imm)
unfolding is_imm_logic inverted
inverted_fields size imm same e =
    let (runs, numbers) = and_parts (is_run (run_in imm)) (nat_eq (number (run_in imm)) (seen imm.size (logic_value imm))) e in
    let is = passed_run (run_in imm) runs in
    let other = opposite_run (run_in imm) is in
    let lawful = lawful_run (opposite (run_in imm)) other in
    record {
      r = r_fits Size64 (logic_with Size64 (number (opposite (run_in imm))) (opposite (run_in imm))) lawful;
      s = s_fits Size64 (logic_with Size64 (number (opposite (run_in imm))) (opposite (run_in imm))) lawful;
      bitmask = run_bitmask size (opposite (run_in imm)) other
          (λ small. narrow imm.size (logic_value imm) (run_in imm) (same ∙ small) is (eqb-true (number (run_in imm)) (seen imm.size (logic_value imm)) numbers));
    }

taken_fields : (op : ALUOp) (size : OperandSize) (imm : ImmLogic) → imm.size ≡ size → is_imm_logic imm ≡ true → AreFields size (taken op imm)
taken_fields alu.AndNot size imm same e = inverted_fields size imm same e
taken_fields alu.OrrNot size imm same e = inverted_fields size imm same e
taken_fields alu.EorNot size imm same e = inverted_fields size imm same e
taken_fields _ size imm same e = lawful_fields size imm same (passed imm e)

pub alu_rr_imm_logic_within : (op : ALUOp) (size : OperandSize) (rd rn : Reg) (imml : ImmLogic) → is_logic_of size imml ≡ true → IsFormOf (alu_rr_imm_logic_form op size rd rn imml)
unfolding alu_rr_imm_logic_form
alu_rr_imm_logic_within op size rd rn imml of_size =
    let (same, is) = and_parts (is_same_size imml.size size) (is_imm_logic imml) of_size in
    fields_within op size rd rn (taken op imml) (taken_fields op size imml (same_size imml.size size same) is)

-- and of a lawful immediate an or
pub orr_is_form : (rd rn : Reg) (imm : ImmLogic) → IsImmLogic imm → IsFormOf (alu_rr_imm_logic_form alu.Orr imm.size rd rn imm)
unfolding alu_rr_imm_logic_form
orr_is_form rd rn imm is = fields_within alu.Orr imm.size rd rn imm (lawful_fields imm.size imm refl is)
