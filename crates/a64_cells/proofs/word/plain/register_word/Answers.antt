use Rattle.std.proofs.Common.{◌≡◌, true, sym, subst}
use Rattle.a64_inst.specs.declared.inst.Inst.{Inst}
use Rattle.a64_inst.specs.declared.inst.Inst.TheVariants as insts
use Rattle.a64_operand.specs.declared.virtuals.VirtualRegisters.TheVariants.{Refused}
use Rattle.a64_inst.specs.Faults.{has_operands}
use Rattle.a64_rows.specs.Forms.{IsFormOf}
use Rattle.a64_enc_int.specs.declared.fields.TwoRegisters.{TwoRegisters}
use Rattle.a64_cells.specs.IntegerForms.{shifted_form}
use Rattle.a64_cells.proofs.PlainOperands.{rest_of}
use Rattle.a64_cells.proofs.RegisterForms.{shifted_is_form}
use Rattle.a64_cells.proofs.word.plain.register_word.Goals as goal

pub shifted_word-requires : goal.shifted_word-requires
shifted_word-requires c =
    let i = c.in-AluRRRShift in
    let good = subst (λ (inst : Inst). has_operands c.args.frame.now c.args.info.now Refused inst ≡ true) i.is c.requires.good in
    let shifted = rest_of (insts.AluRRRShift i.alu_op i.size i.rd i.rn i.rm i.shiftop) good in
    subst (λ (r : TwoRegisters). IsFormOf (shifted_form i.alu_op i.shiftop r)) (sym c.two_registers.ensures.value)
    (shifted_is_form i.alu_op i.size i.rd i.rn i.rm i.shiftop shifted)
