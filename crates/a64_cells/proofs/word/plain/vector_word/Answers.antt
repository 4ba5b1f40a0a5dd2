use Rattle.std.proofs.Common.{◌≡◌, true, subst}
use Rattle.a64_inst.specs.declared.inst.Inst.{Inst}
use Rattle.a64_inst.specs.declared.inst.Inst.TheVariants as insts
use Rattle.a64_operand.specs.declared.virtuals.VirtualRegisters.TheVariants.{Refused}
use Rattle.a64_inst.specs.Faults.{has_operands}
use Rattle.a64_cells.proofs.PlainOperands.{rest_of}
use Rattle.a64_cells.proofs.VectorForms.{kept_element}
use Rattle.a64_cells.proofs.word.plain.vector_word.Goals as goal

pub element_word-requires-clause-element : goal.element_word-requires-clause-element
element_word-requires-clause-element c =
    let i = c.in-VecFmlaElem in
    let good = subst (λ (inst : Inst). has_operands c.args.frame.now c.args.info.now Refused inst ≡ true) i.is c.requires.good in
    kept_element i.rd i.ri i.alu_op i.size i.idx (rest_of (insts.VecFmlaElem i.alu_op i.rd i.ri i.rn i.rm i.size i.idx) good)
