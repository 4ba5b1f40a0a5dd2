use Rattle.std.proofs.Common.{◌∙◌, ap}
use Rattle.a64_inst.specs.declared.inst.Inst.{Inst}
use Rattle.a64_cells.specs.Cells.{inst_uses}
use Rattle.a64_cells.specs.ControlForms.{cond_br_form, test_bit_and_branch_form}
use Rattle.a64_emit.proofs.uses.control_uses.Goals as goal

pub returns-in-CondBr : goal.returns-in-CondBr
returns-in-CondBr c =
    ap (λ (inst : Inst). inst_uses c.args._frame.now c.args._info.now inst) c.in-CondBr.is
    ∙ c.branches_uses.ensures (cond_br_form c.in-CondBr.taken c.in-CondBr.kind)

pub returns-in-TestBitAndBranch : goal.returns-in-TestBitAndBranch
returns-in-TestBitAndBranch c =
    let branch = c.in-TestBitAndBranch in
    ap (λ (inst : Inst). inst_uses c.args._frame.now c.args._info.now inst) c.in-TestBitAndBranch.is
    ∙ c.branches_uses-in-TestBitAndBranch.ensures (test_bit_and_branch_form branch.kind branch.taken branch.rn branch.bit)
