use Rattle.std.proofs.Common.{◌≡◌, ◌+◌, None, refl, sym, subst}
use Rattle.std.specs.Prelude.{IfSome}
use Rattle.std.proofs.lemmas.Option.{IfSome_then}
use Rattle.a64_inst.specs.declared.inst.Inst.{Inst}
use Rattle.a64_emit.specs.Bounds.{asked_of, charge_of, size_of}
use Rattle.a64_cells.specs.Cells.{inst_cells}
use Rattle.a64_cells.specs.ControlForms.{cond_br_form, jump_form, test_bit_and_branch_form}
use Rattle.a64_emit.specs.Lights.{IsLight}
use Rattle.a64_emit.proofs.extent.control_light.Goals as goal

pub returns-in-Jump : goal.returns-in-Jump
returns-in-Jump c =
    subst (λ (inst : Inst). (asked_of inst ≡ None) × IsLight (inst_cells c.args._frame.now c.args._info.now inst) (size_of (inst_cells c.args._frame.now c.args._info.now inst) + charge_of (inst_cells c.args._frame.now c.args._info.now inst)) c.jump_light.result) (sym c.in-Jump.is)
    (refl, c.jump_light.ensures (jump_form c.in-Jump.dest))

pub returns-in-CondBr : goal.returns-in-CondBr
returns-in-CondBr c =
    let branch = c.in-CondBr in
    subst (λ (inst : Inst). IfSome c.branches_light.result (λ light. (asked_of inst ≡ None) × IsLight (inst_cells c.args._frame.now c.args._info.now inst) (size_of (inst_cells c.args._frame.now c.args._info.now inst) + charge_of (inst_cells c.args._frame.now c.args._info.now inst)) light)) (sym branch.is)
    (IfSome_then c.branches_light.result c.branches_light.ensures (λ light is. (refl, is (cond_br_form branch.taken branch.kind))))

pub returns-in-TestBitAndBranch : goal.returns-in-TestBitAndBranch
returns-in-TestBitAndBranch c =
    let branch = c.in-TestBitAndBranch in
    let light = c.branches_light-in-TestBitAndBranch in
    subst (λ (inst : Inst). IfSome light.result (λ light. (asked_of inst ≡ None) × IsLight (inst_cells c.args._frame.now c.args._info.now inst) (size_of (inst_cells c.args._frame.now c.args._info.now inst) + charge_of (inst_cells c.args._frame.now c.args._info.now inst)) light)) (sym branch.is)
    (IfSome_then light.result light.ensures (λ _ is. (refl, is (test_bit_and_branch_form branch.kind branch.taken branch.rn branch.bit))))
