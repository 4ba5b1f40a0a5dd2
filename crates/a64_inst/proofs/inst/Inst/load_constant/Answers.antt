use Rattle.std.proofs.Common.{◌≡◌, map, sym, ap, subst, ◌∙◌}
use Rattle.std.proofs.lemmas.List.{take_all}
use Rattle.a64_inst.specs.Constants.{step_into, HaveNoFault}
use Rattle.a64_inst.proofs.Constants.{steps_good}
use Rattle.a64_inst.proofs.inst.Inst.load_constant.Goals as goal

pub returns-clause-faultless : goal.returns-clause-faultless
returns-clause-faultless c =
    let all : c.loop-step.insts.items ≡ map (step_into c.args.rd) c.const_plan-plan.result.items =
    c.loop-step.invariant.0
    ∙ ap (map (step_into c.args.rd)) (take_all c.loop-step.step-index c.as_slice-step-items.result.now c.loop-step-test.false)
    ∙ ap (map (step_into c.args.rd)) c.as_slice-step-items.ensures.value in
    subst HaveNoFault (sym all) (steps_good c.args.rd c.const_plan-plan.result.items c.requires c.const_plan-plan.ensures.shape)
