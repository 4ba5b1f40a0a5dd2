use Rattle.std.proofs.Common.{◌≡◌, ◌≤◌, take, map, length}
use Rattle.a64_inst.specs.Constants.{step_into}
use Rattle.a64_inst.proofs.inst.Inst.load_constant.Given as goal

abbrev pub invariant-loop-step : goal.invariant-loop-step
invariant-loop-step l =
    (l.insts.items ≡ map (step_into l.rd) (take l.step-index l.step-items))
    × (l.insts.capacity ≡ 4)
    × (length l.insts.items ≡ l.step-index)
    × (length l.step-items ≤ 4)
