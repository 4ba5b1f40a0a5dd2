use Rattle.std.proofs.Common.{◌≡◌, take}
use Rattle.a64_inst.proofs.frame.cloned_insts.Given as goal

abbrev pub invariant-loop-inst : goal.invariant-loop-inst
invariant-loop-inst l = l.copy ≡ take l.inst-index l.insts
