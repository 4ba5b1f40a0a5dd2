use Rattle.std.proofs.Common.{◌≤◌, drop}
use Rattle.a64_read.proofs.RegisterSets.{Walk}
use Rattle.a64_read.proofs.clobbers.set_of.Given as goal

abbrev pub invariant-loop-register : goal.invariant-loop-register
invariant-loop-register l = Walk l.registers (drop l.register-index l.registers) l.set l.next × (l.next ≤ 65)
