use Rattle.std.proofs.Common.{◌*◌}
use Rattle.a64_buffer.specs.Grown.{IsGrown}
use Rattle.a64_tests.proofs.load.add_uses_and_item.Given as goal

abbrev pub invariant-loop-use : goal.invariant-loop-use
invariant-loop-use g l = IsGrown g.K.MachInstLabelUse.kinds 0 (36 * l._use) 1 0 l.buffer
