use Rattle.a64_buffer.specs.Queues.{NoneWaits}
use Rattle.a64_buffer.proofs.queue.next_waiting.Given as goal

abbrev pub invariant-loop-index : goal.invariant-loop-index
invariant-loop-index g l = NoneWaits g.K.MachInstLabelUse.kinds l.rank l.uses l.from l.index
