use Rattle.std.proofs.Common.{◌≡◌}
use Rattle.std.specs.BinaryHeap.{heap_len}
use Rattle.a64_buffer.specs.Queues.{LosesRoom, HoldsIn}
use Rattle.a64_buffer.proofs.queue.Queue.drop_closed.Given as goal

abbrev pub invariant-loop-index : goal.invariant-loop-index
invariant-loop-index g l = record {
  holds : HoldsIn g.K.MachInstLabelUse.kinds l.rank l.uses l.self;
  next : l.self.next ≡ l.fn.self.next;
  room : LosesRoom 0 l.fn.self l.self;
}

abbrev pub decreases-loop-index : goal.decreases-loop-index
decreases-loop-index g l = heap_len l.self.strays
