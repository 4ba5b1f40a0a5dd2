use Rattle.std.proofs.Common.{ℕ, ◌≡◌, ◌-◌, ◌^◌, ◌<◌, slice_index_or}
use Rattle.a64_buffer.specs.declared.queue.Queue.{Queue}
use Rattle.a64_buffer.proofs.queues.first_below.Given as goal

abbrev pub invariant-loop-rank : goal.invariant-loop-rank
invariant-loop-rank l = (k : ℕ) (q : Queue) → k < l.rank → (slice_index_or l.queues k q).limit ≡ 2 ^ 64 - 1
