use Rattle.std.proofs.Common.{◌≡◌, ◌*◌, length}
use Rattle.a64_stream.proofs.branches.branches.Given as goal

abbrev pub invariant-loop-number : goal.invariant-loop-number
invariant-loop-number l = length l.stream.items.items ≡ 2 * l.number
