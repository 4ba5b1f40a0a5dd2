use Rattle.std.proofs.Common.{◌≡◌, ◌*◌, length}
use Rattle.a64_stream.proofs.mixed.mixed.Given as goal

abbrev pub invariant-loop-group : goal.invariant-loop-group
invariant-loop-group l = length l.stream.items.items ≡ 8 * l.group
