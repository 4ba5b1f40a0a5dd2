use Rattle.std.proofs.Common.{◌≡◌}
use Rattle.a64_link.proofs.Thunks.{thunks_of_first}
use Rattle.a64_link.proofs.lists.list_thunks.Given as goal

abbrev pub invariant-loop-i : goal.invariant-loop-i
invariant-loop-i l = l.thunks.items ≡ thunks_of_first l.units l.starts l.i
