use Rattle.std.proofs.Common.{◌≤◌}
use Rattle.a64_data.specs.Marks.{Marks}
use Rattle.a64_data.proofs.Marking.{IsBetween}
use Rattle.a64_data.proofs.marks.mark.Given as goal

-- the bytes so far are marked
abbrev pub invariant-loop-k : goal.invariant-loop-k
invariant-loop-k l = Marks (IsBetween l.begin l.k) l.initial.marks l.marks × (l.begin ≤ l.k)
