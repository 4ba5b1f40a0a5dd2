use Rattle.a64_data.proofs.Runs.{IsScanned}
use Rattle.a64_data.proofs.range.ranges_of.Given as goal

-- the ranges in front of a place are listed, but for the one that may have begun
abbrev pub invariant-loop-place : goal.invariant-loop-place
invariant-loop-place l = IsScanned l.marks l.ranges.items l.open l.place
