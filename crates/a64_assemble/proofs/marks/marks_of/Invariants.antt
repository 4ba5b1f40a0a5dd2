use Rattle.std.proofs.Common.{take}
use Rattle.a64_assemble.proofs.Marking.{AreCounted}
use Rattle.a64_assemble.proofs.marks.marks_of.Given as goal

-- the items so far are counted, and their sums stand last
abbrev pub invariant-loop-item : goal.invariant-loop-item
invariant-loop-item l = AreCounted l.frame l.info (take l.item-index l.items) l.counts l.mark l.marks.items
