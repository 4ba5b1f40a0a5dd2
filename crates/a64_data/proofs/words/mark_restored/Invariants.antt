use Rattle.std.proofs.Common.{map}
use Rattle.a64_cells.specs.Cells.{restored_cell}
use Rattle.a64_data.specs.Marks.{Marks}
use Rattle.a64_data.proofs.Placing.{IsDataBefore}
use Rattle.a64_data.proofs.words.mark_restored.Given as goal

-- the words so far are marked that are data
abbrev pub invariant-loop-index : goal.invariant-loop-index
invariant-loop-index l = Marks (IsDataBefore (map (restored_cell l.frame l.info) l.frame.restore) l.place l.index) l.initial.marks l.marks
