use Rattle.a64_data.specs.Marks.{Marks}
use Rattle.a64_data.proofs.Items.{IsItemDataBefore}
use Rattle.a64_data.proofs.words.mark_items.Given as goal

-- the data of the items so far is marked
abbrev pub invariant-loop-index : goal.invariant-loop-index
invariant-loop-index l = Marks (IsItemDataBefore l.frame l.info l.items l.places l.index) l.initial.marks l.marks
