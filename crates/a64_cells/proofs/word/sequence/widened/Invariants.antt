use Rattle.std.proofs.Common.{◌≡◌, take, length}
use Rattle.a64_cells.proofs.word.sequence.widened.Given as goal

-- the words so far
abbrev pub invariant-loop-word : goal.invariant-loop-word
invariant-loop-word l = (l.wide.items ≡ take l.word-index l.words) × (length l.wide.items ≡ l.word-index)
