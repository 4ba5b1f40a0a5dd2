use Rattle.std.proofs.Common.{◌≡◌, ◌++◌, take}
use Rattle.a64_cells.proofs.word.call.push_all.Given as goal

-- the words so far
abbrev pub invariant-loop-word : goal.invariant-loop-word
invariant-loop-word l = l.words.items ≡ l.fn.words.items ++ take l.word-index l.more
