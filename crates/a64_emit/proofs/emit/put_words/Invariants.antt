use Rattle.std.proofs.Common.{◌≡◌, ◌++◌, take}
use Rattle.a64_emit.proofs.emit.put_words.Given as goal

-- the words so far stand at the end
abbrev pub invariant-loop-word : goal.invariant-loop-word
invariant-loop-word l = l.sink ≡ record l.fn.sink { words = l.fn.sink.words ++ take l.word-index l.words }
