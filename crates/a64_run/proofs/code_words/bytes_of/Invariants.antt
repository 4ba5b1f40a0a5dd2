use Rattle.std.proofs.Common.{◌≡◌, ◌++◌, List, ℕ, take}
use Rattle.a64_report.specs.Report.{words_in}
use Rattle.a64_run.proofs.code_words.bytes_of.Given as goal

-- whatever comes behind the bytes, the words that were put come before its words
abbrev pub invariant-loop-word : goal.invariant-loop-word
invariant-loop-word l = (rest : List ℕ) → words_in (l.bytes.items ++ rest) ≡ take l.word-index l.words ++ words_in rest
