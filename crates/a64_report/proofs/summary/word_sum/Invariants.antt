use Rattle.std.proofs.Common.{◌≡◌, ◌+◌, ◌%◌, ◌^◌, length, sum}
use Rattle.a64_report.specs.Report.{words_in}
use Rattle.a64_report.specs.Summary.{word_sum}
use Rattle.a64_report.proofs.summary.word_sum.Given as goal

-- the sum so far and the words that are left
abbrev pub invariant-loop-word : goal.invariant-loop-word
invariant-loop-word l = (l.sum + sum (words_in l.rest)) % 2 ^ 32 ≡ word_sum l.bytes

abbrev pub decreases-loop-word : goal.decreases-loop-word
decreases-loop-word l = length l.rest
