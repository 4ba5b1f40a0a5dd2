use Rattle.std.proofs.Common.{◌≡◌, ◌%◌, ◌^◌, map, sum}
use Rattle.std.specs.List.{range_with_len}
use Rattle.a64_stream.specs.Streams.{word_at}
use Rattle.a64_stream.proofs.summary.word_sum.Given as goal

abbrev pub invariant-loop-i : goal.invariant-loop-i
invariant-loop-i l = l.sum ≡ sum (map (word_at l.bytes) (range_with_len 0 l.i)) % 2 ^ 32
