use Rattle.std.proofs.Common.{arith}
use Rattle.std.proofs.lemmas.List.FromFn.{sum_by-map-range_with_len_more}
use Rattle.a64_stream.specs.Streams.{word_at}
use Rattle.a64_stream.proofs.summary.word_sum.Goals as goal

pub loop-i-preserved : goal.loop-i-preserved
loop-i-preserved c =
    let i = c.loop-i.i in
    omega (arith, sum_by-map-range_with_len_more (λ x. x) (word_at c.args.bytes.now) 0 i i (omega arith))
