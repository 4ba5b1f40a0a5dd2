use Rattle.std.proofs.Common.{arith}
use Rattle.std.proofs.lemmas.Grind.{common_steps}
use Rattle.a64_io.proofs.Writing.{takes_more}
use Rattle.a64_io.proofs.output.write_all.Goals as goal

pub loop-done-preserved : goal.loop-done-preserved
loop-done-preserved g c = (
  grind (arith, common_steps, c.in-Ok.ensures.some),
  takes_more (g.K.Sink.taken c.args.sink.now) (g.K.Sink.taken c.loop-done.sink) (g.K.Sink.taken c.write.new.self) c.loop-done.done c.in-Ok.n c.args.bytes.now (grind (arith, common_steps, c.in-Ok.ensures.some)) c.loop-done.invariant.1 c.in-Ok.ensures.takes,
  omega (arith, c.loop-done.invariant.2, c.in-Ok.ensures.steady),
)
