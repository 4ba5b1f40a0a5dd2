use Rattle.std.proofs.Common.{◌∙◌}
use Rattle.a64_run.proofs.GenItems.{constants_more}
use Rattle.a64_run.proofs.turns.put_constants.Goals as goal

pub loop-number-preserved : goal.loop-number-preserved
loop-number-preserved c = (rw (c.gen_bytes-bytes.ensures, c.loop-number.invariant) at c.in_ok-insert.ensures.ok) ∙ constants_more c.loop-number.number
