use Rattle.std.proofs.Common.{arith, to_z-of_z}
use Rattle.a64_read.proofs.Scaled.{scaled_read}
use Rattle.a64_read.proofs.mode.scaled_of.Goals as goal

pub returns : goal.returns
returns c = scaled_read c.args.value c.args.scale (grind (arith, c.is_scale.ensures, c.if-not-is_scale.false)) c.maybe_from_i64.result (rw (to_z-of_z c.ranges.value) at c.maybe_from_i64.ensures)
