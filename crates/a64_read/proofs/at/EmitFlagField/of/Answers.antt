use Rattle.a64_read.proofs.OtherKinds.{emit_flag_else}
use Rattle.a64_read.proofs.at.EmitFlagField.of.Goals as goal

pub returns-in_default : goal.returns-in_default
returns-in_default c = emit_flag_else c.args.value.now c.in_default.not-EmitFlag
