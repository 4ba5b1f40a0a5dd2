use Rattle.a64_read.proofs.OtherKinds.{offset9_else}
use Rattle.a64_read.proofs.at.SImm9Field.of.Goals as goal

pub returns-in_default : goal.returns-in_default
returns-in_default c = offset9_else c.args.value.now c.in_default.not-Offset9
