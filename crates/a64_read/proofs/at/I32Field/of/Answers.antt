use Rattle.a64_read.proofs.OtherKinds.{i32_else}
use Rattle.a64_read.proofs.at.I32Field.of.Goals as goal

pub returns-in_default : goal.returns-in_default
returns-in_default c = i32_else c.args.value.now c.in_default.not-I32
