use Rattle.a64_read.proofs.OtherKinds.{i64_else}
use Rattle.a64_read.proofs.at.I64Field.of.Goals as goal

pub returns-in_default : goal.returns-in_default
returns-in_default c = i64_else c.args.value.now c.in_default.not-I64
