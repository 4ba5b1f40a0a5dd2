use Rattle.a64_read.proofs.OtherKinds.{u64_else}
use Rattle.a64_read.proofs.at.U64Field.of.Goals as goal

pub returns-in_default : goal.returns-in_default
returns-in_default c = u64_else c.args.value.now c.in_default.not-U64
