use Rattle.a64_read.proofs.OtherKinds.{u8_else}
use Rattle.a64_read.proofs.at.U8Field.of.Goals as goal

pub returns-in_default : goal.returns-in_default
returns-in_default c = u8_else c.args.value.now c.in_default.not-U8
