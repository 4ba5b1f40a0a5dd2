use Rattle.a64_read.proofs.OtherKinds.{uimm6_else}
use Rattle.a64_read.proofs.at.UImm6Field.of.Goals as goal

pub returns-in_default : goal.returns-in_default
returns-in_default c = uimm6_else c.args.value.now c.in_default.not-UImm6
