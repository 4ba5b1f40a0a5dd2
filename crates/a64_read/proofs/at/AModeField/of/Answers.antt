use Rattle.a64_read.proofs.OtherKinds.{mode_else}
use Rattle.a64_read.proofs.at.AModeField.of.Goals as goal

pub returns-in_default : goal.returns-in_default
returns-in_default c = mode_else c.args.value.now c.in_default.not-Mode
