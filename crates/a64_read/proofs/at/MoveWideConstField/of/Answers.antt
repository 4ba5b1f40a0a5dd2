use Rattle.a64_read.proofs.OtherKinds.{wide_else}
use Rattle.a64_read.proofs.at.MoveWideConstField.of.Goals as goal

pub returns-in_default : goal.returns-in_default
returns-in_default c = wide_else c.args.value.now c.in_default.not-Wide
