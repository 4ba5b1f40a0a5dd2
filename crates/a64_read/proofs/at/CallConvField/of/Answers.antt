use Rattle.a64_read.proofs.OtherKinds.{convention_else}
use Rattle.a64_read.proofs.at.CallConvField.of.Goals as goal

pub returns-in_default : goal.returns-in_default
returns-in_default c = convention_else c.args.value.now c.in_default.not-Convention
