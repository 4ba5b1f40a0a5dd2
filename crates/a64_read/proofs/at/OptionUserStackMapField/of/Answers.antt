use Rattle.a64_read.proofs.OtherKinds.{map_else}
use Rattle.a64_read.proofs.at.OptionUserStackMapField.of.Goals as goal

pub returns-in_default : goal.returns-in_default
returns-in_default c = map_else c.args.value.now c.in_default.not-Map
