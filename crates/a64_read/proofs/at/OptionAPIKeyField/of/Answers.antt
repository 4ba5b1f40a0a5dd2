use Rattle.a64_read.proofs.OtherKinds.{key_else}
use Rattle.a64_read.proofs.at.OptionAPIKeyField.of.Goals as goal

pub returns-in_default : goal.returns-in_default
returns-in_default c = key_else c.args.value.now c.in_default.not-Key
