use Rattle.a64_read.proofs.OtherKinds.{label_else}
use Rattle.a64_read.proofs.at.MachLabelField.of.Goals as goal

pub returns-in_default : goal.returns-in_default
returns-in_default c = label_else c.args.value.now c.in_default.not-Label
