use Rattle.a64_read.proofs.OtherKinds.{type_else}
use Rattle.a64_read.proofs.at.IrTypeField.of.Goals as goal

pub returns-in_default : goal.returns-in_default
returns-in_default c = type_else c.args.value.now c.in_default.not-Type
