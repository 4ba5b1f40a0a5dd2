use Rattle.a64_read.proofs.OtherKinds.{size_else}
use Rattle.a64_read.proofs.at.OperandSizeField.of.Goals as goal

pub returns-in_default : goal.returns-in_default
returns-in_default c = size_else c.args.value.now c.in_default.not-Size
