use Rattle.a64_read.proofs.OtherKinds.{bit_op_else}
use Rattle.a64_read.proofs.at.BitOpField.of.Goals as goal

pub returns-in_default : goal.returns-in_default
returns-in_default c = bit_op_else c.args.value.now c.in_default.not-BitOp
