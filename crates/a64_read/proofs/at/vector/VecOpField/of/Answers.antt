use Rattle.a64_read.proofs.OtherKinds.{vec_op_else}
use Rattle.a64_read.proofs.at.vector.VecOpField.of.Goals as goal

pub returns-in_default : goal.returns-in_default
returns-in_default c = vec_op_else c.args.value.now c.in_default.not-VecOp
