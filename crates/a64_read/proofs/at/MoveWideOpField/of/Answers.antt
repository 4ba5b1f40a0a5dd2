use Rattle.a64_read.proofs.OtherKinds.{move_wide_op_else}
use Rattle.a64_read.proofs.at.MoveWideOpField.of.Goals as goal

pub returns-in_default : goal.returns-in_default
returns-in_default c = move_wide_op_else c.args.value.now c.in_default.not-MoveWideOp
