use Rattle.a64_read.proofs.OtherKinds.{int_to_fpu_op_else}
use Rattle.a64_read.proofs.at.float.IntToFpuOpField.of.Goals as goal

pub returns-in_default : goal.returns-in_default
returns-in_default c = int_to_fpu_op_else c.args.value.now c.in_default.not-IntToFpuOp
