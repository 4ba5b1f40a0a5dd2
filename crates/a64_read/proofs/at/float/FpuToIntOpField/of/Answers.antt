use Rattle.a64_read.proofs.OtherKinds.{fpu_to_int_op_else}
use Rattle.a64_read.proofs.at.float.FpuToIntOpField.of.Goals as goal

pub returns-in_default : goal.returns-in_default
returns-in_default c = fpu_to_int_op_else c.args.value.now c.in_default.not-FpuToIntOp
