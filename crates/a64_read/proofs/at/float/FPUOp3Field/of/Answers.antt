use Rattle.a64_read.proofs.OtherKinds.{fpu_op3_else}
use Rattle.a64_read.proofs.at.float.FPUOp3Field.of.Goals as goal

pub returns-in_default : goal.returns-in_default
returns-in_default c = fpu_op3_else c.args.value.now c.in_default.not-FpuOp3
