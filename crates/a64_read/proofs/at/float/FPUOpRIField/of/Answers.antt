use Rattle.a64_read.proofs.OtherKinds.{fpu_op_ri_else}
use Rattle.a64_read.proofs.at.float.FPUOpRIField.of.Goals as goal

pub returns-in_default : goal.returns-in_default
returns-in_default c = fpu_op_ri_else c.args.value.now c.in_default.not-FpuOpRI
