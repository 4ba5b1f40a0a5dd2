use Rattle.a64_read.proofs.OtherKinds.{alu_op_else}
use Rattle.a64_read.proofs.at.ALUOpField.of.Goals as goal

pub returns-in_default : goal.returns-in_default
returns-in_default c = alu_op_else c.args.value.now c.in_default.not-AluOp
