use Rattle.a64_read.proofs.OtherKinds.{atomic_rmw_loop_op_else}
use Rattle.a64_read.proofs.at.AtomicRMWLoopOpField.of.Goals as goal

pub returns-in_default : goal.returns-in_default
returns-in_default c = atomic_rmw_loop_op_else c.args.value.now c.in_default.not-AtomicRmwLoopOp
