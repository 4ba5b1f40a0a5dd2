use Rattle.a64_read.specs.FloatShifts.{fpu_op_ri_parts, IsFpuOpRI}
use Rattle.a64_read.proofs.Calls.{made_call, made_no_call}
use Rattle.a64_read.proofs.FloatShifts.{fpu_op_ri_apart}
use Rattle.a64_read.proofs.float_shift.read_fpu_op_ri.Goals as goal

pub returns-in_err-name : goal.returns-in_err-name
returns-in_err-name c = rw c.from_residual.ensures (made_no_call IsFpuOpRI fpu_op_ri_parts fpu_op_ri_apart c.args.token.now c.in_err-name.ensures)

pub returns : goal.returns
returns c = made_call IsFpuOpRI fpu_op_ri_parts fpu_op_ri_apart c.args.token.now (c.in_ok-name.name.now, c.in_ok-name.amount.now) c.in_ok-name.ensures c.fpu_op_ri_of.result c.fpu_op_ri_of.ensures
