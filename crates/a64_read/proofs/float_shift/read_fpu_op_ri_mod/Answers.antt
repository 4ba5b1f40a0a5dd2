use Rattle.a64_read.specs.FloatShifts.{fpu_op_ri_mod_parts, IsFpuOpRIMod}
use Rattle.a64_read.proofs.Calls.{made_call, made_no_call}
use Rattle.a64_read.proofs.FloatShifts.{fpu_op_ri_mod_apart}
use Rattle.a64_read.proofs.float_shift.read_fpu_op_ri_mod.Goals as goal

pub returns-in_err-name : goal.returns-in_err-name
returns-in_err-name c = rw c.from_residual.ensures (made_no_call IsFpuOpRIMod fpu_op_ri_mod_parts fpu_op_ri_mod_apart c.args.token.now c.in_err-name.ensures)

pub returns : goal.returns
returns c = made_call IsFpuOpRIMod fpu_op_ri_mod_parts fpu_op_ri_mod_apart c.args.token.now (c.in_ok-name.name.now, c.in_ok-name.amount.now) c.in_ok-name.ensures c.fpu_op_ri_mod_of.result c.fpu_op_ri_mod_of.ensures
