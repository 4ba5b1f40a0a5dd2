use Rattle.a64_read.proofs.Shifts.{no_call, no_name}
use Rattle.a64_read.proofs.shift.read_shift.Goals as goal

pub returns-in_err-name : goal.returns-in_err-name
returns-in_err-name c = rw c.from_residual.ensures (no_call c.args.token.now c.in_err-name.ensures)

pub returns-in_err-op : goal.returns-in_err-op
returns-in_err-op c = rw c.from_residual-in_err-op.ensures (no_name c.args.token.now c.in_ok-name.name.now c.in_ok-name.amount.now c.in_ok-name.ensures c.in_err-op.ensures)
