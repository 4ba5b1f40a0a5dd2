use Rattle.a64_read.proofs.RegisterSets.{no_registers, set_read}
use Rattle.a64_read.proofs.clobbers.read_clobbers.Goals as goal

pub returns-in_default : goal.returns-in_default
returns-in_default c = no_registers c.args.token.now (rw c.in_default.is at c.in_ok-registers.ensures)

pub returns : goal.returns
returns c = set_read c.args.token.now c.in-Some.registers (rw c.in-Some.is at c.in_ok-registers.ensures) c.as_slice.result.now c.as_slice.ensures c.set_of.result c.set_of.ensures
