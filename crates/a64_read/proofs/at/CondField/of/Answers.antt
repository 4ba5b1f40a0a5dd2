use Rattle.a64_read.proofs.OtherKinds.{cond_else}
use Rattle.a64_read.proofs.at.CondField.of.Goals as goal

pub returns-in_default : goal.returns-in_default
returns-in_default c = cond_else c.args.value.now c.in_default.not-Cond
