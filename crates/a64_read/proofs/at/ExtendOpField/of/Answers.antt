use Rattle.a64_read.proofs.OtherKinds.{extend_else}
use Rattle.a64_read.proofs.at.ExtendOpField.of.Goals as goal

pub returns-in_default : goal.returns-in_default
returns-in_default c = extend_else c.args.value.now c.in_default.not-Extend
