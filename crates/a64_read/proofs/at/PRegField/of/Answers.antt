use Rattle.std.proofs.Common.{◌∙◌}
use Rattle.a64_read.proofs.OtherKinds.{preg_else}
use Rattle.a64_read.proofs.at.PRegField.of.Goals as goal

pub returns-in_default : goal.returns-in_default
returns-in_default c = c.new.ensures ∙ preg_else c.args.value.now c.in_default.not-PReg
