use Rattle.std.proofs.Common.{◌∙◌}
use Rattle.a64_read.proofs.OtherKinds.{reg_else}
use Rattle.a64_read.proofs.at.RegField.of.Goals as goal

pub returns-in_default : goal.returns-in_default
returns-in_default c = c.virtual_reg.ensures ∙ reg_else c.args.value.now c.in_default.not-Reg
