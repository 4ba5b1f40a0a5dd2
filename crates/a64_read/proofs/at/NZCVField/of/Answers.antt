use Rattle.std.proofs.Common.{◌∙◌}
use Rattle.a64_read.proofs.OtherKinds.{no_flags, nzcv_else}
use Rattle.a64_read.proofs.at.NZCVField.of.Goals as goal

pub returns-in_default : goal.returns-in_default
returns-in_default c = no_flags c.new.result c.new.ensures ∙ nzcv_else c.args.value.now c.in_default.not-Nzcv
