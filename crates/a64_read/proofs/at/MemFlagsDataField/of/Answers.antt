use Rattle.std.proofs.Common.{◌∙◌}
use Rattle.a64_read.proofs.OtherKinds.{flags_else}
use Rattle.a64_read.proofs.at.MemFlagsDataField.of.Goals as goal

pub returns-in_default : goal.returns-in_default
returns-in_default c = c.trusted.ensures ∙ flags_else c.args.value.now c.in_default.not-Flags
