use Rattle.std.proofs.Common.{◌∙◌}
use Rattle.a64_read.proofs.OtherKinds.{shift_else}
use Rattle.a64_read.proofs.at.ShiftOpAndAmtField.of.Goals as goal

pub returns-in_default : goal.returns-in_default
returns-in_default c = c.no_shift.ensures ∙ shift_else c.args.value.now c.in_default.not-Shift
