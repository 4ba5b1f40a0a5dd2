use Rattle.a64_read.proofs.OtherKinds.{imm_shift_else}
use Rattle.a64_read.proofs.at.ImmShiftField.of.Goals as goal

pub returns-in_default : goal.returns-in_default
returns-in_default c = imm_shift_else c.args.value.now c.in_default.not-ImmShift
