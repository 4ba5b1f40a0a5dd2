use Rattle.a64_read.proofs.OtherKinds.{frame_field_else}
use Rattle.a64_read.proofs.at.FrameFieldField.of.Goals as goal

pub returns-in_default : goal.returns-in_default
returns-in_default c = frame_field_else c.args.value.now c.in_default.not-FrameField
