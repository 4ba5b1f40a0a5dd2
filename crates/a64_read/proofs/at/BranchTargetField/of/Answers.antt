use Rattle.a64_read.proofs.OtherKinds.{target_else}
use Rattle.a64_read.proofs.at.BranchTargetField.of.Goals as goal

pub returns-in_default : goal.returns-in_default
returns-in_default c = target_else c.args.value.now c.in_default.not-Target
