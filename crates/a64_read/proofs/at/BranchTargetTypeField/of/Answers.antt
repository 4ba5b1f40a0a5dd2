use Rattle.a64_read.proofs.OtherKinds.{branch_target_type_else}
use Rattle.a64_read.proofs.at.BranchTargetTypeField.of.Goals as goal

pub returns-in_default : goal.returns-in_default
returns-in_default c = branch_target_type_else c.args.value.now c.in_default.not-BranchTargetType
