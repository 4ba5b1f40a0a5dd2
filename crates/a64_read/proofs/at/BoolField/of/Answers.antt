use Rattle.a64_read.proofs.OtherKinds.{truth_else}
use Rattle.a64_read.proofs.at.BoolField.of.Goals as goal

pub returns-in_default : goal.returns-in_default
returns-in_default c = truth_else c.args.value.now c.in_default.not-Bool
