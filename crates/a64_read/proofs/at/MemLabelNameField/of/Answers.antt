use Rattle.a64_read.proofs.OtherKinds.{mem_label_name_else}
use Rattle.a64_read.proofs.at.MemLabelNameField.of.Goals as goal

pub returns-in_default : goal.returns-in_default
returns-in_default c = mem_label_name_else c.args.value.now c.in_default.not-MemLabelName
