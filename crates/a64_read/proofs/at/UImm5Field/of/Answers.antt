use Rattle.std.proofs.Common.{◌∙◌}
use Rattle.a64_read.proofs.OtherKinds.{uimm5_else}
use Rattle.a64_read.proofs.at.UImm5Field.of.Goals as goal

pub returns-in_default : goal.returns-in_default
returns-in_default c = c.least_uimm5.ensures ∙ uimm5_else c.args.value.now c.in_default.not-UImm5
