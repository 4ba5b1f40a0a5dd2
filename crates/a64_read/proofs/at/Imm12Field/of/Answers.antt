use Rattle.a64_read.proofs.OtherKinds.{imm12_else}
use Rattle.a64_read.proofs.at.Imm12Field.of.Goals as goal

pub returns-in_default : goal.returns-in_default
returns-in_default c = imm12_else c.args.value.now c.in_default.not-Imm12
