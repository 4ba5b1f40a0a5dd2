use Rattle.a64_read.proofs.OtherKinds.{mov_imm_else}
use Rattle.a64_read.proofs.at.WrittenMovImmField.of.Goals as goal

pub returns-in_default : goal.returns-in_default
returns-in_default c = mov_imm_else c.args.value.now c.in_default.not-MovImm
