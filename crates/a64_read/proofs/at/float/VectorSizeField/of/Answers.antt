use Rattle.a64_read.proofs.OtherKinds.{vector_size_else}
use Rattle.a64_read.proofs.at.float.VectorSizeField.of.Goals as goal

pub returns-in_default : goal.returns-in_default
returns-in_default c = vector_size_else c.args.value.now c.in_default.not-VectorSize
