use Rattle.a64_read.proofs.OtherKinds.{test_bit_kind_else}
use Rattle.a64_read.proofs.at.TestBitAndBranchKindField.of.Goals as goal

pub returns-in_default : goal.returns-in_default
returns-in_default c = test_bit_kind_else c.args.value.now c.in_default.not-TestBitAndBranchKind
