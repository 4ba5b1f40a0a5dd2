use Rattle.a64_read.proofs.OtherKinds.{pair_mode_else}
use Rattle.a64_read.proofs.at.WrittenPairModeField.of.Goals as goal

pub returns-in_default : goal.returns-in_default
returns-in_default c = pair_mode_else c.args.value.now c.in_default.not-PairMode
