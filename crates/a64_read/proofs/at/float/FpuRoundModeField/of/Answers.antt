use Rattle.a64_read.proofs.OtherKinds.{fpu_round_mode_else}
use Rattle.a64_read.proofs.at.float.FpuRoundModeField.of.Goals as goal

pub returns-in_default : goal.returns-in_default
returns-in_default c = fpu_round_mode_else c.args.value.now c.in_default.not-FpuRoundMode
