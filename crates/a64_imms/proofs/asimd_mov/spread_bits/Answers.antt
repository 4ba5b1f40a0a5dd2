use Rattle.a64_imms.specs.MovImms.{spread}
use Rattle.a64_imms.proofs.asimd_mov.spread_bits.Goals as goal

pub returns : goal.returns
unfolding spread
returns c = cc
