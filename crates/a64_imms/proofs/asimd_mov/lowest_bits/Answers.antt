use Rattle.std.proofs.Common.{sym, ap, ◌∙◌}
use Rattle.a64_imms.proofs.Bytes.{gathered, gathered_spread}
use Rattle.a64_imms.proofs.asimd_mov.lowest_bits.Goals as goal

pub returns : goal.returns
returns c = λ bits fits e. ap gathered (sym e) ∙ gathered_spread bits fits
