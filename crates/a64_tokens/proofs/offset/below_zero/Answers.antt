use Rattle.std.proofs.Common.{◌-◌, arith}
use Rattle.std.proofs.lemmas.Int.{ints}
use Rattle.a64_tokens.proofs.offset.below_zero.Goals as goal

pub returns : goal.returns
returns c = (c.args.size - 1, omega arith, omega arith, omega (arith, ints))
