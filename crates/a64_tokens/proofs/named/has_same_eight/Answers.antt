use Rattle.std.proofs.Common.{refl, arith}
use Rattle.a64_tokens.proofs.SameBytes.{lanes_same}
use Rattle.a64_tokens.proofs.named.has_same_eight.Goals as goal

pub returns : goal.returns
returns c = lanes_same 8 255 (omega arith) refl c.args.a.now c.args.b.now c.args.place c.requires.0 c.requires.1 _ refl
