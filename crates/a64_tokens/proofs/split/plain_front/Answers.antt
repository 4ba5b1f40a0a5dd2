use Rattle.std.proofs.Common.{arith}
use Rattle.a64_tokens.proofs.Fronts.{plain_to, plain_at_start}
use Rattle.a64_tokens.proofs.split.plain_front.Goals as goal

pub returns-then-text-lt-LANES : goal.returns-then-text-lt-LANES
returns-then-text-lt-LANES c = plain_at_start c.args.text.now

pub returns : goal.returns
returns c = plain_to c.args.text.now c.first_set.result (omega (arith, c.if-text-lt-LANES.false)) c.first_set.ensures
