use Rattle.std.proofs.Common.{arith}
use Rattle.a64_tokens.proofs.TwoDigits.{one_digit, two_digits}
use Rattle.a64_tokens.proofs.decimal.read_below_hundred.Goals as goal

pub returns-in-48-to-57 : goal.returns-in-48-to-57
returns-in-48-to-57 c = one_digit c.args.token.now (omega arith) (omega arith) (omega arith)

pub returns-in-49-to-57 : goal.returns-in-49-to-57
returns-in-49-to-57 c = two_digits c.args.token.now (omega arith) (omega arith) (omega arith) (omega arith) (omega arith)
