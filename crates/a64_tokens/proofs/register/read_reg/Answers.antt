use Rattle.std.proofs.Common.{arith}
use Rattle.a64_tokens.proofs.Registers.{no_x, is_x}
use Rattle.a64_tokens.proofs.register.read_reg.Goals as goal

pub returns-then-n-gt30 : goal.returns-then-n-gt30
returns-then-n-gt30 c = no_x c.args.token.now c.in-Some.n (grind arith) c.in-Some.ensures (omega arith)

pub returns-else-n-gt30 : goal.returns-else-n-gt30
returns-else-n-gt30 c = rw (c.from_real_reg-in-Some.ensures, c.new-in-Some.ensures) (is_x c.args.token.now c.in-Some.n (grind arith) c.in-Some.ensures (omega arith))
