use Rattle.a64_tokens.proofs.Signed.{minus_none, minus_read}
use Rattle.a64_tokens.proofs.offset.read_i64.Goals as goal

pub returns-in_err-read_u64-in-Some : goal.returns-in_err-read_u64-in-Some
returns-in_err-read_u64-in-Some c = rw c.from_residual.ensures (minus_none c.args.token.now c.in-Some.digits.now c.in-Some.ensures c.in_err-read_u64-in-Some.ensures)

pub returns-in_ok-read_u64-in-Some : goal.returns-in_ok-read_u64-in-Some
returns-in_ok-read_u64-in-Some c = minus_read c.args.token.now c.in-Some.digits.now c.in_ok-read_u64-in-Some.field-0 c.below_zero.result c.in-Some.ensures c.in_ok-read_u64-in-Some.ensures c.below_zero.ensures
