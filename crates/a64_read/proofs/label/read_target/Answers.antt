use Rattle.a64_tokens.proofs.Signed.{label_none, label_read}
use Rattle.a64_read.proofs.label.read_target.Goals as goal

pub returns-in_err-read_u32-in-Some : goal.returns-in_err-read_u32-in-Some
returns-in_err-read_u32-in-Some c = rw c.from_residual.ensures (label_none c.args.token.now c.in-Some.number.now c.in-Some.ensures c.in_err-read_u32-in-Some.ensures)

pub returns-in_ok-read_u32-in-Some : goal.returns-in_ok-read_u32-in-Some
returns-in_ok-read_u32-in-Some c = label_read c.args.token.now c.in-Some.number.now c.in_ok-read_u32-in-Some.field-0 c.in-Some.ensures c.in_ok-read_u32-in-Some.ensures
