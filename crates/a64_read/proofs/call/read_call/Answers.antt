use Rattle.a64_read.proofs.Calls.{no_call, no_end, other_end, is_call}
use Rattle.a64_tokens.proofs.Splits.{behind}
use Rattle.a64_read.proofs.call.read_call.Goals as goal

pub returns-in_err-rest : goal.returns-in_err-rest
returns-in_err-rest c = rw c.from_residual.ensures (no_call c.args.token.now c.cut.result.0.now c.cut.result.1 c.in_err-rest.was c.cut.ensures)

pub returns-in_err-last : goal.returns-in_err-last
returns-in_err-last c = rw c.from_residual-in_err-last.ensures (no_end c.args.token.now c.cut.result.0.now c.in_ok-rest.field-0.now (behind 40 c.args.token.now c.cut.result.0.now c.cut.result.1 c.in_ok-rest.field-0 c.in_ok-rest.was c.cut.ensures) c.in_err-last.ensures.cases)

pub returns-then-last-eq41 : goal.returns-then-last-eq41
returns-then-last-eq41 c = is_call c.args.token.now c.cut.result.0.now c.in_ok-rest.field-0.now (behind 40 c.args.token.now c.cut.result.0.now c.cut.result.1 c.in_ok-rest.field-0 c.in_ok-rest.was c.cut.ensures) c.in_ok-last.inside.now c.in_ok-last.last.now c.in_ok-last.ensures.cases.0 c.if-last-eq41.true

pub returns-else-last-eq41 : goal.returns-else-last-eq41
returns-else-last-eq41 c = other_end c.args.token.now c.cut.result.0.now c.in_ok-rest.field-0.now (behind 40 c.args.token.now c.cut.result.0.now c.cut.result.1 c.in_ok-rest.field-0 c.in_ok-rest.was c.cut.ensures) c.in_ok-last.inside.now c.in_ok-last.last.now c.in_ok-last.ensures.cases.0 c.if-last-eq41.false
