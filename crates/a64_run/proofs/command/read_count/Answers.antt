use Rattle.std.proofs.Common.{arith}
use Rattle.a64_run.proofs.Words.{count_read, count_unread, count_outside, count_begins, count_empty}
use Rattle.a64_run.proofs.command.read_count.Goals as goal

pub returns-in_default : goal.returns-in_default
returns-in_default c = count_empty c.args.word.now (rw c.as_bytes.ensures.value at c.in_default.len_below)

pub returns-in_default-2 : goal.returns-in_default-2
returns-in_default-2 c = count_begins c.args.word.now (rw c.as_bytes.ensures.value at c.if-first-gt48.false)

pub returns-in-Ok : goal.returns-in-Ok
returns-in-Ok c = count_read c.args.word.now c.in-Ok.count (rw c.as_bytes.ensures.value at c.if-first-gt48.true) c.in-Ok.ensures.value.0 (omega arith, omega arith)

pub returns-in_default-parse : goal.returns-in_default-parse
returns-in_default-parse c = count_outside c.args.word.now c.in-Ok.count c.in-Ok.ensures.value.0 (λ is. omega (arith, is.1))

pub returns-in_default-parse-2 : goal.returns-in_default-parse-2
returns-in_default-parse-2 c = count_outside c.args.word.now c.in-Ok.count c.in-Ok.ensures.value.0 (λ is. omega (arith, is.0))

pub returns-in_default-parse-3 : goal.returns-in_default-parse-3
returns-in_default-parse-3 c = count_unread c.args.word.now c.in_default-parse.ensures.value.0
