use Rattle.a64_tokens.specs.Fields.{reg_text, IsReg}
use Rattle.a64_read.specs.RegisterLaws.{equals, reg_apart}
use Rattle.a64_read.proofs.RegisterPairReads.{no_equals, no_front, no_back, both_read}
use Rattle.a64_tokens.proofs.Splits.{behind}
use Rattle.a64_read.proofs.register_pair.read_register_pair.Goals as goal

pub returns-in_err-back : goal.returns-in_err-back
returns-in_err-back c = rw c.from_residual.ensures (no_equals reg_text IsReg (reg_apart 61 equals) c.args.token.now c.cut.result.0.now c.cut.result.1 c.in_err-back.was c.cut.ensures)

pub returns-in_err-read_reg : goal.returns-in_err-read_reg
returns-in_err-read_reg c =
    let token = c.args.token.now in
    let front = c.cut.result.0.now in
    rw c.from_residual-in_err-read_reg.ensures (no_front reg_text IsReg (reg_apart 61 equals) token front c.in_ok-back.back.now (behind 61 token front c.cut.result.1 c.in_ok-back.back c.in_ok-back.was c.cut.ensures) c.in_err-read_reg.ensures)

pub returns-in_err-read_reg-2 : goal.returns-in_err-read_reg-2
returns-in_err-read_reg-2 c =
    let token = c.args.token.now in
    let front = c.cut.result.0.now in
    rw c.from_residual-in_err-read_reg-2.ensures (no_back reg_text IsReg (reg_apart 61 equals) token front c.in_ok-back.back.now (behind 61 token front c.cut.result.1 c.in_ok-back.back c.in_ok-back.was c.cut.ensures) c.in_err-read_reg-2.ensures)

pub returns : goal.returns
returns c =
    let token = c.args.token.now in
    let front = c.cut.result.0.now in
    both_read reg_text IsReg (reg_apart 61 equals) token front c.in_ok-back.back.now (behind 61 token front c.cut.result.1 c.in_ok-back.back c.in_ok-back.was c.cut.ensures) c.in_ok-read_reg.field-0 c.in_ok-read_reg-2.field-0 c.in_ok-read_reg.ensures c.in_ok-read_reg-2.ensures
