use Rattle.std.proofs.Common.{refl, append_assoc, append-nil}
use Rattle.a64_operand_text.proofs.LineSteps.{from_one_on, at_end, one_more, whole_line}
use Rattle.a64_operand_text.proofs.operand.push_line.Goals as goal

pub loop-operand-init : goal.loop-operand-init
loop-operand-init c =
    rw c.in_ok-push_str.ensures.bytes (rw (append_assoc, whole_line) refl)

pub loop-operand-preserved : goal.loop-operand-preserved
loop-operand-preserved c =
    let step = from_one_on c.loop-operand.is_first c.args.operands.now c.loop-operand.operand-index c.operand-item.result c.loop-operand-test.true in
    let whole = rw step at c.loop-operand.invariant in
    one_more _ _ _ _ _ _ _ (rw c.separator.ensures at c.in_ok-push_str-2.ensures.bytes) (rw c.operand-item.is at c.in_ok-push_operand.ensures) whole

pub returns : goal.returns
returns c =
    let step = at_end c.loop-operand.is_first c.args.operands.now c.loop-operand.operand-index c.loop-operand-test.false in
    let whole = rw (step, append-nil) at c.loop-operand.invariant in whole
