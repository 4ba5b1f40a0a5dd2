use Rattle.std.proofs.Common.{◌≡◌, ◌≢◌, ◌+◌, length, List, [], ◌∷◌, ◌++◌, nat_eq, sym, ap, ◌∙◌, arith}
use Rattle.a64_imms.specs.MoveWides.{halfword}
use Rattle.a64_plan.specs.declared.step.ConstStep.{ConstStep}
use Rattle.a64_plan.specs.Plans.{given, places, move_at, moves_at}
use Rattle.a64_plan.proofs.Moves.{places_more, moves-push}
use Rattle.a64_plan.proofs.plan.push_moves_beginning.Goals as goal

pub loop-shift-preserved : goal.loop-shift-preserved
loop-shift-preserved c =
    let size = c.args.size in
    let negated = c.args.negated in
    let value = c.args.value in
    let k = c.loop-shift.shift in
    let old = c.loop-shift.steps.items in
    let ks = places negated value k in
    let apart : halfword k value ≢ given negated = λ e. c.if-halfword_of-given.false (c.halfword_of.ensures ∙ e ∙ sym c.loop-shift.invariant.0) in
    let items : c.push.new.self.items ≡ moves_at size negated value (places negated value (k + 1)) =
    c.push.ensures.items
    ∙ ap (λ (move : ConstStep). old ++ (move ∷ [])) (c.move_giving.ensures ∙ ap (λ is_first. move_at is_first size negated value k) c.is_empty-is_first.ensures)
    ∙ ap (λ (steps : List ConstStep). steps ++ (move_at (nat_eq (length steps) 0) size negated value k ∷ [])) c.loop-shift.invariant.1
    ∙ sym (moves-push size negated value k ks)
    ∙ ap (moves_at size negated value) (sym (places_more negated value k apart)) in
    (c.loop-shift.invariant.0, items, omega arith)
