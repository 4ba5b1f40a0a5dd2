use Rattle.std.proofs.Common.{◌≡◌, ◌≤◌, length}
use Rattle.a64_plan.specs.Plans.{given, places, moves_at}
use Rattle.a64_plan.proofs.plan.push_moves_beginning.Given as goal

abbrev pub invariant-loop-shift : goal.invariant-loop-shift
invariant-loop-shift l =
    (l.given ≡ given l.negated)
    × (l.steps.items ≡ moves_at l.size l.negated l.value (places l.negated l.value l.shift))
    × (length l.steps.items ≤ l.shift)
