use Rattle.std.proofs.Common.{◌≡◌, ◌≤◌}
use Rattle.a64_plan.specs.Plans.{count}
use Rattle.a64_plan.proofs.plan.count_of.Given as goal

abbrev pub invariant-loop-shift : goal.invariant-loop-shift
invariant-loop-shift l = (l.count ≡ count l.bits l.value l.shift) × (l.count ≤ l.shift)
