use Rattle.a64_assemble.proofs.Bindings.{IsScanned}
use Rattle.a64_assemble.proofs.checks.bound_labels.Given as goal

abbrev pub invariant-loop-item : goal.invariant-loop-item
invariant-loop-item l = IsScanned l.items l.item-index l.bound
