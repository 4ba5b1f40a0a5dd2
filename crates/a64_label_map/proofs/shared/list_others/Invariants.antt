use Rattle.std.proofs.Common.{◌≡◌, ◌++◌}
use Rattle.a64_label_map.proofs.shared.list_others.Given as goal

abbrev pub invariant-loop-number : goal.invariant-loop-number
invariant-loop-number g l = l.list.items ++ l.number-iterator ≡ l.fn.list.items ++ l.others.entries
