use Rattle.std.proofs.Common.{◌≡◌, map, take}
use Rattle.a64_buffer.proofs.Listed.{entry_of}
use Rattle.a64_buffer.proofs.settle.labels_in_order.Given as goal

abbrev pub invariant-loop-label : goal.invariant-loop-label
invariant-loop-label l = map entry_of l.list.items ≡ take l.label-index l.label-items
