use Rattle.std.proofs.Common.{◌≡◌, ◌≤◌, length, take, vec_capacity}
use Rattle.a64_label_map.specs.Shared.{numbered}
use Rattle.a64_label_map.proofs.shared.list_table.Given as goal

abbrev pub invariant-loop-number : goal.invariant-loop-number
invariant-loop-number g l = record {
  items : l.list.items ≡ numbered 0 (take l.number l.table);
  few : length l.list.items ≤ l.number;
  room : length l.table ≤ vec_capacity l.list;
}
