use Rattle.std.proofs.Common.{◌≡◌, ◌≤◌, length, max, vec_capacity}
use Rattle.a64_label_map.specs.Shared.{whole, AreShared}
use Rattle.a64_label_map.proofs.shared.extend.Given as goal

abbrev pub invariant-loop-number : goal.invariant-loop-number
invariant-loop-number g l = record {
  shared : AreShared l.table.items l.others;
  same : whole l.table.items l.others ≡ whole l.fn.table.items l.fn.others;
  long : length l.table.items ≡ l.number;
  most : l.number ≤ max (length l.fn.table.items) l.end;
  least : length l.fn.table.items ≤ l.number;
  room : l.end ≤ vec_capacity l.table;
}
