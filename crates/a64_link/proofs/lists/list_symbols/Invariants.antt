use Rattle.std.proofs.Common.{◌≡◌, ◌≤◌, map, take, length, vec_capacity}
use Rattle.a64_link.specs.Lists.{placed_by}
use Rattle.a64_link.proofs.lists.list_symbols.Given as goal

abbrev pub invariant-loop-number : goal.invariant-loop-number
invariant-loop-number l = record {
  so_far : l.list.items ≡ map (placed_by l.starts) (take l.number-index l.number-items);
  room : length l.number-items ≤ vec_capacity l.list;
}
