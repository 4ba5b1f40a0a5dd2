use Rattle.std.proofs.Common.{◌≡◌, ◌+◌, ◌-◌, ◌≤◌, ◌++◌, length, replicate}
use Rattle.a64_buffer.proofs.copy.push_zeros.Given as goal

abbrev pub invariant-loop-i : goal.invariant-loop-i
invariant-loop-i l = record {
  items : l.words.items ≡ l.fn.words.items ++ replicate l._i 0;
  room : length l.words.items + (l.count - l._i) ≤ l.words.capacity;
  capacity : l.fn.words.capacity ≤ l.words.capacity;
}
