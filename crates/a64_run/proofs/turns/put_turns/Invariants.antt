use Rattle.std.proofs.Common.{◌≡◌, ◌++◌}
use Rattle.std.specs.List.{flat_map, range_with_len}
use Rattle.a64_run.specs.Gen.{gen_turn}
use Rattle.a64_run.proofs.turns.put_turns.Given as goal

abbrev pub invariant-loop-number : goal.invariant-loop-number
invariant-loop-number l = l.items.items ≡ l.initial.items.items ++ flat_map (gen_turn l.count) (range_with_len 0 l.number)
