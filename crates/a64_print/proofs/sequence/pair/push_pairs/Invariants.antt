use Rattle.std.proofs.Common.{◌≡◌, ◌++◌, drop}
use Rattle.std.specs.String.{string_bytes}
use Rattle.std.specs.List.{flat_map}
use Rattle.a64_print.proofs.sequence.pair.push_pairs.Given as goal

-- the pairs that are left make the text whole
abbrev pub invariant-loop-pair : goal.invariant-loop-pair
invariant-loop-pair g l =
    string_bytes l.out ++ flat_map g.P.RegisterPair.text (drop l.pair-index l.pairs) ≡ string_bytes l.fn.out ++ (l.name ++ flat_map g.P.RegisterPair.text l.pairs)
