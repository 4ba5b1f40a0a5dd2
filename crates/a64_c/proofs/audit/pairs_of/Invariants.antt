use Rattle.std.proofs.Common.{◌≡◌, map, take}
use Rattle.a64_c.specs.Audited.{pair_of}
use Rattle.a64_c.proofs.audit.pairs_of.Given as goal

-- the pairs are those of the ranges up to here
abbrev pub invariant-loop-range : goal.invariant-loop-range
invariant-loop-range l = l.pairs.items ≡ map pair_of (take l.range-index l.ranges)
