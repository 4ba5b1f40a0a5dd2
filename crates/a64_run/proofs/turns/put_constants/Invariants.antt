use Rattle.std.proofs.Common.{◌≡◌}
use Rattle.a64_run.specs.Gen.{constants_below}
use Rattle.a64_run.proofs.turns.put_constants.Given as goal

abbrev pub invariant-loop-number : goal.invariant-loop-number
invariant-loop-number l = l.constants ≡ constants_below l.number
