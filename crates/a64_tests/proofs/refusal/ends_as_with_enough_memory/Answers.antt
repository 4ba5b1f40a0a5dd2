use Rattle.std.proofs.Common.{rules}
use Rattle.std.specs.FinMap.{gets}
use Rattle.a64_tests.proofs.refusal.ends_as_with_enough_memory.Goals as goal

pub load-requires-clause-known : goal.load-requires-clause-known
load-requires-clause-known g c = rw (c.in_ok-put.ensures, c.new-buffer.ensures, c.in_ok-add.ensures, c.new-constants.ensures) (grind (gets, rules))
