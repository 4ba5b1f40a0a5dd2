use Rattle.std.proofs.Common.{◌≡◌, drop}
use Rattle.a64_link.specs.Faults.{units_fault}
use Rattle.a64_link.proofs.refusals.check_units.Given as goal

abbrev pub invariant-loop-i : goal.invariant-loop-i
invariant-loop-i l = units_fault l.i (drop l.i l.units) ≡ units_fault 0 l.units
