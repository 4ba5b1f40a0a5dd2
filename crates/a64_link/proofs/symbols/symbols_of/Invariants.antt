use Rattle.a64_link.proofs.AllAdded.{UnitsAdded}
use Rattle.a64_link.proofs.symbols.symbols_of.Given as goal

abbrev pub invariant-loop-i : goal.invariant-loop-i
invariant-loop-i l = UnitsAdded l.units l.i l.symbols
