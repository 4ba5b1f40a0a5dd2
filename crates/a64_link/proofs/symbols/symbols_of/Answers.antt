use Rattle.std.proofs.Common.{sym, subst}
use Rattle.std.proofs.lemmas.Result.{err_from_is_err_and}
use Rattle.a64_link.proofs.Places.{unit_read}
use Rattle.a64_link.proofs.AllAdded.{UnitsAdded, no_units, unit_added, unit_repeats}
use Rattle.a64_link.proofs.symbols.symbols_of.Goals as goal

pub loop-i-init : goal.loop-i-init
loop-i-init c = subst (UnitsAdded c.args.units.now 0) (sym c.new-symbols.ensures) (no_units c.args.units.now)

pub returns-in_err-add_definitions-clause-fault : goal.returns-in_err-add_definitions-clause-fault
returns-in_err-add_definitions-clause-fault c =
    let u = unit_read c.args.units.now c.loop-i.i c.index-units-i.result c.loop-i-test.true c.index-units-i.is in
    let h = unit_repeats c.args.units.now c.loop-i.i c.index-units-i.result u c.loop-i.symbols c.loop-i.invariant c.in_err-add_definitions.field-0.0 (rw (← c.deref.ensures.value) c.in_err-add_definitions.ensures.err) in
    let p = err_from_is_err_and c.from_residual.result c.from_residual.ensures.1 in
    rw (p.1, p.2) h

pub loop-i-preserved : goal.loop-i-preserved
loop-i-preserved c =
    let u = unit_read c.args.units.now c.loop-i.i c.index-units-i.result c.loop-i-test.true c.index-units-i.is in
    unit_added c.args.units.now c.loop-i.i c.index-units-i.result u c.loop-i.symbols c.loop-i.invariant c.add_definitions.new.symbols
    (rw (← c.deref.ensures.value) c.in_ok-add_definitions.ensures.ok)
