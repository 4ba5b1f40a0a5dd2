use Rattle.std.proofs.lemmas.Result.{err_from_is_err_and}
use Rattle.a64_link.proofs.Places.{unit_read}
use Rattle.a64_link.proofs.UnitFaults.{few_words, unit_fine, unit_bad}
use Rattle.a64_link.proofs.refusals.check_units.Goals as goal

pub check_unit-requires : goal.check_unit-requires
check_unit-requires c = few_words c.args.units.now c.loop-i.i c.index-units-i.result (unit_read c.args.units.now c.loop-i.i c.index-units-i.result c.loop-i-test.true c.index-units-i.is) c.requires

pub returns-in_err-check_unit : goal.returns-in_err-check_unit
returns-in_err-check_unit c =
    let h = unit_bad c.args.units.now c.loop-i.i c.index-units-i.result (unit_read c.args.units.now c.loop-i.i c.index-units-i.result c.loop-i-test.true c.index-units-i.is) c.loop-i.invariant c.in_err-check_unit.field-0.0 c.in_err-check_unit.ensures in
    let p = err_from_is_err_and c.from_residual.result c.from_residual.ensures.1 in
    rw (p.1, p.2) h

pub loop-i-preserved : goal.loop-i-preserved
loop-i-preserved c =
    unit_fine c.args.units.now c.loop-i.i c.index-units-i.result (unit_read c.args.units.now c.loop-i.i c.index-units-i.result c.loop-i-test.true c.index-units-i.is) c.loop-i.invariant c.in_ok-check_unit.ensures
