use Rattle.std.proofs.Common.{◌+◌, List, ℕ, subst, sym, arith}
use Rattle.a64_link.proofs.Places.{AreStartsOf, next_fits, more_starts, unit_read}
use Rattle.a64_link.proofs.layout.starts_of.Goals as goal

pub overflow_add-end : goal.overflow_add-end
overflow_add-end c =
    let u = unit_read c.args.units.now c.loop-i.i c.index-units-i.result c.loop-i-test.true c.index-units-i.is in
    omega (arith, next_fits c.args.units.now c.args.sums.now c.loop-i.i c.loop-i.end c.round_up-start.result c.index-units-i.result c.requires.sums u c.loop-i.invariant.fits c.round_up-start.ensures, c.extent_of.ensures)

pub loop-i-preserved : goal.loop-i-preserved
loop-i-preserved c =
    let u = unit_read c.args.units.now c.loop-i.i c.index-units-i.result c.loop-i-test.true c.index-units-i.is in
    subst (λ (xs : List ℕ). AreStartsOf c.args.units.now (c.loop-i.i + 1) xs (c.round_up-start.result + c.extent_of.result)) (sym c.in_ok-push.ensures.items)
    (more_starts c.args.units.now c.loop-i.i c.index-units-i.result c.loop-i.starts.items c.round_up-start.result c.loop-i.end _ u c.round_up-start.ensures (omega (arith, c.extent_of.ensures)) c.loop-i.invariant)
