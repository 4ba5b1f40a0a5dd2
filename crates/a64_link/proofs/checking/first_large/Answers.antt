use Rattle.std.proofs.Common.{sym, ◌∙◌}
use Rattle.a64_link.proofs.Places.{unit_read}
use Rattle.a64_link.proofs.FirstFaults.{large_fine, large_found}
use Rattle.a64_link.proofs.UnitFaults.{few_words}
use Rattle.a64_link.proofs.checking.first_large.Goals as goal

pub is_large-requires : goal.is_large-requires
is_large-requires c = few_words c.args.units.now c.loop-i.i c.index-units-i.result (unit_read c.args.units.now c.loop-i.i c.index-units-i.result c.loop-i-test.true c.index-units-i.is) c.requires

pub returns-then-is_large : goal.returns-then-is_large
returns-then-is_large c =
    large_found c.args.units.now c.loop-i.i c.index-units-i.result (unit_read c.args.units.now c.loop-i.i c.index-units-i.result c.loop-i-test.true c.index-units-i.is) (sym c.is_large.ensures ∙ c.if-is_large.true) c.loop-i.invariant

pub loop-i-preserved : goal.loop-i-preserved
loop-i-preserved c =
    large_fine c.args.units.now c.loop-i.i c.index-units-i.result (unit_read c.args.units.now c.loop-i.i c.index-units-i.result c.loop-i-test.true c.index-units-i.is) (sym c.is_large.ensures ∙ c.if-is_large.false) c.loop-i.invariant
