use Rattle.a64_link.proofs.Places.{unit_read}
use Rattle.a64_link.proofs.Units.{none_linked, one_linked}
use Rattle.a64_link.proofs.linking.link_words.Goals as goal

pub loop-i-init : goal.loop-i-init
loop-i-init c = none_linked c.args.plan.now.units.now c.args.plan.now.base c.args.plan.now.sums.now c.args.plan.now.symbols.now c.args.plan.now.starts.now c.requires c.in_ok-words.words.items c.in_ok-words.ensures.items

pub loop-i-preserved : goal.loop-i-preserved
loop-i-preserved c =
    let u = unit_read c.args.plan.now.units.now c.loop-i.i c.unit-item.result c.loop-i-test.true c.unit-item.is in
    one_linked c.args.plan.now.units.now c.args.plan.now.base c.args.plan.now.sums.now c.args.plan.now.symbols.now c.args.plan.now.starts.now c.requires c.loop-i.i c.unit-item.result c.loop-i.words.items c.put_unit.new.words.items u c.loop-i.invariant c.in_ok-put_unit.ensures
