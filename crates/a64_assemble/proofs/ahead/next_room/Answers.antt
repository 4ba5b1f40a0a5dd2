use Rattle.std.proofs.Common.{sym}
use Rattle.a64_assemble.proofs.NextRooms.{found_here, size_exact, charge_exact, light_found}
use Rattle.a64_assemble.proofs.ahead.next_room.Goals as goal

pub returns-then-extent-ne0 : goal.returns-then-extent-ne0
returns-then-extent-ne0 c =
    let extent = c.burden_of.result.extent in
    sym (found_here c.args.frame.now c.args.info.now c.args.items.now c.loop-item.item-index c.loop-item.places c.item-item.result c.loop-item-test.true c.item-item.is c.requires c.loop-item.invariant.passed extent.size extent.charge
    (size_exact c.args.frame.now c.args.info.now c.args.items.now c.loop-item.item-index c.loop-item.places c.item-item.result c.loop-item-test.true c.item-item.is c.requires c.loop-item.invariant.passed extent.size extent.charge extent.range c.burden_of.ensures.extent)
    (charge_exact c.args.frame.now c.args.info.now c.args.items.now c.loop-item.item-index c.loop-item.places c.item-item.result c.loop-item-test.true c.item-item.is c.requires c.loop-item.invariant.passed extent.size extent.charge extent.range c.burden_of.ensures.extent)
    c.if-extent-ne0.true)

pub returns-then-light-ne0 : goal.returns-then-light-ne0
returns-then-light-ne0 c =
    sym (light_found c.args.frame.now c.args.info.now c.args.items.now c.loop-item.item-index c.loop-item.places c.item-item.result c.loop-item-test.true c.item-item.is c.requires c.loop-item.invariant.passed
    c.in-Some.light c.in-Some.ensures.light c.in-Some.ensures.place c.if-light-ne0.true)
