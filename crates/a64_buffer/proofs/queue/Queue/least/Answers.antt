use Rattle.std.proofs.Common.{Some, subst, arith}
use Rattle.a64_buffer.specs.Queues.{entries, WaitsAt}
use Rattle.a64_buffer.proofs.Queued.{at_index, first_stray, first_of_two}
use Rattle.a64_buffer.proofs.queue.Queue.least.Goals as goal

pub returns-in_default-next : goal.returns-in_default-next
returns-in_default-next g c = first_stray g.K.MachInstLabelUse.kinds c.args.rank c.args.uses.now c.args.self.now.most c.args.self.now.next (entries c.args.self.now) c.in-Some.stray c.in_default-next.is c.requires.holds (c.requires.stray c.in-Some.stray c.in-Some.ensures.is) c.in-Some.ensures.is (c.in-Some.ensures.greatest c.requires.holds.order)

pub returns-then-limit : goal.returns-then-limit
returns-then-limit g c =
    let wn : WaitsAt g.K.MachInstLabelUse.kinds c.args.rank c.args.uses.now (Some c.in-Some-next.next) = subst (WaitsAt g.K.MachInstLabelUse.kinds c.args.rank c.args.uses.now) c.in-Some-next.is c.requires.next in
    let ws : WaitsAt g.K.MachInstLabelUse.kinds c.args.rank c.args.uses.now (Some c.in-Some.stray) = c.requires.stray c.in-Some.stray c.in-Some.ensures.is in
    first_of_two g.K.MachInstLabelUse.kinds c.args.rank c.args.uses.now c.args.self.now.most c.in-Some-next.next c.in-Some.stray c.in-Some-next.next c.args.self.now.next (entries c.args.self.now) c.in-Some-next.is c.requires.holds wn ws c.in-Some.ensures.is (c.in-Some.ensures.greatest c.requires.holds.order) wn
    (λ d. omega arith)
    (λ d. omega (arith, at_index g.K.MachInstLabelUse.kinds c.args.uses.now c.in-Some-next.next c.index-uses-next.result wn.0 c.index-uses-next.is d, at_index g.K.MachInstLabelUse.kinds c.args.uses.now c.in-Some.stray c.index-uses-stray.result ws.0 c.index-uses-stray.is d, c.limit.ensures.is, c.limit-2.ensures.is, c.if-limit.true))

pub returns-else-limit : goal.returns-else-limit
returns-else-limit g c =
    let wn : WaitsAt g.K.MachInstLabelUse.kinds c.args.rank c.args.uses.now (Some c.in-Some-next.next) = subst (WaitsAt g.K.MachInstLabelUse.kinds c.args.rank c.args.uses.now) c.in-Some-next.is c.requires.next in
    let ws : WaitsAt g.K.MachInstLabelUse.kinds c.args.rank c.args.uses.now (Some c.in-Some.stray) = c.requires.stray c.in-Some.stray c.in-Some.ensures.is in
    first_of_two g.K.MachInstLabelUse.kinds c.args.rank c.args.uses.now c.args.self.now.most c.in-Some-next.next c.in-Some.stray c.in-Some.stray c.args.self.now.next (entries c.args.self.now) c.in-Some-next.is c.requires.holds wn ws c.in-Some.ensures.is (c.in-Some.ensures.greatest c.requires.holds.order) ws
    (λ d. omega (arith, at_index g.K.MachInstLabelUse.kinds c.args.uses.now c.in-Some-next.next c.index-uses-next.result wn.0 c.index-uses-next.is d, at_index g.K.MachInstLabelUse.kinds c.args.uses.now c.in-Some.stray c.index-uses-stray.result ws.0 c.index-uses-stray.is d, c.limit.ensures.is, c.limit-2.ensures.is, c.if-limit.false))
    (λ d. omega arith)
