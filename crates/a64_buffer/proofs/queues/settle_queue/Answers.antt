use Rattle.std.proofs.Common.{◌<◌, length, sym, ◌∙◌, arith}
use Rattle.a64_buffer.proofs.Queued.{wanting_rank, set_hold, set_limits, set_room}
use Rattle.a64_buffer.proofs.queues.settle_queue.Goals as goal

pub returns-clause-hold : goal.returns-clause-hold
returns-clause-hold g c =
    let within : c.rank-rank.result < length c.args.queues.now = omega (arith, c.rank-rank.ensures.is, wanting_rank g.K.MachInstLabelUse.kinds c.args.class c.requires.wants) in
    set_hold g.K.MachInstLabelUse.kinds c.args.uses.now c.args.queues.now c.rank-rank.result _ within c.requires.hold c.leave_closed.ensures.holds

pub returns-clause-limits : goal.returns-clause-limits
returns-clause-limits g c =
    let within : c.rank-rank.result < length c.args.queues.now = omega (arith, c.rank-rank.ensures.is, wanting_rank g.K.MachInstLabelUse.kinds c.args.class c.requires.wants) in
    set_limits g.K.MachInstLabelUse.kinds c.args.uses.now c.args.queues.now c.rank-rank.result 5 _ within (λ k q l ne. c.requires.limits k q l (λ e. ne (sym e ∙ sym c.rank-rank.ensures.is))) c.leave_closed.ensures.limit

pub returns-clause-room : goal.returns-clause-room
returns-clause-room g c =
    let within : c.rank-rank.result < length c.args.queues.now = omega (arith, c.rank-rank.ensures.is, wanting_rank g.K.MachInstLabelUse.kinds c.args.class c.requires.wants) in
    set_room c.args.queues.now c.args.queues.now c.rank-rank.result _ _ 0 within (λ k q l. omega arith) c.leave_closed.ensures.room
