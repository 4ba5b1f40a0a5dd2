use Rattle.std.proofs.Common.{◌<◌, length, sym, ◌∙◌, inl, arith}
use Rattle.a64_buffer.proofs.Queued.{wanting_rank, set_hold, set_limits}
use Rattle.a64_buffer.proofs.queues.close_queued.Goals as goal

pub returns-clause-hold : goal.returns-clause-hold
returns-clause-hold g c =
    let within : c.rank-rank.result < length c.args.queues.now = omega (arith, c.rank-rank.ensures.is, wanting_rank g.K.MachInstLabelUse.kinds c.args.class c.requires.wants) in
    set_hold g.K.MachInstLabelUse.kinds c.args.uses.now c.args.queues.now c.rank-rank.result _ within c.requires.hold c.close.ensures.holds

pub returns-clause-limits : goal.returns-clause-limits
returns-clause-limits g c =
    let within : c.rank-rank.result < length c.args.queues.now = omega (arith, c.rank-rank.ensures.is, wanting_rank g.K.MachInstLabelUse.kinds c.args.class c.requires.wants) in
    set_limits g.K.MachInstLabelUse.kinds c.args.uses.now c.args.queues.now c.rank-rank.result 5 _ within (λ k q l ne. c.requires.limits k q l (inl (λ e. ne (sym e ∙ sym c.rank-rank.ensures.is)))) c.close.ensures.limit
