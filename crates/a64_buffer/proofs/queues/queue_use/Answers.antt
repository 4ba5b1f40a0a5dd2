use Rattle.std.proofs.Common.{◌≡◌, ◌<◌, true, length, get_or, sym, ◌∙◌, ap, arith}
use Rattle.a64_buffer.specs.Classes.{class, is_open, rank_of}
use Rattle.a64_buffer.proofs.Queued.{open_rank, added_holds, push_hold, push_limits, pushed_limit, skip_hold, skip_limits}
use Rattle.a64_buffer.proofs.queues.queue_use.Goals as goal

pub returns-then-wants-clause-hold : goal.returns-then-wants-clause-hold
returns-then-wants-clause-hold g c =
    let wanted = sym c.wants.ensures ∙ c.if-wants.true in
    let is_rank : c.rank.result ≡ rank_of (class g.K.MachInstLabelUse.kinds c.args.site.now) = c.rank.ensures.is ∙ ap rank_of (sym (c.requires.class.is wanted)) in
    let within : c.rank.result < length c.args.queues.now = omega (arith, is_rank, open_rank g.K.MachInstLabelUse.kinds c.args.site.now (c.requires.class.open' ∙ wanted)) in
    λ uses at hold.
    push_hold g.K.MachInstLabelUse.kinds uses c.args.queues.now c.args.site.now c.rank.result c.index-queues-rank.result _ within is_rank
    (added_holds g.K.MachInstLabelUse.kinds c.rank.result uses c.args.site.now c.args.index c.args.limit (get_or c.args.queues.now c.rank.result c.index-queues-rank.result) c.add.new.self c.requires.limit (sym at) (omega arith) (sym is_rank) c.add.ensures.rising c.add.ensures.stray)
    hold

pub returns-then-wants-clause-limits : goal.returns-then-wants-clause-limits
returns-then-wants-clause-limits g c =
    let wanted = sym c.wants.ensures ∙ c.if-wants.true in
    let is_rank : c.rank.result ≡ rank_of (class g.K.MachInstLabelUse.kinds c.args.site.now) = c.rank.ensures.is ∙ ap rank_of (sym (c.requires.class.is wanted)) in
    let open' : is_open g.K.MachInstLabelUse.kinds c.args.site.now ≡ true = c.requires.class.open' ∙ wanted in
    let within : c.rank.result < length c.args.queues.now = omega (arith, is_rank, open_rank g.K.MachInstLabelUse.kinds c.args.site.now open') in
    λ uses at limits.
    push_limits g.K.MachInstLabelUse.kinds uses c.args.queues.now c.args.site.now c.rank.result c.index-queues-rank.result _ within is_rank
    (pushed_limit g.K.MachInstLabelUse.kinds c.rank.result uses c.args.site.now c.args.index c.args.limit (get_or c.args.queues.now c.rank.result c.index-queues-rank.result) c.add.new.self c.requires.limit (sym at) open' (sym is_rank) c.add.ensures.first c.add.ensures.kept) limits

pub returns-else-wants-clause-hold : goal.returns-else-wants-clause-hold
returns-else-wants-clause-hold g c = λ uses at hold. skip_hold g.K.MachInstLabelUse.kinds uses c.args.queues.now c.args.site.now (c.requires.class.open' ∙ (sym c.wants.ensures ∙ c.if-wants.false)) hold

pub returns-else-wants-clause-limits : goal.returns-else-wants-clause-limits
returns-else-wants-clause-limits g c = λ uses at limits. skip_limits g.K.MachInstLabelUse.kinds uses c.args.queues.now c.args.site.now (c.requires.class.open' ∙ (sym c.wants.ensures ∙ c.if-wants.false)) limits
