use Rattle.std.proofs.Common.{◌<◌, length, get_or, sym, ◌∙◌, ap, subst, arith}
use Rattle.std.proofs.lemmas.List.{get_or_default}
use Rattle.a64_buffer.specs.Classes.{is_open}
use Rattle.a64_buffer.specs.Queues.{entries, Holds}
use Rattle.a64_buffer.proofs.Queued.{dropped_holds}
use Rattle.a64_buffer.proofs.queue.Queue.drop_closed.Goals as goal

pub loop-index-preserved : goal.loop-index-preserved
loop-index-preserved g c =
    let within : c.in-Some.index < length c.args.uses.now = omega (arith, (c.loop-index.invariant.holds.only 0 (0, 0) c.in-Some.ensures.is.0).within, c.in-Some.ensures.is.1) in
    record {
      holds = subst (λ q. Holds g.K.MachInstLabelUse.kinds c.args.rank c.args.uses.now q.most q.next (entries c.drop_first.new.self)) (sym c.drop_first.ensures.rest)
          (dropped_holds g.K.MachInstLabelUse.kinds c.args.rank c.args.uses.now c.loop-index.self.most c.loop-index.self.next (entries c.loop-index.self) (entries c.drop_first.new.self)
          (λ d.
          ap (λ n. is_open g.K.MachInstLabelUse.kinds (get_or c.args.uses.now n d)) c.in-Some.ensures.is.1
          ∙ (ap (is_open g.K.MachInstLabelUse.kinds) (sym (c.index-uses-index.is ∙ get_or_default c.args.uses.now c.in-Some.index c.index-uses-index.result d within)) ∙ (sym c.is_open.ensures ∙ c.if-is_open.false)))
          c.drop_first.ensures.dropped c.drop_first.ensures.order c.loop-index.invariant.holds);
      next = ap (λ q. q.next) c.drop_first.ensures.rest ∙ c.loop-index.invariant.next;
      room = omega (arith, c.drop_first.ensures.room, c.loop-index.invariant.room);
    }
