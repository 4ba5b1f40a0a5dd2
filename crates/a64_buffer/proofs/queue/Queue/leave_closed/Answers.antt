use Rattle.std.proofs.Common.{sym, subst}
use Rattle.a64_buffer.specs.Queues.{HoldsIn, IsLimit}
use Rattle.a64_buffer.proofs.Idle.{left_holds, left_limit}
use Rattle.a64_buffer.proofs.queue.Queue.leave_closed.Goals as goal

pub returns-then-none-clause-holds : goal.returns-then-none-clause-holds
returns-then-none-clause-holds g c = subst (HoldsIn g.K.MachInstLabelUse.kinds c.args.rank c.args.uses.now) (sym c.leave_all.ensures) (left_holds g.K.MachInstLabelUse.kinds c.args.rank c.args.uses.now _ _ _ (c.requires.none c.if-none.true) c.requires.holds)

pub returns-then-none-clause-limit : goal.returns-then-none-clause-limit
returns-then-none-clause-limit g c = subst (λ q. IsLimit g.K.MachInstLabelUse.kinds c.args.rank c.args.uses.now q.limit q.first) (sym c.leave_all.ensures) (left_limit g.K.MachInstLabelUse.kinds c.args.rank c.args.uses.now 0 (c.requires.none c.if-none.true))
