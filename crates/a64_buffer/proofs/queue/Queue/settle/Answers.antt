use Rattle.a64_buffer.proofs.Queued.{limit_of_first}
use Rattle.a64_buffer.proofs.queue.Queue.settle.Goals as goal

pub returns-clause-limit : goal.returns-clause-limit
returns-clause-limit g c = limit_of_first g.K.MachInstLabelUse.kinds c.args.rank c.args.uses.now c.least-first.result c.limit_at-self.result c.unwrap_or-self.result c.unwrap_or-self.ensures c.least-first.ensures c.limit_at-self.ensures
