use Rattle.std.proofs.Common.{length, take, sym, subst}
use Rattle.a64_buffer.specs.Classes.{rank_of}
use Rattle.a64_buffer.specs.Queues.{NoneWaits}
use Rattle.a64_buffer.proofs.Idle.{none_waits, none_before}
use Rattle.a64_buffer.proofs.parts.Parts.settle_class.Goals as goal

pub settle_queue-requires-clause-none : goal.settle_queue-requires-clause-none
settle_queue-requires-clause-none g c = λ none.
    subst (λ us. NoneWaits g.K.MachInstLabelUse.kinds (rank_of c.args.class) (take c.args.from us) 0 (length (take c.args.from us))) (sym c.deref.ensures.value)
    (none_before g.K.MachInstLabelUse.kinds (rank_of c.args.class) c.args.self.now.uses.items c.args.from c.requires.from (none_waits g.K.MachInstLabelUse.kinds c.args.class c.args.self.now.uses.items c.args.self.now.burdens c.requires.wants c.requires.burdens (c.has_none-none.ensures none)))
