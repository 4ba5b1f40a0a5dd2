use Rattle.std.proofs.Common.{sym, ap, subst, refl}
use Rattle.a64_buffer.specs.Chain.{labels_of, loads_of}
use Rattle.a64_buffer.specs.Sound.{IsWhole}
use Rattle.a64_buffer.proofs.Memory.{same_buffer, same_recorded}
use Rattle.a64_buffer.proofs.Sounds.{whole_empty}
use Rattle.a64_buffer.proofs.Chains.{chained_empty}
use Rattle.a64_buffer.proofs.Queued.{none_waits}
use Rattle.a64_buffer.proofs.parts.Parts.new.Goals as goal

pub returns-clause-sound : goal.returns-clause-sound
returns-clause-sound g c = record {
  whole = subst (IsWhole g.K.MachInstLabelUse.kinds) (sym (same_buffer _ _ _ _ _ _ _ _ _ _ _ _ _ _ c.new.ensures.items c.new-2.ensures.items c.new-3.ensures c.new-7.ensures.items c.new-8.ensures.items refl (same_recorded _ _ _ _ _ _ _ _ c.new-9.ensures.relocs c.new-9.ensures.calls c.new-9.ensures.patchable c.new-9.ensures.maps))) (whole_empty g.K.MachInstLabelUse.kinds c.args.constants.now);
  chained = record {
    labels = chained_empty _ _ _ (ap labels_of c.new-2.ensures.items) c.new-4.ensures.items c.new-5.ensures;
    constants = chained_empty _ _ _ (ap loads_of c.new-2.ensures.items) c.new-4.ensures.items c.new-6.ensures;
  };
  waiting = none_waits g.K.MachInstLabelUse.kinds _ _ _ c.new-2.ensures.items c.no_queues.ensures.none c.no_queues.ensures.order c.no_queues.ensures.next c.no_queues.ensures.limit refl;
}
