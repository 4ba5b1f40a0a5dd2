use Rattle.std.proofs.Common.{◌≡◌, length, map, refl, sym, ◌∙◌, ap, subst, arith}
use Rattle.std.specs.FinMap as finmap
use Rattle.std.specs.Vec.{with_items}
use Rattle.a64_buffer.specs.Buffer.{closed_at, end_of}
use Rattle.a64_buffer.specs.Chain.{labels_of, loads_of}
use Rattle.a64_buffer.specs.Later.{IsLater}
use Rattle.a64_buffer.specs.Queues.{AreWaiting}
use Rattle.a64_buffer.specs.Sound.{seen, IsWhole}
use Rattle.a64_buffer.proofs.Uses.{closed_labels, closed_in_place}
use Rattle.a64_buffer.proofs.Loads.{closed_loads}
use Rattle.a64_buffer.proofs.Memory.{same_buffer}
use Rattle.a64_buffer.proofs.Sounds.{bind_later, whole_bind}
use Rattle.a64_buffer.proofs.Stops.{chained_same}
use Rattle.a64_buffer.proofs.parts.Parts.bind.Goals as goal

pub returns-clause-sound : goal.returns-clause-sound
returns-clause-sound g c =
    let length_is : length c.close_label.new.uses ≡ c.args.self.now.uses.len = omega (arith, c.close_label.auto.uses, c.deref_mut.ensures.len) in
    let closed : (with_items c.args.self.now.uses c.close_label.new.uses).items ≡ map (closed_at g.K.MachInstLabelUse.kinds c.args.label.0 (end_of (seen c.args.self.now))) c.args.self.now.uses.items = closed_in_place g.K.MachInstLabelUse.kinds c.args.self.now.uses c.args.label.0 c.end-place.result (end_of (seen c.args.self.now)) c.close_label.new.uses c.deref_mut.result.now length_is c.close_label.ensures.uses c.deref_mut.ensures.value c.end-place.ensures in
    record {
      whole = subst (IsWhole g.K.MachInstLabelUse.kinds)
          (sym (same_buffer _ _ _ _ _ _ _ _ _ _ _ _ _ _ refl closed (c.in_ok-insert.ensures.ok ∙ ap (finmap.insert c.args.self.now.labels c.args.label.0) c.end-place.ensures) refl refl refl refl))
          (whole_bind g.K.MachInstLabelUse.kinds g.met.K.MachInstLabelUse.lawful (seen c.args.self.now) c.requires.sound.whole c.args.label.0 c.requires.unbound);
      chained =
          chained_same c.args.self.now.uses.items _ c.args.self.now.earlier.items c.args.self.now.heads c.args.self.now.loads
          (ap labels_of closed ∙ closed_labels g.K.MachInstLabelUse.kinds c.args.label.0 (end_of (seen c.args.self.now)) c.args.self.now.uses.items)
          (ap loads_of closed ∙ closed_loads g.K.MachInstLabelUse.kinds c.args.label.0 (end_of (seen c.args.self.now)) c.args.self.now.uses.items) c.requires.sound.chained;
      waiting =
          subst (λ us. AreWaiting g.K.MachInstLabelUse.kinds us c.close_label.new.queues c.close_label.new.burdens) (sym closed)
          (subst (λ us. AreWaiting g.K.MachInstLabelUse.kinds us c.close_label.new.queues c.close_label.new.burdens) (c.close_label.ensures.uses ∙ (ap (map (closed_at g.K.MachInstLabelUse.kinds c.args.label.0 c.end-place.result)) c.deref_mut.ensures.value ∙ ap (λ place. map (closed_at g.K.MachInstLabelUse.kinds c.args.label.0 place) c.args.self.now.uses.items) c.end-place.ensures)) c.close_label.ensures.waiting);
    }

pub returns-clause-ok : goal.returns-clause-ok
returns-clause-ok g c =
    let length_is : length c.close_label.new.uses ≡ c.args.self.now.uses.len = omega (arith, c.close_label.auto.uses, c.deref_mut.ensures.len) in
    same_buffer _ _ _ _ _ _ _ _ _ _ _ _ _ _ refl
    (closed_in_place g.K.MachInstLabelUse.kinds c.args.self.now.uses c.args.label.0 c.end-place.result (end_of (seen c.args.self.now)) c.close_label.new.uses c.deref_mut.result.now length_is c.close_label.ensures.uses c.deref_mut.ensures.value c.end-place.ensures)
    (c.in_ok-insert.ensures.ok ∙ ap (finmap.insert c.args.self.now.labels c.args.label.0) c.end-place.ensures) refl refl refl refl

pub returns-clause-later : goal.returns-clause-later
returns-clause-later g c =
    let length_is : length c.close_label.new.uses ≡ c.args.self.now.uses.len = omega (arith, c.close_label.auto.uses, c.deref_mut.ensures.len) in
    let closed : (with_items c.args.self.now.uses c.close_label.new.uses).items ≡ map (closed_at g.K.MachInstLabelUse.kinds c.args.label.0 (end_of (seen c.args.self.now))) c.args.self.now.uses.items = closed_in_place g.K.MachInstLabelUse.kinds c.args.self.now.uses c.args.label.0 c.end-place.result (end_of (seen c.args.self.now)) c.close_label.new.uses c.deref_mut.result.now length_is c.close_label.ensures.uses c.deref_mut.ensures.value c.end-place.ensures in
    subst (IsLater (seen c.args.self.now)) (sym (same_buffer _ _ _ _ _ _ _ _ _ _ _ _ _ _ refl closed (c.in_ok-insert.ensures.ok ∙ ap (finmap.insert c.args.self.now.labels c.args.label.0) c.end-place.ensures) refl refl refl refl))
    (bind_later g.K.MachInstLabelUse.kinds g.met.K.MachInstLabelUse.lawful (seen c.args.self.now) c.requires.sound.whole c.args.label.0 c.requires.unbound)
