use Rattle.std.proofs.Common.{ℕ, [], ◌∷◌, ◌++◌, refl, ◌∙◌, ap, to_z-of_z}
use Rattle.a64_buffer.proofs.Recording.{relocs_of, whole_record, record_later}
use Rattle.a64_buffer.proofs.parts.Parts.add_reloc.Goals as goal

pub returns-clause-sound : goal.returns-clause-sound
returns-clause-sound g c = record {
  whole = whole_record c.requires.sound.whole g.met.K.MachInstLabelUse.lawful (relocs_of c.requires.sound.whole) (λ (place : ℕ). (place, c.args.kind, c.args.name, c.args.addend)) refl (c.in_ok-push.ensures.items ∙ ap (λ addend. c.args.self.now.records.relocs.items ++ (c.end-place.result, c.args.kind, c.args.name, addend) ∷ []) (to_z-of_z c.ranges.addend)) c.end-place.ensures;
  chained = c.requires.sound.chained;
  waiting = c.requires.sound.waiting;
}

pub returns-clause-later : goal.returns-clause-later
returns-clause-later g c = record_later c.requires.sound.whole g.met.K.MachInstLabelUse.lawful (relocs_of c.requires.sound.whole) (λ (place : ℕ). (place, c.args.kind, c.args.name, c.args.addend)) refl (c.in_ok-push.ensures.items ∙ ap (λ addend. c.args.self.now.records.relocs.items ++ (c.end-place.result, c.args.kind, c.args.name, addend) ∷ []) (to_z-of_z c.ranges.addend)) c.end-place.ensures
