use Rattle.std.proofs.Common.{ℕ, refl}
use Rattle.a64_buffer.proofs.Recording.{calls_of, whole_record, record_later}
use Rattle.a64_buffer.proofs.parts.Parts.add_call_site.Goals as goal

pub returns-clause-sound : goal.returns-clause-sound
returns-clause-sound g c = record {
  whole = whole_record c.requires.sound.whole g.met.K.MachInstLabelUse.lawful (calls_of c.requires.sound.whole) (λ (place : ℕ). place) refl c.in_ok-push.ensures.items c.end-place.ensures;
  chained = c.requires.sound.chained;
  waiting = c.requires.sound.waiting;
}

pub returns-clause-later : goal.returns-clause-later
returns-clause-later g c = record_later c.requires.sound.whole g.met.K.MachInstLabelUse.lawful (calls_of c.requires.sound.whole) (λ (place : ℕ). place) refl c.in_ok-push.ensures.items c.end-place.ensures
