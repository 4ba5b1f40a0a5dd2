use Rattle.std.proofs.Common.{◌≡◌, ◌+◌, ◌*◌, ◌^◌, ◌<◌, ◌++◌, length, sym, ◌∙◌, ap, subst}
use Rattle.a64_words.specs.Word.{words_of}
use Rattle.a64_buffer.specs.Buffer.{end_of}
use Rattle.a64_buffer.specs.Classes.{Fits}
use Rattle.a64_buffer.specs.Later.{IsLater}
use Rattle.a64_buffer.specs.Sound.{seen, IsWhole}
use Rattle.a64_buffer.proofs.Sounds.{put_later, whole_put}
use Rattle.a64_words.proofs.WordLists.{words_whole}
use Rattle.a64_buffer.proofs.parts.Parts.put_data.Goals as goal

pub returns-clause-sound : goal.returns-clause-sound
returns-clause-sound g c =
    let size : 4 * length (words_of c.args.bytes.now) ≡ length c.args.bytes.now = words_whole c.args.bytes.now c.requires.whole in
    let words = c.extend_reserved.ensures.items ∙ ap (λ ws. ws ++ words_of c.args.bytes.now) c.in_ok-reserve.ensures.items in
    record {
      whole = subst (λ ws. IsWhole g.K.MachInstLabelUse.kinds (record (seen c.args.self.now) { words = ws })) (sym words)
          (whole_put g.K.MachInstLabelUse.kinds g.met.K.MachInstLabelUse.lawful (seen c.args.self.now) c.requires.sound.whole (words_of c.args.bytes.now)
          (subst (λ n. end_of (seen c.args.self.now) + n < 2 ^ 31) (sym size) c.requires.short)
          (subst (Fits g.K.MachInstLabelUse.kinds (seen c.args.self.now)) (sym size) c.requires.fits));
      chained = c.requires.sound.chained;
      waiting = c.requires.sound.waiting;
    }

pub returns-clause-later : goal.returns-clause-later
returns-clause-later g c =
    let words = c.extend_reserved.ensures.items ∙ ap (λ ws. ws ++ words_of c.args.bytes.now) c.in_ok-reserve.ensures.items in
    subst (λ ws. IsLater (seen c.args.self.now) (record (seen c.args.self.now) { words = ws })) (sym words)
    (put_later g.K.MachInstLabelUse.kinds g.met.K.MachInstLabelUse.lawful (seen c.args.self.now) c.requires.sound.whole (words_of c.args.bytes.now))
