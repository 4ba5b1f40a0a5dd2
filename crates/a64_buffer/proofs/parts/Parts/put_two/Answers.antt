use Rattle.std.proofs.Common.{sym, subst}
use Rattle.a64_buffer.specs.Later.{IsLater}
use Rattle.a64_buffer.specs.Sound.{seen, IsWhole}
use Rattle.a64_buffer.proofs.Sounds.{put_later, whole_put}
use Rattle.a64_words.proofs.WordLists.{two_more}
use Rattle.a64_buffer.proofs.parts.Parts.put_two.Goals as goal

pub returns-clause-sound : goal.returns-clause-sound
returns-clause-sound g c = record {
  whole = subst (λ ws. IsWhole g.K.MachInstLabelUse.kinds (record (seen c.args.self.now) { words = ws }))
      (sym (two_more c.args.self.now.words.items _ _ c.push_reserved-2.new.self.items _ _ c.in_ok-reserve.ensures.items c.push_reserved.ensures.items c.push_reserved-2.ensures.items))
      (whole_put g.K.MachInstLabelUse.kinds g.met.K.MachInstLabelUse.lawful (seen c.args.self.now) c.requires.sound.whole _ c.requires.short c.requires.fits);
  chained = c.requires.sound.chained;
  waiting = c.requires.sound.waiting;
}

pub returns-clause-later : goal.returns-clause-later
returns-clause-later g c =
    subst (λ ws. IsLater (seen c.args.self.now) (record (seen c.args.self.now) { words = ws }))
    (sym (two_more c.args.self.now.words.items _ _ c.push_reserved-2.new.self.items _ _ c.in_ok-reserve.ensures.items c.push_reserved.ensures.items c.push_reserved-2.ensures.items))
    (put_later g.K.MachInstLabelUse.kinds g.met.K.MachInstLabelUse.lawful (seen c.args.self.now) c.requires.sound.whole _)
