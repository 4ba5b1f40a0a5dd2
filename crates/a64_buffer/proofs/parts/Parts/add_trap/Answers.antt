use Rattle.std.proofs.Common.{[], ◌∷◌, ◌++◌, sym, ◌∙◌, ap, subst}
use Rattle.a64_buffer.specs.Later.{IsLater}
use Rattle.a64_buffer.specs.Sound.{seen, IsWhole}
use Rattle.a64_buffer.proofs.Sounds.{trap_later, whole_trap}
use Rattle.a64_buffer.proofs.parts.Parts.add_trap.Goals as goal

pub returns-clause-sound : goal.returns-clause-sound
returns-clause-sound g c =
    let traps = c.in_ok-push.ensures.items ∙ ap (λ place. c.args.self.now.traps.items ++ (place, c.args.code) ∷ []) c.end-place.ensures in
    record {
      whole = subst (λ ts. IsWhole g.K.MachInstLabelUse.kinds (record (seen c.args.self.now) { traps = ts })) (sym traps)
          (whole_trap g.K.MachInstLabelUse.kinds g.met.K.MachInstLabelUse.lawful (seen c.args.self.now) c.requires.sound.whole c.args.code);
      chained = c.requires.sound.chained;
      waiting = c.requires.sound.waiting;
    }

pub returns-clause-later : goal.returns-clause-later
returns-clause-later g c =
    let traps = c.in_ok-push.ensures.items ∙ ap (λ place. c.args.self.now.traps.items ++ (place, c.args.code) ∷ []) c.end-place.ensures in
    subst (λ ts. IsLater (seen c.args.self.now) (record (seen c.args.self.now) { traps = ts })) (sym traps)
    (trap_later g.K.MachInstLabelUse.kinds g.met.K.MachInstLabelUse.lawful (seen c.args.self.now) c.requires.sound.whole c.args.code)
