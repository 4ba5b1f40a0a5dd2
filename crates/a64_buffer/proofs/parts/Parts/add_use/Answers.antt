use Rattle.std.proofs.Common.{ℕ, ◌≡◌, ◌+◌, ◌++◌, ◌∷◌, [], length, sym, ◌∙◌, ap, subst, arith}
use Rattle.a64_buffer.specs.Buffer.{label_of, made_use}
use Rattle.a64_buffer.specs.Chain.{constant_of}
use Rattle.a64_buffer.specs.Classes.{third, burden}
use Rattle.a64_buffer.specs.Later.{IsLaterFrom}
use Rattle.a64_buffer.specs.Queues.{AreWaiting}
use Rattle.a64_buffer.specs.Sound.{seen, IsWhole}
use Rattle.a64_buffer.proofs.Islands.{owed_short}
use Rattle.a64_buffer.proofs.Loads.{made_load}
use Rattle.a64_buffer.proofs.Memory.{same_buffer}
use Rattle.a64_buffer.proofs.Sounds.{used_later, whole_use}
use Rattle.a64_buffer.proofs.Stops.{with_head, chained_more}
use Rattle.a64_buffer.proofs.parts.Parts.add_use.Goals as goal

pub await_use-requires-clause-few : goal.await_use-requires-clause-few
await_use-requires-clause-few g c = omega (arith, ap (burden g.K.MachInstLabelUse.kinds third) (ap (λ p. p.uses.items) c.link_new.ensures.rest ∙ c.reserve_one.ensures.items), owed_short g.K.MachInstLabelUse.kinds g.met.K.MachInstLabelUse.lawful (seen c.args.self.now) c.requires.sound.whole)

pub returns-clause-sound : goal.returns-clause-sound
returns-clause-sound g c =
    let linked : c.link_new.new.self.uses.items ≡ c.args.self.now.uses.items = ap (λ p. p.uses.items) c.link_new.ensures.rest ∙ c.reserve_one.ensures.items in
    let awaited : c.await_use.new.self.uses.items ≡ c.args.self.now.uses.items = ap (λ p. p.uses.items) c.await_use.ensures.rest ∙ linked in
    let pushed : c.push_reserved-2.new.self.items ≡ c.args.self.now.uses.items ++ made_use g.K.MachInstLabelUse.kinds c.args.self.now.labels c.args.offset c.args.target c.args.kind ∷ [] =
    c.push_reserved-2.ensures.items
    ∙ ap (λ us. us ++ record { offset = c.args.offset; target = c.args.target; kind = c.args.kind; stop = c.stop_of-stop.result } ∷ []) awaited
    ∙ ap (λ s. c.args.self.now.uses.items ++ record { offset = c.args.offset; target = c.args.target; kind = c.args.kind; stop = s } ∷ []) c.stop_of-stop.ensures in
    let heads = ap (λ p. p.heads) c.await_use.ensures.rest ∙ (c.in_ok-earlier.ensures.heads ∙ ap (λ (n : ℕ). with_head (label_of c.args.target) c.args.self.now.heads (n + 1)) (ap length c.reserve_one.ensures.items)) in
    let loads = ap (λ p. p.loads) c.await_use.ensures.rest ∙ (c.in_ok-earlier.ensures.loads ∙ ap (λ (n : ℕ). with_head (constant_of c.args.target) c.args.self.now.loads (n + 1)) (ap length c.reserve_one.ensures.items)) in
    let earlier = ap (λ p. p.earlier.items) c.await_use.ensures.rest ∙ (c.push_reserved.ensures.items ∙ ap (λ p. p.earlier.items ++ c.in_ok-earlier.earlier ∷ []) c.link_new.ensures.rest ∙ ap (λ es. es ++ c.in_ok-earlier.earlier ∷ []) c.reserve_one-2.ensures.items) in
    record {
      whole = subst (IsWhole g.K.MachInstLabelUse.kinds)
          (sym (same_buffer _ _ _ _ _ _ _ _ _ _ _ _ _ _
          ((ap (λ p. p.words.items) c.await_use.ensures.rest ∙ ap (λ p. p.words.items) c.link_new.ensures.rest))
          (pushed)
          ((ap (λ p. p.labels) c.await_use.ensures.rest ∙ ap (λ p. p.labels) c.link_new.ensures.rest))
          ((ap (λ p. p.islands.items) c.await_use.ensures.rest ∙ ap (λ p. p.islands.items) c.link_new.ensures.rest))
          ((ap (λ p. p.traps.items) c.await_use.ensures.rest ∙ ap (λ p. p.traps.items) c.link_new.ensures.rest))
          ((ap (λ p. p.constants.now) c.await_use.ensures.rest ∙ ap (λ p. p.constants.now) c.link_new.ensures.rest))
          ((ap (λ p. (seen p).records) c.await_use.ensures.rest ∙ ap (λ p. (seen p).records) c.link_new.ensures.rest))))
          (whole_use g.K.MachInstLabelUse.kinds g.met.K.MachInstLabelUse.lawful (seen c.args.self.now) c.requires.sound.whole c.args.offset c.args.target c.args.kind c.requires.aligned c.requires.inside c.requires.free c.requires.outside c.requires.kinded c.requires.known c.requires.fits);
      chained = chained_more c.args.self.now.uses.items c.push_reserved-2.new.self.items c.args.self.now.earlier.items c.await_use.new.self.earlier.items c.args.self.now.heads c.await_use.new.self.heads c.args.self.now.loads c.await_use.new.self.loads (made_use g.K.MachInstLabelUse.kinds c.args.self.now.labels c.args.offset c.args.target c.args.kind) c.in_ok-earlier.earlier c.requires.sound.chained pushed earlier (made_load g.K.MachInstLabelUse.kinds c.args.self.now.labels c.args.offset c.args.target c.args.kind) c.in_ok-earlier.ensures.label heads c.in_ok-earlier.ensures.constant loads;
      waiting = subst (λ us. AreWaiting g.K.MachInstLabelUse.kinds us c.await_use.new.self.queues c.await_use.new.self.burdens) (sym (c.push_reserved-2.ensures.items ∙ ap (λ p. p.uses.items ++ record { offset = c.args.offset; target = c.args.target; kind = c.args.kind; stop = c.stop_of-stop.result } ∷ []) c.await_use.ensures.rest))
          c.await_use.ensures.waiting;
    }

pub returns-clause-later : goal.returns-clause-later
returns-clause-later g c =
    let linked : c.link_new.new.self.uses.items ≡ c.args.self.now.uses.items = ap (λ p. p.uses.items) c.link_new.ensures.rest ∙ c.reserve_one.ensures.items in
    let awaited : c.await_use.new.self.uses.items ≡ c.args.self.now.uses.items = ap (λ p. p.uses.items) c.await_use.ensures.rest ∙ linked in
    let pushed : c.push_reserved-2.new.self.items ≡ c.args.self.now.uses.items ++ made_use g.K.MachInstLabelUse.kinds c.args.self.now.labels c.args.offset c.args.target c.args.kind ∷ [] =
    c.push_reserved-2.ensures.items
    ∙ ap (λ us. us ++ record { offset = c.args.offset; target = c.args.target; kind = c.args.kind; stop = c.stop_of-stop.result } ∷ []) awaited
    ∙ ap (λ s. c.args.self.now.uses.items ++ record { offset = c.args.offset; target = c.args.target; kind = c.args.kind; stop = s } ∷ []) c.stop_of-stop.ensures in
    subst (IsLaterFrom c.args.offset (seen c.args.self.now))
    (sym (same_buffer _ _ _ _ _ _ _ _ _ _ _ _ _ _
    ((ap (λ p. p.words.items) c.await_use.ensures.rest ∙ ap (λ p. p.words.items) c.link_new.ensures.rest))
    (pushed)
    ((ap (λ p. p.labels) c.await_use.ensures.rest ∙ ap (λ p. p.labels) c.link_new.ensures.rest))
    ((ap (λ p. p.islands.items) c.await_use.ensures.rest ∙ ap (λ p. p.islands.items) c.link_new.ensures.rest))
    ((ap (λ p. p.traps.items) c.await_use.ensures.rest ∙ ap (λ p. p.traps.items) c.link_new.ensures.rest))
    ((ap (λ p. p.constants.now) c.await_use.ensures.rest ∙ ap (λ p. p.constants.now) c.link_new.ensures.rest))
    ((ap (λ p. (seen p).records) c.await_use.ensures.rest ∙ ap (λ p. (seen p).records) c.link_new.ensures.rest))))
    (used_later g.K.MachInstLabelUse.kinds g.met.K.MachInstLabelUse.lawful (seen c.args.self.now) c.requires.sound.whole c.args.offset c.args.target c.args.kind)
