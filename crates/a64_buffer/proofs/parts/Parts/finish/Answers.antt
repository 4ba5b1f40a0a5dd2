use Rattle.std.proofs.Common.{rules, ℕ, ◌≡◌, get_or, ap, ◌∙◌, arith, sym, subst, Result, Ok, Err}
use Rattle.std.specs.Prelude.{IfOk}
use Rattle.a64_buffer.specs.Classes.{veneer_uses, weight_of}
use Rattle.a64_buffer.specs.declared.queue.Queue.{Queue}
use Rattle.a64_buffer.specs.Queues.{IsSameQueue, AllHold, AllLimits, AreBurdens}
use Rattle.a64_buffer.specs.Space.{HasSpace}
use Rattle.a64_buffer.proofs.Queued.{same_hold, same_limits}
use Rattle.a64_buffer.specs.Settled.{IsCode}
use Rattle.a64_buffer.specs.Sound.{seen}
use Rattle.a64_buffer.specs.Steps.{MayWrite, Writes}
use Rattle.a64_buffer.proofs.Final.{may_finish, all_lead, code_finished}
use Rattle.a64_buffer.proofs.parts.Parts.finish.Goals as goal

if_ok : {T E : Type 0} {P Q : T → Type 0} (r : Result T E) → ((x : T) → P x → Q x) → IfOk r P → IfOk r Q
if_ok (Ok x) f h = f x h
if_ok (Err e) f h = tt

pub reserve_veneers-requires : goal.reserve_veneers-requires
reserve_veneers-requires g c = record {
  burdens = subst (λ us. AreBurdens g.K.MachInstLabelUse.kinds us c.reserve_all.new.self.burdens) (sym (ap (λ b. b.uses) c.in_ok-reserve_all.ensures.rest)) (subst (AreBurdens g.K.MachInstLabelUse.kinds c.args.self.uses.items) (sym c.in_ok-reserve_all.ensures.burdens) c.requires.sound.waiting.burdens);
}

pub write_until-requires-clause-kept : goal.write_until-requires-clause-kept
write_until-requires-clause-kept g c =
    let uses = ap (λ p. p.uses.items) c.reserve_veneers.ensures.rest ∙ ap (λ b. b.uses) c.in_ok-reserve_all.ensures.rest in
    let queues : (rank : ℕ) (q : Queue) → IsSameQueue (get_or c.args.self.queues rank q) (get_or c.reserve_veneers.new.self.queues rank q) = λ rank q. subst (λ qs. IsSameQueue (get_or qs rank q) (get_or c.reserve_veneers.new.self.queues rank q)) c.in_ok-reserve_all.ensures.queues (c.reserve_veneers.ensures.kept rank q) in
    let weight : weight_of g.K.MachInstLabelUse.kinds veneer_uses c.reserve_veneers.new.self.uses.items ≡ weight_of g.K.MachInstLabelUse.kinds veneer_uses c.reserve_all.new.self.uses.items = ap (λ p. weight_of g.K.MachInstLabelUse.kinds veneer_uses p.uses.items) c.reserve_veneers.ensures.rest in
    record {
      tracked = record {
        chained = search rules;
        burdens = subst (λ p. AreBurdens g.K.MachInstLabelUse.kinds p.uses.items p.burdens) (sym c.reserve_veneers.ensures.rest)
            (subst (λ us. AreBurdens g.K.MachInstLabelUse.kinds us c.reserve_all.new.self.burdens) (sym (ap (λ b. b.uses) c.in_ok-reserve_all.ensures.rest)) (subst (AreBurdens g.K.MachInstLabelUse.kinds c.args.self.uses.items) (sym c.in_ok-reserve_all.ensures.burdens) c.requires.sound.waiting.burdens));
      };
      hold = subst (λ us. AllHold g.K.MachInstLabelUse.kinds us c.reserve_veneers.new.self.queues) (sym uses)
          (same_hold g.K.MachInstLabelUse.kinds c.args.self.uses.items c.args.self.queues c.reserve_veneers.new.self.queues queues c.requires.sound.waiting.hold);
      limits = subst (λ us. AllLimits g.K.MachInstLabelUse.kinds us c.reserve_veneers.new.self.queues) (sym uses)
          (same_limits g.K.MachInstLabelUse.kinds c.args.self.uses.items c.args.self.queues c.reserve_veneers.new.self.queues queues c.requires.sound.waiting.limits);
      queued = λ q. omega (arith, c.in_ok-reserve_veneers.ensures.ok q, weight);
    }

pub write_until-requires-clause-space : goal.write_until-requires-clause-space
write_until-requires-clause-space g c =
    let space = c.in_ok-reserve_all.ensures.ok in
    subst (HasSpace g.K.MachInstLabelUse.kinds) (sym c.reserve_veneers.ensures.rest) (record { words = omega (arith, space.words); uses = omega (arith, space.uses); earlier = omega (arith, space.earlier); traps = omega (arith, space.traps) })

pub write_until-requires-clause-may : goal.write_until-requires-clause-may
write_until-requires-clause-may g c = subst (MayWrite g.K.MachInstLabelUse.kinds) (sym (ap (λ p. seen p) c.reserve_veneers.ensures.rest ∙ c.in_ok-reserve_all.ensures.rest)) (may_finish g.K.MachInstLabelUse.kinds (seen c.args.self) c.requires.sound.whole c.requires.short)

pub finish_words-requires-clause-able : goal.finish_words-requires-clause-able
finish_words-requires-clause-able g c =
    let writes = subst (λ b. Writes g.K.MachInstLabelUse.kinds 5 b (seen c.write_until.new.self)) (ap (λ p. seen p) c.reserve_veneers.ensures.rest ∙ c.in_ok-reserve_all.ensures.rest) c.write_until.ensures.writes in
    all_lead g.K.MachInstLabelUse.kinds g.met.K.MachInstLabelUse.lawful (seen c.args.self) (seen c.write_until.new.self) c.requires.sound.whole writes c.requires.bound c.requires.direct

pub returns : goal.returns
returns g c =
    let writes = subst (λ b. Writes g.K.MachInstLabelUse.kinds 5 b (seen c.write_until.new.self)) (ap (λ p. seen p) c.reserve_veneers.ensures.rest ∙ c.in_ok-reserve_all.ensures.rest) c.write_until.ensures.writes in
    if_ok c.finish_words.result
    (λ code is. code_finished g.K.MachInstLabelUse.kinds g.met.K.MachInstLabelUse.lawful (seen c.args.self) (seen c.write_until.new.self) c.requires.sound.whole writes c.requires.bound c.requires.direct code
    (subst (λ pool. IsCode g.K.MachInstLabelUse.kinds (seen c.write_until.new.self) pool code) c.end-pool.ensures is))
    c.finish_words.ensures
