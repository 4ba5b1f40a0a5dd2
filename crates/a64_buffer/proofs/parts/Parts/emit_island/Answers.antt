use Rattle.std.proofs.Common.{rules, ℕ, ◌≡◌, length, get_or, sym, ◌∙◌, ap, subst, arith}
use Rattle.a64_buffer.specs.Buffer.{end_of}
use Rattle.a64_buffer.specs.Classes.{veneer_uses, weight_of}
use Rattle.a64_buffer.specs.declared.queue.Queue.{Queue}
use Rattle.a64_buffer.specs.Queues.{IsSameQueue, AllHold, AllLimits, AreBurdens}
use Rattle.a64_buffer.specs.Islands.{HasIsland}
use Rattle.a64_buffer.specs.Sound.{seen, IsWhole}
use Rattle.a64_buffer.specs.Pieces.{begun}
use Rattle.a64_buffer.specs.Steps.{MayWrite, Writes, is_jump_at, StandsAt, ended}
use Rattle.a64_buffer.proofs.Writing.{may_write_on}
use Rattle.a64_buffer.proofs.Islands.{may_begin}
use Rattle.a64_buffer.proofs.Emitting.{sound_m, stands_m, ended_waits, island_made}
use Rattle.a64_buffer.proofs.Queued.{stopped_closes, all_closed_hold, all_kept_limits, same_hold, same_limits}
use Rattle.a64_buffer.proofs.parts.Parts.emit_island.Goals as goal

pub write_until-requires-clause-may : goal.write_until-requires-clause-may
write_until-requires-clause-may g c =
    let begun_is = c.begin_island.ensures.begun ∙ ap (begun g.K.MachInstLabelUse.kinds c.args.jump) (ap (λ p. seen p) c.reserve_veneers.ensures.rest ∙ c.in_ok-reserve_all.ensures.rest) in
    subst (MayWrite g.K.MachInstLabelUse.kinds) (sym begun_is) (may_begin g.K.MachInstLabelUse.kinds g.met.K.MachInstLabelUse.lawful c.args.jump (seen c.args.self.now) c.requires.sound.whole c.requires.short)

pub promote-requires-clause-may : goal.promote-requires-clause-may
promote-requires-clause-may g c =
    let begun_is = c.begin_island.ensures.begun ∙ ap (begun g.K.MachInstLabelUse.kinds c.args.jump) (ap (λ p. seen p) c.reserve_veneers.ensures.rest ∙ c.in_ok-reserve_all.ensures.rest) in
    may_write_on g.K.MachInstLabelUse.kinds 4 (seen c.begin_island.new.self) (seen c.write_until.new.self)
    (subst (MayWrite g.K.MachInstLabelUse.kinds) (sym begun_is) (may_begin g.K.MachInstLabelUse.kinds g.met.K.MachInstLabelUse.lawful c.args.jump (seen c.args.self.now) c.requires.sound.whole c.requires.short))
    c.write_until.ensures.writes.writing

pub reserve_veneers-requires : goal.reserve_veneers-requires
reserve_veneers-requires g c = record {
  burdens = subst (λ us. AreBurdens g.K.MachInstLabelUse.kinds us c.reserve_all.new.self.burdens) (sym (ap (λ b. b.uses) c.in_ok-reserve_all.ensures.rest)) (subst (AreBurdens g.K.MachInstLabelUse.kinds c.args.self.now.uses.items) (sym c.in_ok-reserve_all.ensures.burdens) c.requires.sound.waiting.burdens);
}

pub begin_island-requires-clause-kept : goal.begin_island-requires-clause-kept
begin_island-requires-clause-kept g c =
    let same : seen c.reserve_veneers.new.self ≡ seen c.args.self.now = ap (λ p. seen p) c.reserve_veneers.ensures.rest ∙ c.in_ok-reserve_all.ensures.rest in
    let queues : (rank : ℕ) (q : Queue) → IsSameQueue (get_or c.args.self.now.queues rank q) (get_or c.reserve_veneers.new.self.queues rank q) = λ rank q. subst (λ qs. IsSameQueue (get_or qs rank q) (get_or c.reserve_veneers.new.self.queues rank q)) c.in_ok-reserve_all.ensures.queues (c.reserve_veneers.ensures.kept rank q) in
    let weight : weight_of g.K.MachInstLabelUse.kinds veneer_uses c.reserve_veneers.new.self.uses.items ≡ weight_of g.K.MachInstLabelUse.kinds veneer_uses c.reserve_all.new.self.uses.items = ap (λ p. weight_of g.K.MachInstLabelUse.kinds veneer_uses p.uses.items) c.reserve_veneers.ensures.rest in
    record {
      tracked = record {
        chained = search rules;
        burdens = subst (λ p. AreBurdens g.K.MachInstLabelUse.kinds p.uses.items p.burdens) (sym c.reserve_veneers.ensures.rest)
            (subst (λ us. AreBurdens g.K.MachInstLabelUse.kinds us c.reserve_all.new.self.burdens) (sym (ap (λ b. b.uses) c.in_ok-reserve_all.ensures.rest)) (subst (AreBurdens g.K.MachInstLabelUse.kinds c.args.self.now.uses.items) (sym c.in_ok-reserve_all.ensures.burdens) c.requires.sound.waiting.burdens));
      };
      hold = subst (λ us. AllHold g.K.MachInstLabelUse.kinds us c.reserve_veneers.new.self.queues) (sym (ap (λ b. b.uses) same))
          (same_hold g.K.MachInstLabelUse.kinds c.args.self.now.uses.items c.args.self.now.queues c.reserve_veneers.new.self.queues queues c.requires.sound.waiting.hold);
      limits = subst (λ us. AllLimits g.K.MachInstLabelUse.kinds us c.reserve_veneers.new.self.queues) (sym (ap (λ b. b.uses) same))
          (same_limits g.K.MachInstLabelUse.kinds c.args.self.now.uses.items c.args.self.now.queues c.reserve_veneers.new.self.queues queues c.requires.sound.waiting.limits);
      queued = λ q. omega (arith, c.in_ok-reserve_veneers.ensures.ok q, weight);
    }

pub begin_island-requires-clause-few : goal.begin_island-requires-clause-few
begin_island-requires-clause-few g c = omega (arith, ap (λ p. p.burdens.third) c.reserve_veneers.ensures.rest, ap (λ b. b.third) c.in_ok-reserve_all.ensures.burdens, c.requires.sound.waiting.burdens.third_is, c.requires.short)

pub end_island-requires-clause-over : goal.end_island-requires-clause-over
end_island-requires-clause-over g c = λ j.
    let r = g.K.MachInstLabelUse.kinds in
    let law = g.met.K.MachInstLabelUse.lawful in
    let same : seen c.reserve_veneers.new.self ≡ seen c.args.self.now = ap (λ p. seen p) c.reserve_veneers.ensures.rest ∙ c.in_ok-reserve_all.ensures.rest in
    let begun_is = c.begin_island.ensures.begun ∙ ap (begun r c.args.jump) same in
    let near = subst (λ b. Writes r 4 b (seen c.write_until.new.self)) begun_is c.write_until.ensures.writes in
    let index : length c.args.self.now.uses.items ≡ c.len-index.result = omega (arith, c.len-index.ensures, ap (λ b. length b.uses) same) in
    let start : end_of (seen c.args.self.now) ≡ c.end-start.result = sym (c.end-start.ensures ∙ ap end_of same) in
    subst (λ start. StandsAt c.len-index.result start c.promote.new.self.uses.items) start
    (subst (λ index. StandsAt index (end_of (seen c.args.self.now)) c.promote.new.self.uses.items) index
    (stands_m r law c.args.distance c.args.force c.args.jump (seen c.args.self.now) (seen c.write_until.new.self) (seen c.promote.new.self) c.requires.sound.whole c.requires.short near c.promote.ensures.promotes j))

pub returns-clause-sound : goal.returns-clause-sound
returns-clause-sound g c =
    let r = g.K.MachInstLabelUse.kinds in
    let law = g.met.K.MachInstLabelUse.lawful in
    let same : seen c.reserve_veneers.new.self ≡ seen c.args.self.now = ap (λ p. seen p) c.reserve_veneers.ensures.rest ∙ c.in_ok-reserve_all.ensures.rest in
    let begun_is = c.begin_island.ensures.begun ∙ ap (begun r c.args.jump) same in
    let near = subst (λ b. Writes r 4 b (seen c.write_until.new.self)) begun_is c.write_until.ensures.writes in
    let apart = (sound_m r law c.args.distance c.args.force c.args.jump (seen c.args.self.now) (seen c.write_until.new.self) (seen c.promote.new.self) c.requires.sound.whole c.requires.short near c.promote.ensures.promotes).apart in
    let ended_is : seen c.end_island.new.self ≡ ended c.args.jump (end_of (seen c.args.self.now)) (seen c.promote.new.self) = c.end_island.ensures.ended apart ∙ ap (λ start. ended c.args.jump start (seen c.promote.new.self)) (c.end-start.ensures ∙ ap end_of same) in
    let closes = stopped_closes r (is_jump_at c.args.jump (end_of (seen c.args.self.now))) (end_of (seen c.promote.new.self)) c.promote.new.self.uses.items in
    let stays = ended_waits r law c.args.distance c.args.force c.args.jump (seen c.args.self.now) (seen c.write_until.new.self) (seen c.promote.new.self) c.requires.sound.whole c.requires.short near c.promote.ensures.promotes in
    record {
      whole = subst (IsWhole r) (sym ended_is) (island_made r law c.args.distance c.args.force c.args.jump (seen c.args.self.now) (seen c.write_until.new.self) (seen c.promote.new.self) c.requires.sound.whole c.requires.short near c.promote.ensures.promotes).whole;
      chained = c.end_island.ensures.tracked.chained;
      waiting = record {
        hold = subst (AllHold r c.end_island.new.self.uses.items) (sym c.end_island.ensures.queues)
            (subst (λ us. AllHold r us c.promote.new.self.queues) (sym (ap (λ b. b.uses) ended_is)) (all_closed_hold r c.promote.new.self.uses.items _ c.promote.new.self.queues closes c.promote.ensures.keeps.kept.hold));
        limits = subst (AllLimits r c.end_island.new.self.uses.items) (sym c.end_island.ensures.queues)
            (subst (λ us. AllLimits r us c.promote.new.self.queues) (sym (ap (λ b. b.uses) ended_is)) (all_kept_limits r c.promote.new.self.uses.items _ c.promote.new.self.queues closes stays c.promote.ensures.keeps.kept.limits));
        burdens = c.end_island.ensures.tracked.burdens;
      };
    }

pub returns-clause-ok : goal.returns-clause-ok
returns-clause-ok g c =
    let same : seen c.reserve_veneers.new.self ≡ seen c.args.self.now = ap (λ p. seen p) c.reserve_veneers.ensures.rest ∙ c.in_ok-reserve_all.ensures.rest in
    let begun_is = c.begin_island.ensures.begun ∙ ap (begun g.K.MachInstLabelUse.kinds c.args.jump) same in
    let near = subst (λ b. Writes g.K.MachInstLabelUse.kinds 4 b (seen c.write_until.new.self)) begun_is c.write_until.ensures.writes in
    let apart = (sound_m g.K.MachInstLabelUse.kinds g.met.K.MachInstLabelUse.lawful c.args.distance c.args.force c.args.jump (seen c.args.self.now) (seen c.write_until.new.self) (seen c.promote.new.self) c.requires.sound.whole c.requires.short near c.promote.ensures.promotes).apart in
    let ended_is = c.end_island.ensures.ended apart ∙ ap (λ start. ended c.args.jump start (seen c.promote.new.self)) (c.end-start.ensures ∙ ap end_of same) in
    subst (HasIsland g.K.MachInstLabelUse.kinds c.args.distance c.args.force c.args.jump (seen c.args.self.now)) (sym ended_is) (island_made g.K.MachInstLabelUse.kinds g.met.K.MachInstLabelUse.lawful c.args.distance c.args.force c.args.jump (seen c.args.self.now) (seen c.write_until.new.self) (seen c.promote.new.self) c.requires.sound.whole c.requires.short near c.promote.ensures.promotes)
