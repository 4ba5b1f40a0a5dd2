use Rattle.std.proofs.Common.{rules, arith, refl, sym, ap, subst}
use Rattle.std.proofs.lemmas.Grind.{common_steps}
use Rattle.a64_buffer.specs.Queues.{AllHold, AllLimits}
use Rattle.a64_buffer.proofs.Queued.{skip_hold, skip_limits}
use Rattle.a64_buffer.proofs.parts.Parts.begin_island.Goals as goal

pub returns-then-not-jump-clause-keeps : goal.returns-then-not-jump-clause-keeps
returns-then-not-jump-clause-keeps g c = record {
  kept = record { tracked = c.requires.kept.tracked; hold = c.requires.kept.hold; limits = c.requires.kept.limits; queued = search rules };
  room = search rules;
}

pub returns-clause-keeps : goal.returns-clause-keeps
returns-clause-keeps g c = record {
  kept = record {
    tracked = search rules;
    hold = subst (AllHold g.K.MachInstLabelUse.kinds c.push_use.new.self.uses.items) (sym (ap (λ p. p.queues) c.push_use.ensures.rest))
        (subst (λ us. AllHold g.K.MachInstLabelUse.kinds us c.args.self.now.queues) (sym c.push_use.ensures.uses) (skip_hold g.K.MachInstLabelUse.kinds c.args.self.now.uses.items c.args.self.now.queues _ refl c.requires.kept.hold));
    limits = subst (AllLimits g.K.MachInstLabelUse.kinds c.push_use.new.self.uses.items) (sym (ap (λ p. p.queues) c.push_use.ensures.rest))
        (subst (λ us. AllLimits g.K.MachInstLabelUse.kinds us c.args.self.now.queues) (sym c.push_use.ensures.uses) (skip_limits g.K.MachInstLabelUse.kinds c.args.self.now.uses.items c.args.self.now.queues _ refl c.requires.kept.limits));
    queued = λ q. grind (arith, common_steps);
  };
  room = search rules;
}
