use Rattle.std.proofs.Common.{◌+◌, ◌++◌, ◌∷◌, [], ◌∙◌, ap, sym, subst, arith}
use Rattle.a64_buffer.specs.Classes.{first, second, third, cost}
use Rattle.a64_buffer.specs.Queues.{AreBurdens}
use Rattle.a64_buffer.proofs.Costs.{burden_third}
use Rattle.a64_buffer.proofs.Burdens.{pushed_burdens}
use Rattle.a64_buffer.proofs.Stops.{chained_other}
use Rattle.a64_buffer.proofs.parts.Parts.push_use.Goals as goal

pub gain-requires-clause-first : goal.gain-requires-clause-first
gain-requires-clause-first g c = omega (arith, c.requires.few, c.requires.tracked.burdens.first_is, c.requires.tracked.burdens.third_is, burden_third g.K.MachInstLabelUse.kinds first c.args.self.now.uses.items, ap (λ p. p.burdens.first) c.link-earlier.ensures.rest)

pub gain-requires-clause-second : goal.gain-requires-clause-second
gain-requires-clause-second g c = omega (arith, c.requires.few, c.requires.tracked.burdens.second_is, c.requires.tracked.burdens.third_is, burden_third g.K.MachInstLabelUse.kinds second c.args.self.now.uses.items, ap (λ p. p.burdens.second) c.link-earlier.ensures.rest)

pub gain-requires-clause-third : goal.gain-requires-clause-third
gain-requires-clause-third g c = omega (arith, c.requires.few, ap (λ p. p.burdens.third) c.link-earlier.ensures.rest)

pub returns-clause-tracked : goal.returns-clause-tracked
returns-clause-tracked g c = record {
  chained =
      chained_other c.args.self.now.uses.items c.push_reserved-2.new.self.items c.args.self.now.earlier.items c.push_reserved.new.self.items c.args.self.now.heads c.link-earlier.new.self.heads c.args.self.now.loads c.link-earlier.new.self.loads c.args.site c.link-earlier.result c.requires.tracked.chained
      (c.push_reserved-2.ensures.items ∙ ap (λ p. p.uses.items ++ c.args.site ∷ []) c.link-earlier.ensures.rest)
      (c.push_reserved.ensures.items ∙ ap (λ p. p.earlier.items ++ c.link-earlier.result ∷ []) c.link-earlier.ensures.rest)
      c.requires.target c.link-earlier.ensures.earlier c.link-earlier.ensures.heads (ap (λ p. p.loads) c.link-earlier.ensures.rest);
  burdens =
      subst (λ us. AreBurdens g.K.MachInstLabelUse.kinds us c.gain.new.self) (sym (c.push_reserved-2.ensures.items ∙ ap (λ p. p.uses.items ++ c.args.site ∷ []) c.link-earlier.ensures.rest))
      (pushed_burdens g.K.MachInstLabelUse.kinds c.args.self.now.uses.items c.args.site c.waiting_class-class.result c.args.self.now.burdens c.gain.new.self c.waiting_class-class.ensures c.requires.tracked.burdens
      (c.gain.ensures.first ∙ ap (λ p. p.burdens.first + cost first c.waiting_class-class.result) c.link-earlier.ensures.rest)
      (c.gain.ensures.second ∙ ap (λ p. p.burdens.second + cost second c.waiting_class-class.result) c.link-earlier.ensures.rest)
      (c.gain.ensures.third ∙ ap (λ p. p.burdens.third + cost third c.waiting_class-class.result) c.link-earlier.ensures.rest));
}
