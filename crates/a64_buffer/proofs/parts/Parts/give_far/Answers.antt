use Rattle.std.proofs.Common.{ℕ, ◌+◌, ◌*◌, length, ◌++◌, ◌∷◌, [], get_or, map, sym, ◌∙◌, ap, subst, arith}
use Rattle.std.specs.Prelude.{IsSome}
use Rattle.std.specs.FinMap.{get}
use Rattle.std.proofs.lemmas.List.{append-nil}
use Rattle.a64_buffer.specs.declared.site.Target.TheVariants.{Label}
use Rattle.a64_buffer.specs.Buffer.{stop_of, end_of}
use Rattle.a64_buffer.specs.Sound.{seen}
use Rattle.a64_buffer.specs.Steps.{stopped, stands_at}
use Rattle.a64_buffer.proofs.Stops.{head_of_label, made_is}
use Rattle.a64_buffer.proofs.parts.Parts.give_far.Goals as goal

pub push_use-requires-clause-known : goal.push_use-requires-clause-known
push_use-requires-clause-known g c =
    subst (λ p. IsSome (get p.heads c.args.label.0)) (sym c.stop_at.ensures.rest)
    (head_of_label c.args.self.now.uses.items c.args.self.now.earlier.items c.args.self.now.heads c.args.index c.args.label g.K.MachInstLabelUse.kinds.jump c.requires.tracked.chained.labels c.requires.within c.requires.label)

pub push_use-requires-clause-few : goal.push_use-requires-clause-few
push_use-requires-clause-few g c = omega (arith, c.requires.few, c.stop_at.ensures.less)

pub returns-clause-gives : goal.returns-clause-gives
returns-clause-gives g c = λ d apart.
    let offset_is = ap (λ (p : ℕ × g.row.K.Denot). p.0) c.push_far_words-offset.ensures.last ∙ ap (λ n. n + 4 * length g.K.MachInstLabelUse.kinds.far_words) c.end-place.ensures in
    let kind_is = ap (λ (p : ℕ × g.row.K.Denot). p.1) c.push_far_words-offset.ensures.last in
    let made = made_is g.K.MachInstLabelUse.kinds c.args.self.now.labels c.push_far_words-offset.result.0 (end_of (seen c.args.self.now) + 4 * length g.K.MachInstLabelUse.kinds.far_words) (Label c.args.label) (get_or c.args.self.now.uses.items c.args.index d).target c.push_far_words-offset.result.1 g.K.MachInstLabelUse.kinds.far_use c.stop_of-stop.result offset_is (sym (c.requires.label d)) kind_is (c.stop_of-stop.ensures ∙ ap (λ k. stop_of g.K.MachInstLabelUse.kinds c.args.self.now.labels k c.push_far_words-offset.result.0 (Label c.args.label)) kind_is) in
    record {
      words = ap (λ p. p.words.items) c.push_use.ensures.rest ∙ (ap (λ p. p.words.items) c.stop_at.ensures.rest ∙ c.push_far_words-offset.ensures.items);
      uses =
          c.push_use.ensures.uses
          ∙ (ap (λ us. us ++ record { offset = c.push_far_words-offset.result.0; target = Label c.args.label; kind = c.push_far_words-offset.result.1; stop = c.stop_of-stop.result } ∷ [])
          (c.stop_at.ensures.uses d apart ∙ ap (λ place. map (stopped (stands_at (get_or c.args.self.now.uses.items c.args.index d).offset) place) c.args.self.now.uses.items) c.end-place.ensures)
          ∙ ap (λ u. map (stopped (stands_at (get_or c.args.self.now.uses.items c.args.index d).offset) (end_of (seen c.args.self.now))) c.args.self.now.uses.items ++ u ∷ []) made);
      labels = ap (λ p. p.labels) c.push_use.ensures.rest ∙ ap (λ p. p.labels) c.stop_at.ensures.rest;
      islands = ap (λ p. p.islands.items) c.push_use.ensures.rest ∙ ap (λ p. p.islands.items) c.stop_at.ensures.rest;
      traps_are = ap (λ p. p.traps.items) c.push_use.ensures.rest ∙ (ap (λ p. p.traps.items) c.stop_at.ensures.rest ∙ sym (append-nil c.args.self.now.traps.items));
      constants = ap (λ p. p.constants.now) c.push_use.ensures.rest ∙ ap (λ p. p.constants.now) c.stop_at.ensures.rest;
      records = ap (λ p. (seen p).records) c.push_use.ensures.rest ∙ ap (λ p. (seen p).records) c.stop_at.ensures.rest;
    }
