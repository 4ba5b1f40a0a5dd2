use Rattle.std.proofs.Common.{◌++◌, ◌∷◌, [], get_or, map, sym, ◌∙◌, ap}
use Rattle.std.proofs.lemmas.List.{append-nil}
use Rattle.a64_buffer.specs.Buffer.{end_of}
use Rattle.a64_buffer.specs.Sound.{seen}
use Rattle.a64_buffer.specs.Steps.{stopped, stands_at}
use Rattle.a64_buffer.proofs.parts.Parts.give_trap.Goals as goal

pub returns-clause-gives : goal.returns-clause-gives
returns-clause-gives g c = λ d apart. record {
  words = c.push_reserved.ensures.items ∙ (ap (λ p. p.words.items ++ c.trap_word.result ∷ []) c.stop_at.ensures.rest ∙ ap (λ w. c.args.self.now.words.items ++ w ∷ []) c.trap_word.ensures);
  uses = c.stop_at.ensures.uses d apart ∙ (ap (λ place. map (stopped (stands_at (get_or c.args.self.now.uses.items c.args.index d).offset) place) c.args.self.now.uses.items) c.end-place.ensures ∙ sym (append-nil (map (stopped (stands_at (get_or c.args.self.now.uses.items c.args.index d).offset) (end_of (seen c.args.self.now))) c.args.self.now.uses.items)));
  labels = ap (λ p. p.labels) c.stop_at.ensures.rest;
  islands = ap (λ p. p.islands.items) c.stop_at.ensures.rest;
  traps_are = c.push_reserved-2.ensures.items ∙ (ap (λ p. p.traps.items ++ (c.end-place.result, c.args.code) ∷ []) c.stop_at.ensures.rest ∙ ap (λ n. c.args.self.now.traps.items ++ (n, c.args.code) ∷ []) c.end-place.ensures);
  constants = ap (λ p. p.constants.now) c.stop_at.ensures.rest;
  records = ap (λ p. (seen p).records) c.stop_at.ensures.rest;
}
