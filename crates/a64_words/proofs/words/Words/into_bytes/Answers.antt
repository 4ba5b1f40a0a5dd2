use Rattle.std.proofs.Common.{length, vec_capacity, sym, ◌∙◌, ap}
use Rattle.std.proofs.lemmas.List.{length-take-le}
use Rattle.a64_words.proofs.WordLists.{held_size}
use Rattle.a64_words.proofs.words.Words.into_bytes.Goals as goal

pub returns-clause-size : goal.returns-clause-size
returns-clause-size c =
    ap length c.truncate.ensures.items
    ∙ (length-take-le c.self.inside.size c.self.inside.bytes.items c.self.invariant.1
    ∙ sym (held_size c.self.inside.size c.self.inside.bytes.items (vec_capacity c.self.inside.bytes) c.args.self c.self.invariant.0 c.self.invariant.1 c.self.view_is))
