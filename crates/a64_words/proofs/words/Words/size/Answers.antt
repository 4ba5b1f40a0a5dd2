use Rattle.std.proofs.Common.{vec_capacity, sym}
use Rattle.a64_words.proofs.WordLists.{held_size}
use Rattle.a64_words.proofs.words.Words.size.Goals as goal

pub returns : goal.returns
returns c = sym (held_size c.self.inside.size c.self.inside.bytes.items (vec_capacity c.self.inside.bytes) c.args.self.now c.self.invariant.0 c.self.invariant.1 c.self.view_is)
