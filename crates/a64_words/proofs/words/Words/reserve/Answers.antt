use Rattle.std.proofs.Common.{vec_capacity, arith}
use Rattle.a64_words.proofs.WordLists.{room_held}
use Rattle.a64_words.proofs.words.Words.reserve.Goals as goal

pub returns-then-words-capacity-clause-ok : goal.returns-then-words-capacity-clause-ok
returns-then-words-capacity-clause-ok c =
    room_held c.self.inside.size c.self.inside.bytes.items (vec_capacity c.self.inside.bytes) c.args.self.now c.args.words c.self.invariant.0 c.self.invariant.1 c.self.view_is
    (omega (arith, c.if-words-capacity.true, c.capacity.ensures, c.self.invariant.1, c.self.inside.bytes.ok.0, c.self.inside.bytes.ok.1))
