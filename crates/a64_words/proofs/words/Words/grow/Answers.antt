use Rattle.std.proofs.Common.{◌≡◌, ◌*◌, ◌≤◌, length, take, ap, arith}
use Rattle.a64_words.specs.Word.{words_of}
use Rattle.a64_words.proofs.WordLists.{words_taken}
use Rattle.a64_words.proofs.words.Words.grow.Goals as goal

pub returns-clause-ok : goal.returns-clause-ok
returns-clause-ok c =
    let size = c.self.inside.size in
    let new = c.reserve.new.self in
    let inside : size ≤ length new.items = omega (arith, ap length c.in_ok-reserve.ensures.items, c.self.invariant.1) in
    let taken : 4 * length (words_of (take size new.items)) ≡ size = words_taken size new.items c.self.invariant.0 inside in
    omega (
      arith,
      taken,
      c.in_ok-reserve.ensures.ok,
      c.in_ok-reserve.ensures.len,
      new.ok.1,
      new.small,
      c.saturating_mul.ensures,
      c.saturating_add-end.ensures,
      c.saturating_sub.ensures,
      c.len-len.ensures,
      c.self.inside.bytes.ok.0,
    )
