use Rattle.std.proofs.Common.{◌≡◌, ◌+◌, ◌/◌, ◌++◌, length, take, vec_capacity, ◌∙◌, ap, arith}
use Rattle.std.proofs.lemmas.List.{with_items_is}
use Rattle.a64_words.specs.Word.{words_of}
use Rattle.a64_words.specs.Words.{HeldWords}
use Rattle.a64_words.proofs.WordLists.{held_room, words_written}
use Rattle.a64_words.proofs.words.Words.extend_reserved.Goals as goal

pub reach-requires : goal.reach-requires
reach-requires c = omega (
  arith,
  held_room c.self.inside.size c.self.inside.bytes.items (vec_capacity c.self.inside.bytes) c.args.self.now (length c.args.bytes.now / 4) c.self.invariant.0 c.self.invariant.1 c.self.view_is c.requires.room,
  c.requires.whole,
)

pub returns-clause-items : goal.returns-clause-items
returns-clause-items c =
    let size = c.self.inside.size in
    let part = c.args.bytes.now in
    let long : length c.write.new.bytes ≡ c.reach.new.bytes.len = omega (arith, c.write.auto.bytes, c.deref_mut.ensures.len) in
    ap (λ bytes. words_of (take (size + length part) bytes)) (with_items_is c.reach.new.bytes c.write.new.bytes long)
    ∙ (words_written size c.deref_mut.result.now part c.write.new.bytes c.self.invariant.0 (omega (arith, c.reach.ensures.end, ap length c.deref_mut.ensures.value)) c.write.ensures
    ∙ (ap (λ bytes. words_of (take size bytes) ++ words_of part) c.deref_mut.ensures.value
    ∙ (ap (λ bytes. words_of bytes ++ words_of part) (c.reach.ensures.kept size c.self.invariant.1)
    ∙ ap (λ (v : HeldWords). v.items ++ words_of part) c.self.view_is)))
