use Rattle.std.proofs.Common.{◌≡◌, ◌+◌, ◌++◌, ◌∷◌, [], length, take, vec_capacity, ◌∙◌, ap, arith}
use Rattle.std.proofs.lemmas.List.{with_items_is}
use Rattle.a64_words.specs.Word.{words_of}
use Rattle.a64_words.specs.Words.{HeldWords}
use Rattle.a64_words.proofs.WordLists.{held_room, word_written}
use Rattle.a64_words.proofs.words.Words.push_reserved.Goals as goal

pub reach-requires : goal.reach-requires
reach-requires c =
    held_room c.self.inside.size c.self.inside.bytes.items (vec_capacity c.self.inside.bytes) c.args.self.now 1 c.self.invariant.0 c.self.invariant.1 c.self.view_is
    (omega (arith, c.requires))

pub returns-clause-items : goal.returns-clause-items
returns-clause-items c =
    let size = c.self.inside.size in
    let long : length c.write_word.new.bytes ≡ c.reach.new.bytes.len = omega (arith, c.write_word.auto.bytes, c.deref_mut.ensures.len) in
    ap (λ bytes. words_of (take (size + 4) bytes)) (with_items_is c.reach.new.bytes c.write_word.new.bytes long)
    ∙ (word_written size c.args.word c.deref_mut.result.now c.write_word.new.bytes c.self.invariant.0 (omega (arith, c.reach.ensures.end, ap length c.deref_mut.ensures.value)) c.ranges.word.fits c.write_word.ensures
    ∙ (ap (λ bytes. words_of (take size bytes) ++ c.args.word ∷ []) c.deref_mut.ensures.value
    ∙ (ap (λ bytes. words_of bytes ++ c.args.word ∷ []) (c.reach.ensures.kept size c.self.invariant.1)
    ∙ ap (λ (v : HeldWords). v.items ++ c.args.word ∷ []) c.self.view_is)))
