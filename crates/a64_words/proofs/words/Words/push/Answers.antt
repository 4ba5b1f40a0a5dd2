use Rattle.std.proofs.Common.{◌≡◌, ◌+◌, ◌++◌, ◌∷◌, [], length, take, ◌∙◌, ap, arith}
use Rattle.std.proofs.lemmas.List.{with_items_is}
use Rattle.a64_words.specs.Word.{words_of}
use Rattle.a64_words.specs.Words.{HeldWords}
use Rattle.a64_words.proofs.WordLists.{word_written}
use Rattle.a64_words.proofs.words.Words.push.Goals as goal

pub returns-clause-ok : goal.returns-clause-ok
returns-clause-ok c =
    let size = c.self.inside.size in
    let long : length c.write_word.new.bytes ≡ c.self.inside.bytes.len = omega (arith, c.write_word.auto.bytes, c.deref_mut.ensures.len) in
    ap (λ bytes. words_of (take (size + 4) bytes)) (with_items_is c.self.inside.bytes c.write_word.new.bytes long)
    ∙ (word_written size c.args.word c.deref_mut.result.now c.write_word.new.bytes c.self.invariant.0 (omega (arith, c.self.invariant.1, ap length c.deref_mut.ensures.value)) c.ranges.word.fits c.write_word.ensures
    ∙ (ap (λ bytes. words_of (take size bytes) ++ c.args.word ∷ []) c.deref_mut.ensures.value
    ∙ ap (λ (v : HeldWords). v.items ++ c.args.word ∷ []) c.self.view_is))
