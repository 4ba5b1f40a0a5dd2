use Rattle.std.proofs.Common.{◌+◌, ◌<◌, ◌≡◌, arith, length, rules, ap, ◌∙◌}
use Rattle.a64_words.specs.Word.{words_of}
use Rattle.a64_emit.proofs.CodeBytes.{one_word_less}
use Rattle.a64_emit.proofs.code.CodeWordsIterator.next.Goals as goal

pub returns-clause-goes : goal.returns-clause-goes
returns-clause-goes c =
    let cases = c.in_ok-word.ensures.cases in
    let fewer : length (words_of c.in_ok-word.rest.now) + 1 ≡ length (words_of c.args.self.now.bytes.now) =
    ap (λ bs. length (words_of bs) + 1) cases.1 ∙ one_word_less c.args.self.now.bytes.now (omega (arith, cases.2)) in
    let shorter : length (words_of c.in_ok-word.rest.now) < length (words_of c.args.self.now.bytes.now) = omega (arith, fewer) in
    search rules
