use Rattle.std.proofs.Common.{◌≡◌, ◌+◌, ◌-◌, ◌*◌, ◌/◌, ◌%◌, ◌<◌, ◌++◌, ◌∙◌, ap, sym, take, arith}
use Rattle.a64_report.specs.Report.{word_line}
use Rattle.a64_report.specs.Kept.{KeepsWord, placed_word}
use Rattle.a64_report.proofs.KeptLines.{word_again, digits_again, word_text, word_line_of, shares_again}
use Rattle.a64_report.proofs.LineRuns.{one_word_more}
use Rattle.a64_report.proofs.kept.copy_words.Goals as goal
use Rattle.a64_report.proofs.kept.copy_words.Goals.{then-next-word, else-next-word}

pub loop-i-preserved : goal.loop-i-preserved
loop-i-preserved c =
    let start = c.args.kept.start in
    let i = c.loop-i.i in
    let place = c.args.place + 4 * i in
    let offset = c.args.place - c.first.result + 4 * i in
    let was = c.loop-i.invariant.kept in
    let next = c.from_le_bytes-next.result in
    let line = c.write_last.new.line in
    let line' = c.if-next-word.line in
    let sum : place ≡ c.args.kept.place.first + offset = omega (arith, c.requires.near, c.first.ensures) in
    let near : offset < c.args.kept.place.span = omega (arith, c.requires.near, c.first.ensures, c.loop-i-test.true) in
    let placed : KeepsWord line start place c.loop-i.word =
    word_again c.loop-i.line line start was.0 c.loop-i.word c.args.kept.place.first c.args.kept.place.span place offset c.loop-i.invariant.whole was.1 was.2 sum near c.write_last.ensures in
    let kept : KeepsWord line' start place c.if-next-word.word =
    elim c.if-next-word.branch [
      | then-next-word w ↦
          let at55 : w.put_hex.result ≡ 55 = omega (arith, w.put_hex.ensures.start) in
          rw (w.line-is, w.word-is)
          (digits_again line w.put_hex.new.line start place c.loop-i.word next c.write_last.array_long w.put_hex.array_long placed
          (rw at55 at w.put_hex.ensures.front) (rw at55 at w.put_hex.ensures.written))
      | else-next-word w ↦ rw (w.line-is, w.word-is) placed
    ] in
    let same : c.if-next-word.word ≡ next =
    elim c.if-next-word.branch [
      | then-next-word w ↦ w.word-is
      | else-next-word w ↦ w.word-is ∙ sym w.if-next-word.false
    ] in
    let whole : place % 4 ≡ 0 = omega (arith, c.requires.whole) in
    let number : place / 4 ≡ c.args.place / 4 + i = omega arith in
    let before = take c.loop-i.at c.loop-i.text in
    record {
      whole = c.if-next-word.array_long;
      kept = (place, kept, shares_again _ _ _ _ _ was.2 sum near);
      few = omega (arith, c.copy_kept-at.ensures.few, c.loop-i.invariant.few);
      copied =
          c.copy_kept-at.ensures.copied
          ∙ ap (λ t. before ++ t)
          (word_text line' start place c.if-next-word.word c.if-next-word.array_long kept
          ∙ ap (placed_word place) same
          ∙ word_line_of place next whole
          ∙ ap (λ n. word_line (n, next)) number)
          ∙ ap (λ t. t ++ word_line (c.args.place / 4 + i, next)) c.loop-i.invariant.copied
          ∙ one_word_more word_line (c.args.place / 4) i c.args.words.now next (take c.args.at c.args.text.now) c.loop-i-test.true c.from_le_bytes-next.ensures;
    }
