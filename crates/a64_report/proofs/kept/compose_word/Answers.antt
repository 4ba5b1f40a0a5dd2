use Rattle.std.proofs.Common.{◌≤◌, ◌++◌, length-drop, ap, ◌∙◌, codes, arith}
use Rattle.std.specs.Fmt.{decimal}
use Rattle.a64_tokens.specs.Hex.{hex_word}
use Rattle.a64_report.proofs.KeptLines.{made_word}
use Rattle.a64_report.proofs.kept.compose_word.Goals as goal

pub returns : goal.returns
returns c =
    let begins : c.put_text.result ≤ 64 = omega (arith, c.put_text.ensures.start, c.put_decimal-start.ensures.few.0, c.put_text-end-2.ensures.start, c.put_hex-end.ensures.start, c.put_text-end.ensures.start) in
    made_word c.put_text.result c.args.place c.args.word c.put_text.new.line _ c.put_text.array_long (length-drop 64 c.args.buffer.now ∙ omega arith) begins c.ranges.place.fits
    (c.put_text.ensures.written
    ∙ ap (λ t. codes "word " ++ t) (c.put_decimal-start.ensures.written
    ∙ ap (λ t. decimal c.args.place ++ t) (c.put_text-end-2.ensures.written
    ∙ ap (λ t. codes " " ++ t) (c.put_hex-end.ensures.written
    ∙ ap (λ t. hex_word c.args.word ++ t) c.put_text-end.ensures.written))))
