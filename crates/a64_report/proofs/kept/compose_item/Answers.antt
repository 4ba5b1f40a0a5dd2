use Rattle.std.proofs.Common.{◌≤◌, ◌++◌, length, drop, ap, ◌∙◌, codes, arith, length-append, length-drop}
use Rattle.std.specs.Fmt.{decimal}
use Rattle.a64_report.proofs.KeptLines.{made_item}
use Rattle.a64_report.proofs.kept.compose_item.Goals as goal

pub returns : goal.returns
returns c =
    let number = decimal c.args.index in
    let long = ap length c.put_decimal-start.ensures.written in
    let sum = length-append number (drop c.put_text-index_end.result c.put_text-index_end.new.line) in
    let a = length-drop c.put_decimal-start.result c.put_decimal-start.new.line in
    let b = length-drop c.put_text-index_end.result c.put_text-index_end.new.line in
    let begins : c.put_text-start.result ≤ 64 = omega (arith, c.put_text-start.ensures.start, c.put_decimal-start.ensures.few.0, c.put_text-index_end.ensures.start, c.put_decimal-end.ensures.few.0, c.put_text-end.ensures.start) in
    made_item c.put_text-start.result c.put_text-index_end.result c.args.index c.args.place c.put_text-start.new.line _ c.put_text-start.array_long (length-drop 64 c.args.buffer.now ∙ omega arith) begins c.ranges.index.fits (omega (arith, c.ranges.place.fits))
    (c.put_text-start.ensures.written
    ∙ ap (λ t. codes "item " ++ t) (c.put_decimal-start.ensures.written
    ∙ ap (λ t. number ++ t) (c.put_text-index_end.ensures.written
    ∙ ap (λ t. codes " " ++ t) (c.put_decimal-end.ensures.written
    ∙ ap (λ n. decimal n ++ drop c.put_text-end.result c.put_text-end.new.line) c.from.ensures
    ∙ ap (λ t. decimal c.args.place ++ t) c.put_text-end.ensures.written))))
    (omega (arith, long, sum, a, b, c.put_decimal-start.array_long, c.put_text-index_end.array_long, c.put_text-start.ensures.start, c.put_decimal-start.ensures.few.0, c.put_text-index_end.ensures.start, c.put_decimal-end.ensures.few.0, c.put_text-end.ensures.start))
