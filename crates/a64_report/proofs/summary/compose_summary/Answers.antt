use Rattle.std.proofs.Common.{◌≡◌, length, arith, rules}
use Rattle.std.proofs.lemmas.List.{drop_all}
use Rattle.a64_report.specs.Summary.{word_sum}
use Rattle.a64_report.proofs.SummaryParts.{summary_parts}
use Rattle.a64_report.proofs.summary.compose_summary.Goals as goal

pub returns-clause-text : goal.returns-clause-text
returns-clause-text c =
    let code = c.args.code.now in
    let islands : c.len.result ≡ length code.islands.items = search rules in
    let bytes : c.len-2.result ≡ length code.bytes.items = search rules in
    rw (c.put_text.ensures.written, c.put_decimal-start-3.ensures.written, c.put_text-start-4.ensures.written, c.put_decimal-start-2.ensures.written, c.put_text-start-3.ensures.written, c.put_decimal-start.ensures.written, c.put_text-start-2.ensures.written, c.put_hex-start.ensures.written, c.put_text-start.ensures.written, drop_all 128 c.args.buffer.now (omega arith), islands, bytes, c.word_sum.ensures, c.deref.ensures.value)
    (summary_parts c.args.items (length code.bytes.items) (length code.islands.items) (word_sum code.bytes.items))
