use Rattle.std.proofs.Common.{refl, arith, append_assoc}
use Rattle.std.proofs.lemmas.List.{drop_all}
use Rattle.a64_report.proofs.report_lines.compose_two.Goals as goal

pub returns-clause-text : goal.returns-clause-text
returns-clause-text c =
    rw (c.put_text.ensures.written, c.put_text-start-3.ensures.written, c.put_decimal-start-2.ensures.written, c.put_text-start-2.ensures.written, c.put_decimal-start.ensures.written, c.put_text-start.ensures.written, drop_all 128 c.args.buffer.now (omega arith))
    (simp append_assoc refl)
