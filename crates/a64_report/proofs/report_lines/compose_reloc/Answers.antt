use Rattle.std.proofs.Common.{refl, arith, append_assoc, to_z-of_z}
use Rattle.std.proofs.lemmas.List.{drop_all}
use Rattle.a64_report.proofs.report_lines.compose_reloc.Goals as goal

pub returns-clause-text : goal.returns-clause-text
returns-clause-text c =
    rw (c.put_text.ensures.written, c.put_decimal-start-2.ensures.written, c.put_text-start-5.ensures.written, c.put_text-start-4.ensures.written, c.put_text-start-3.ensures.written, c.put_decimal-start.ensures.written, c.put_text-start-2.ensures.written, c.put_signed-start.ensures.written, c.put_text-start.ensures.written, c.reloc_name.ensures.name, c.from.ensures, c.from-2.ensures, drop_all 128 c.args.buffer.now (omega arith), to_z-of_z c.ranges.addend)
    (simp append_assoc refl)
