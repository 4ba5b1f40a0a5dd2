use Rattle.std.proofs.Common.{rules, ◌+◌, drop}
use Rattle.std.specs.List.{flat_map}
use Rattle.a64_report.specs.declared.report.Section.TheVariants.{Items}
use Rattle.a64_report.specs.Sections.{section_text}
use Rattle.a64_report.proofs.Numbered.{plain_lines_left}
use Rattle.a64_report.proofs.Gathering.{front_more, front_cut, on_err}
use Rattle.a64_report.proofs.report.put_sections.Goals as goal

pub loop-section-preserved : goal.loop-section-preserved
loop-section-preserved g c =
    front_more (flat_map (section_text c.args.code.now) (drop (c.loop-section.section-index + 1) c.args.sections.now)) c.loop-section.invariant
    c.in_ok-put_section.ensures.ok
    (plain_lines_left (section_text c.args.code.now) c.args.sections.now c.loop-section.section-index Items c.loop-section-test.true)

pub returns-in_err-put_section : goal.returns-in_err-put_section
returns-in_err-put_section g c = record {
  ok = search rules;
  err =
      on_err c.from_residual.result
      (front_cut (flat_map (section_text c.args.code.now) (drop (c.loop-section.section-index + 1) c.args.sections.now)) c.loop-section.invariant
      c.in_err-put_section.ensures.err
      (plain_lines_left (section_text c.args.code.now) c.args.sections.now c.loop-section.section-index Items c.loop-section-test.true));
}
