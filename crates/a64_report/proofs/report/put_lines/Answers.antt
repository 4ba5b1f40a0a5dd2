use Rattle.std.proofs.Common.{rules, ◌+◌, drop}
use Rattle.std.specs.List.{flat_map}
use Rattle.a64_report.proofs.Numbered.{lines_of_item}
use Rattle.a64_report.proofs.Gathering.{front_more, front_cut, on_err}
use Rattle.a64_report.proofs.report.put_lines.Goals as goal

pub loop-subject-preserved : goal.loop-subject-preserved
loop-subject-preserved g c =
    front_more (flat_map g.L.LineKind.line (drop (c.loop-subject.subject-index + 1) c.args.subjects.now)) c.loop-subject.invariant
    (rw (c.text_from.ensures, c.compose-start.ensures.text) at c.in_ok-put.ensures.puts.ok)
    (lines_of_item g.L.LineKind.line c.args.subjects.now c.loop-subject.subject-index c.subject-item.result c.loop-subject-test.true c.subject-item.is)

pub returns-in_err-put : goal.returns-in_err-put
returns-in_err-put g c = record {
  ok = search rules;
  err =
      on_err c.from_residual.result
      (front_cut (flat_map g.L.LineKind.line (drop (c.loop-subject.subject-index + 1) c.args.subjects.now)) c.loop-subject.invariant
      (rw (c.text_from.ensures, c.compose-start.ensures.text) at c.in_err-put.ensures.puts.err)
      (lines_of_item g.L.LineKind.line c.args.subjects.now c.loop-subject.subject-index c.subject-item.result c.loop-subject-test.true c.subject-item.is));
}
