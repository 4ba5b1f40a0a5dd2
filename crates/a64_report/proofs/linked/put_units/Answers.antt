use Rattle.std.proofs.Common.{rules, ◌+◌, drop}
use Rattle.std.specs.List.{flat_map, enumerate_from}
use Rattle.a64_report.specs.LinkLines.{unit_line}
use Rattle.a64_report.proofs.Numbered.{lines_left}
use Rattle.a64_report.proofs.Gathering.{front_more, front_cut, on_err}
use Rattle.a64_report.proofs.linked.put_units.Goals as goal

pub loop-index-preserved : goal.loop-index-preserved
loop-index-preserved g c =
    let starts = c.args.starts.now in
    let i = c.loop-index.index in
    front_more (flat_map unit_line (enumerate_from (i + 1) (drop (i + 1) starts))) c.loop-index.invariant
    (rw (c.text_from.ensures, c.compose_two-start.ensures.text, c.from.ensures) at c.in_ok-put.ensures.puts.ok)
    (lines_left unit_line i starts i 0 c.loop-index-test.true)

pub returns-in_err-put : goal.returns-in_err-put
returns-in_err-put g c =
    let starts = c.args.starts.now in
    let i = c.loop-index.index in
    record {
      ok = search rules;
      err =
          on_err c.from_residual.result
          (front_cut (flat_map unit_line (enumerate_from (i + 1) (drop (i + 1) starts))) c.loop-index.invariant
          (rw (c.text_from.ensures, c.compose_two-start.ensures.text, c.from.ensures) at c.in_err-put.ensures.puts.err)
          (lines_left unit_line i starts i 0 c.loop-index-test.true));
    }
