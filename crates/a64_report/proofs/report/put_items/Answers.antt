use Rattle.std.proofs.Common.{rules, ap, arith}
use Rattle.std.specs.List.{flat_map, enumerate_from}
use Rattle.std.proofs.lemmas.List.{drop_all}
use Rattle.a64_report.specs.Report.{item_line}
use Rattle.a64_report.specs.Kept.{item_lines}
use Rattle.a64_report.proofs.Gathering.{left_start, left_moved, left_cut, left_end, on_err}
use Rattle.a64_report.proofs.report.put_items.Goals as goal

pub loop-index-init : goal.loop-index-init
loop-index-init g c = (left_start _ _ _ _, omega arith)

pub loop-index-preserved : goal.loop-index-preserved
loop-index-preserved g c = (
  rw c.fill_items-index.ensures.filled (left_moved _ (item_lines c.args.places.now c.loop-index.index) c.loop-index.invariant.0 c.in_ok-make_room.ensures.puts.ok),
  c.fill_items-index.ensures.within.1,
)

pub returns-in_err-make_room : goal.returns-in_err-make_room
returns-in_err-make_room g c = record {
  ok = search rules;
  err = on_err c.from_residual.result (left_cut _ (item_lines c.args.places.now c.loop-index.index) c.loop-index.invariant.0 c.in_err-make_room.ensures.puts.err);
}

pub returns : goal.returns
returns g c = record {
  ok =
      left_end c.loop-index.invariant.0
      (ap (λ xs. flat_map item_line (enumerate_from c.loop-index.index xs)) (drop_all c.loop-index.index c.args.places.now (omega arith)));
  err = search rules;
}
