use Rattle.std.proofs.Common.{rules, ◌/◌, ap, refl, arith, drop, length-drop}
use Rattle.std.specs.List.{flat_map, enumerate_from}
use Rattle.a64_report.specs.Report.{word_line}
use Rattle.a64_report.specs.Kept.{word_lines}
use Rattle.a64_report.proofs.KeptLines.{no_words}
use Rattle.a64_report.proofs.Gathering.{left_start, left_moved, left_cut, left_end, on_err}
use Rattle.a64_report.proofs.report.put_words.Goals as goal

pub loop-place-init : goal.loop-place-init
loop-place-init g c = (left_start _ _ _ _, omega arith, refl)

pub loop-place-preserved : goal.loop-place-preserved
loop-place-preserved g c = (
  rw c.fill_words-place.ensures.filled (left_moved _ (word_lines c.args.bytes.now c.loop-place.place) c.loop-place.invariant.0 c.in_ok-make_room.ensures.puts.ok),
  c.fill_words-place.ensures.within.1,
  c.fill_words-place.ensures.whole,
)

pub returns-in_err-make_room : goal.returns-in_err-make_room
returns-in_err-make_room g c = record {
  ok = search rules;
  err = on_err c.from_residual.result (left_cut _ (word_lines c.args.bytes.now c.loop-place.place) c.loop-place.invariant.0 c.in_err-make_room.ensures.puts.err);
}

pub returns : goal.returns
returns g c = record {
  ok =
      left_end c.loop-place.invariant.0
      (ap (λ ws. flat_map word_line (enumerate_from (c.loop-place.place / 4) ws)) (no_words (drop c.loop-place.place c.args.bytes.now) (omega (arith, length-drop c.loop-place.place c.args.bytes.now))));
  err = search rules;
}
