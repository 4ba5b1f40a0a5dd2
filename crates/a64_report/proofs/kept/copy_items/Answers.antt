use Rattle.std.proofs.Common.{◌≡◌, ◌+◌, ◌-◌, ◌<◌, ◌++◌, ◌∙◌, ap, take, arith}
use Rattle.a64_report.specs.Report.{item_line}
use Rattle.a64_report.specs.Kept.{KeepsItem}
use Rattle.a64_report.proofs.KeptLines.{item_again, item_text, shares_again}
use Rattle.a64_report.proofs.LineRuns.{one_more}
use Rattle.a64_report.proofs.kept.copy_items.Goals as goal

pub loop-i-preserved : goal.loop-i-preserved
loop-i-preserved c =
    let line = c.loop-i.line in
    let start = c.args.kept.start in
    let index_end = c.args.kept.index_end in
    let index = c.args.index + c.loop-i.i in
    let place = c.from.result in
    let line' = c.write_last-in-loop-i.new.line in
    let offset = c.args.index - c.first.result + c.loop-i.i in
    let was = c.loop-i.invariant.kept in
    let p = c.in-Some.ensures in
    let sum : index ≡ c.args.kept.index.first + offset = omega (arith, c.requires.near, c.first.ensures) in
    let near : offset < c.args.kept.index.span = omega (arith, c.requires.near, c.first.ensures) in
    let kept : KeepsItem line' start index_end index place =
    rw (c.write_last-in-loop-i.ensures, c.write_last.ensures)
    (item_again line start index_end was.0 was.1 c.args.kept.index.first c.args.kept.index.span c.args.kept.place.first c.args.kept.place.span index place offset c.in-Some.place c.loop-i.invariant.whole was.2 was.3 was.4 sum near p.0 p.1) in
    record {
      whole = c.write_last-in-loop-i.array_long;
      kept = (index, place, kept, shares_again _ _ _ _ _ was.3 sum near, shares_again _ _ _ _ _ was.4 p.0 p.1);
      few = omega (arith, c.copy_kept-at.ensures.few, c.loop-i.invariant.few);
      copied =
          c.copy_kept-at.ensures.copied
          ∙ ap (λ t. take c.loop-i.at c.loop-i.text ++ t) (item_text line' start index_end index place c.write_last-in-loop-i.array_long kept)
          ∙ ap (λ t. t ++ item_line (index, place)) c.loop-i.invariant.copied
          ∙ one_more item_line c.args.index c.loop-i.i c.args.places.now place 0 (take c.args.at c.args.text.now) c.loop-i-test.true c.from.ensures;
    }
