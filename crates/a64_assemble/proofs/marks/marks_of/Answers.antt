use Rattle.std.proofs.Common.{◌∙◌, ◌+◌, ◌++◌, ◌∷◌, [], take, sym, ap, subst}
use Rattle.a64_assemble.specs.Tally.{no_mark}
use Rattle.a64_assemble.proofs.Marking.{AreCounted, counted_none, counted_next, counted_all, mark_few, mark_size, mark_within, mark_short}
use Rattle.a64_assemble.proofs.marks.marks_of.Goals as goal

pub loop-item-init : goal.loop-item-init
loop-item-init c =
    subst (AreCounted c.args.frame.now c.args.info.now [] c.new-counts.result no_mark) (sym (c.in_ok-push.ensures.items ∙ ap (λ marks. marks ++ no_mark ∷ []) c.in_ok-marks.ensures.items))
    (counted_none c.args.frame.now c.args.info.now c.new-counts.result c.new-counts.ensures)

pub next_mark-requires-clause-few : goal.next_mark-requires-clause-few
next_mark-requires-clause-few c = mark_few c.args.frame.now c.args.info.now (take c.loop-item.item-index c.args.items.now) c.loop-item.mark c.loop-item.invariant.is_last

pub next_mark-requires-clause-within : goal.next_mark-requires-clause-within
next_mark-requires-clause-within c = mark_within c.args.frame.now c.args.info.now (take c.loop-item.item-index c.args.items.now) c.loop-item.mark c.loop-item.counts c.loop-item.invariant.tally c.loop-item.invariant.is_last

pub next_mark-requires-clause-short : goal.next_mark-requires-clause-short
next_mark-requires-clause-short c = mark_short c.args.frame.now c.args.info.now c.args.items.now c.loop-item.item-index c.item-item.result c.item-item.result c.loop-item.mark c.loop-item-test.true (sym c.item-item.is) c.requires.short c.loop-item.invariant.is_last

pub next_mark-requires-clause-size : goal.next_mark-requires-clause-size
next_mark-requires-clause-size c = mark_size c.args.frame.now c.args.info.now (take c.loop-item.item-index c.args.items.now) c.loop-item.mark c.loop-item.invariant.is_last

pub loop-item-preserved : goal.loop-item-preserved
loop-item-preserved c =
    let before = take c.loop-item.item-index c.args.items.now in
    subst (AreCounted c.args.frame.now c.args.info.now (take (c.loop-item.item-index + 1) c.args.items.now) c.next_mark.new.counts c.in_ok-mark.mark) (sym c.in_ok-push-2.ensures.items)
    (counted_next c.args.frame.now c.args.info.now c.args.items.now c.loop-item.item-index c.item-item.result c.item-item.result c.loop-item-test.true (sym c.item-item.is) c.loop-item.marks.items c.in_ok-mark.mark c.loop-item.counts c.next_mark.new.counts c.loop-item.mark c.loop-item.invariant
    (c.in_ok-mark.ensures.mark before c.loop-item.invariant.tally c.loop-item.invariant.is_last) (c.in_ok-mark.ensures.labels before c.loop-item.invariant.tally))

pub returns : goal.returns
returns c = counted_all c.args.frame.now c.args.info.now c.args.items.now c.loop-item.item-index c.loop-item.counts c.loop-item.mark c.loop-item.marks.items c.loop-item-test.false c.loop-item.invariant
