use Rattle.std.proofs.Common.{refl, append-nil}
use Rattle.a64_print.proofs.LabelSteps.{labels_from, labels_end, one_label_more, whole_list}
use Rattle.a64_print.proofs.sequence.table.push_labels.Goals as goal

pub loop-label-init : goal.loop-label-init
loop-label-init c = rw whole_list refl

pub loop-label-preserved : goal.loop-label-preserved
loop-label-preserved c =
    let step = labels_from c.loop-label.is_first c.args.labels.now c.loop-label.label-index _ c.loop-label-test.true in
    let whole = rw step at c.loop-label.invariant in
    one_label_more _ _ _ _ _ c.in_ok-push_label.ensures whole

pub returns : goal.returns
returns c =
    let step = labels_end c.loop-label.is_first c.args.labels.now c.loop-label.label-index c.loop-label-test.false in
    let whole = rw (step, append-nil) at c.loop-label.invariant in whole
