use Rattle.std.proofs.Common.{map, ◌∙◌, ap}
use Rattle.std.proofs.lemmas.List.{take_all}
use Rattle.a64_buffer.proofs.Listed.{entry_of, labels_more, lists_labels}
use Rattle.a64_buffer.proofs.settle.labels_in_order.Goals as goal

pub returns : goal.returns
returns c = lists_labels c.args.labels.now c.loop-label.list.items (c.loop-label.invariant ∙ (take_all _ _ c.loop-label-test.false ∙ (c.deref-label-items.ensures.value ∙ c.in_ok-entries.ensures)))

pub loop-label-preserved : goal.loop-label-preserved
loop-label-preserved c = labels_more c.deref-label-items.result.now c.loop-label.list.items c.push_reserved.new.self.items c.loop-label.label-index (0, 0) c.loop-label-test.true c.loop-label.invariant c.push_reserved.ensures.items

pub loop-label-init : goal.loop-label-init
loop-label-init c = ap (map entry_of) c.in_ok-list.ensures.items
