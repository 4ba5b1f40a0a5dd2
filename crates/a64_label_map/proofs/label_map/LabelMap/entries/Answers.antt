use Rattle.std.proofs.Common.{◌++◌, sym, ◌∙◌, ap}
use Rattle.std.specs.FinMap.{entries}
use Rattle.a64_label_map.specs.Shared.{numbered}
use Rattle.a64_label_map.proofs.Sorted.{entries_whole}
use Rattle.a64_label_map.proofs.label_map.LabelMap.entries.Goals as goal

pub returns : goal.returns
returns g c =
    c.in_ok-list-2.ensures.items
    ∙ (ap (λ es. es ++ c.self.inside.others.entries) (c.in_ok-list.ensures ∙ ap (numbered 0) c.deref.ensures.value)
    ∙ (sym (entries_whole c.self.inside.table.items c.self.inside.others c.self.invariant.shared c.list_others.ensures.ordered) ∙ ap entries c.self.view_is))
