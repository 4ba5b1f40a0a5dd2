use Rattle.std.proofs.Common.{◌∙◌, ◌≡◌, ◌++◌, [], ◌∷◌, ap, sym, subst}
use Rattle.a64_inst.specs.declared.item.Item.{Item}
use Rattle.a64_inst.specs.declared.item.Item.TheVariants.{Bind, Emit}
use Rattle.a64_cells.specs.Cells.{cells_of, uses_of, listed_uses}
use Rattle.a64_assemble.specs.Tally.{every, alive, IsTally}
use Rattle.a64_assemble.proofs.Tallied.{bind_total, bind_labels, emit_total, emit_labels}
use Rattle.a64_assemble.proofs.tally.count_item.Goals as goal

pub returns-in_ok-insert-in-Bind-clause-total : goal.returns-in_ok-insert-in-Bind-clause-total
returns-in_ok-insert-in-Bind-clause-total c = λ frame flags items is tally live.
    c.saturating_sub.ensures
    ∙ bind_total frame flags c.args.counts.now c.args.live c.count_of_label-gone.result c.in-Bind.label items c.count_of_label-gone.ensures tally live
    ∙ ap (λ (x : Item). alive frame flags every (items ++ x ∷ [])) (sym c.in-Bind.is)

pub returns-in_ok-insert-in-Bind-clause-labels : goal.returns-in_ok-insert-in-Bind-clause-labels
returns-in_ok-insert-in-Bind-clause-labels c = λ frame flags items is tally.
    subst (λ (x : Item). IsTally frame flags (items ++ x ∷ []) c.insert.new.self) (sym c.in-Bind.is)
    (subst (IsTally frame flags (items ++ Bind c.in-Bind.label ∷ [])) (sym c.in_ok-insert-in-Bind.ensures.ok) (bind_labels frame flags c.args.counts.now c.in-Bind.label items tally))

pub returns-in_ok-more-in-Emit-clause-total : goal.returns-in_ok-more-in-Emit-clause-total
returns-in_ok-more-in-Emit-clause-total c = λ frame flags items is tally live.
    emit_total frame flags c.args.live c.in_ok-more-in-Emit.more c.in-Emit.inst c.in-Emit.map items (c.in_ok-more-in-Emit.ensures.total (cells_of frame flags (Emit c.in-Emit.inst c.in-Emit.map)) (subst (λ (x : Item). uses_of 0 (cells_of frame flags x) ≡ listed_uses c.args.uses) c.in-Emit.is is)) live
    ∙ ap (λ (x : Item). alive frame flags every (items ++ x ∷ [])) (sym c.in-Emit.is)

pub returns-in_ok-more-in-Emit-clause-labels : goal.returns-in_ok-more-in-Emit-clause-labels
returns-in_ok-more-in-Emit-clause-labels c = λ frame flags items is tally.
    subst (λ (x : Item). IsTally frame flags (items ++ x ∷ []) c.count_uses.new.counts) (sym c.in-Emit.is)
    (emit_labels frame flags c.args.counts.now c.count_uses.new.counts c.in-Emit.inst c.in-Emit.map items (c.in_ok-more-in-Emit.ensures.labels (cells_of frame flags (Emit c.in-Emit.inst c.in-Emit.map)) (subst (λ (x : Item). uses_of 0 (cells_of frame flags x) ≡ listed_uses c.args.uses) c.in-Emit.is is)) tally)
