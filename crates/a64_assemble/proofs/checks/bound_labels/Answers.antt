use Rattle.std.proofs.Common.{◌≡◌, ◌∙◌, ◌+◌, ap, sym, subst, refl, false}
use Rattle.std.specs.Prelude.{is_some}
use Rattle.std.specs.FinMap.{contains_key}
use Rattle.a64_assemble.proofs.Bindings.{IsScanned, scanned_none, scanned_other, scanned_bind}
use Rattle.a64_assemble.proofs.checks.bound_labels.Goals as goal

pub loop-item-init : goal.loop-item-init
loop-item-init c = scanned_none c.args.items.now c.new-bound.result c.new-bound.ensures

pub loop-item-preserved-in_default : goal.loop-item-preserved-in_default
loop-item-preserved-in_default c = scanned_other c.args.items.now c.loop-item.item-index c.loop-item.bound c.item-item.result _ c.loop-item-test.true (sym c.item-item.is ∙ c.in_default.is) refl c.loop-item.invariant

pub loop-item-preserved : goal.loop-item-preserved
loop-item-preserved c =
    let fresh : contains_key c.loop-item.bound c.in-Bind.label.0 ≡ false = ap is_some (sym c.in_ok-insert.ensures.old) ∙ sym c.is_some.ensures ∙ c.if-is_some.false in
    subst (IsScanned c.args.items.now (c.loop-item.item-index + 1)) (sym c.in_ok-insert.ensures.ok)
    (scanned_bind c.args.items.now c.loop-item.item-index c.loop-item.bound c.item-item.result _ c.in-Bind.label c.loop-item-test.true (sym c.item-item.is ∙ c.in-Bind.is) refl fresh _ c.loop-item.invariant)
