use Rattle.std.proofs.Common.{◌∙◌, ◌+◌, take, refl, sym, subst}
use Rattle.a64_assemble.specs.Tally.{HasBindings}
use Rattle.a64_assemble.proofs.Indices.{indexed_none, indexed_other, indexed_bind}
use Rattle.a64_assemble.proofs.reach.bindings_of.Goals as goal

pub loop-index-init : goal.loop-index-init
loop-index-init c = indexed_none c.new-bindings.result c.new-bindings.ensures

pub loop-index-preserved-in_default : goal.loop-index-preserved-in_default
loop-index-preserved-in_default c =
    indexed_other c.args.items.now c.loop-index.index c.index-items-index.result _ c.loop-index-test.true (sym c.index-items-index.is ∙ c.in_default.is) c.loop-index.bindings c.loop-index.invariant (λ label. refl)

pub loop-index-preserved : goal.loop-index-preserved
loop-index-preserved c =
    subst (HasBindings (take (c.loop-index.index + 1) c.args.items.now)) (sym c.in_ok-insert.ensures.ok)
    (indexed_bind c.args.items.now c.loop-index.index c.index-items-index.result _ c.loop-index-test.true (sym c.index-items-index.is ∙ c.in-Bind.is) c.loop-index.bindings c.loop-index.invariant c.in-Bind.label refl c.requires.once)
