use Rattle.std.proofs.Common.{get_or, refl, sym, subst, ◌∙◌, ◌+◌, nat_cmp}
use Rattle.std.specs.FinMap.{FinMap}
use Rattle.a64_link.specs.declared.unit.Symbol.{Symbol}
use Rattle.a64_link.proofs.Added.{AreAdded, added_one, is_none}
use Rattle.a64_link.proofs.symbols.add_definitions.Goals as goal

pub loop-define-preserved : goal.loop-define-preserved
loop-define-preserved c =
    let fresh = sym c.in_ok-insert.ensures.old ∙ is_none c.in_ok-insert.field-0 (sym c.is_some.ensures ∙ c.if-is_some.false) in
    subst (λ (m : FinMap nat_cmp Symbol). AreAdded c.args.i c.args.defines.now (c.loop-define.define-index + 1) c.args.symbols.now m) (sym c.in_ok-insert.ensures.ok)
    (added_one c.args.i c.args.defines.now c.loop-define.define-index _ (get_or c.args.defines.now c.loop-define.define-index _) c.args.symbols.now c.loop-define.symbols c.loop-define-test.true refl c.loop-define.invariant fresh)
