use Rattle.std.proofs.Common.{◌∙◌, false, true, cond, not, None, Some, refl, sym, ap}
use Rattle.std.specs.Option.{option_or}
use Rattle.a64_emit.specs.Faults.{is_among}
use Rattle.a64_assemble.proofs.MissingLabels.{missing_table}
use Rattle.a64_assemble.proofs.checks.missing_entry.Goals as goal

pub returns-in-Some : goal.returns-in-Some
returns-in-Some c = λ labels has.
    ap (λ o. option_or o (cond (not (is_among labels c.args.table.default)) (Some c.args.table.default) None)) (sym c.in-Some.is)
    ∙ missing_table labels c.args.table.default c.args.table.targets.now c.missing_label.result (is_among labels c.args.table.default) (c.missing_label.ensures labels has) refl

pub returns-in-None : goal.returns-in-None
returns-in-None c = λ labels has.
    ap (λ o. option_or o (cond (not true) (Some c.args.table.default) None)) (sym c.in-None.is)
    ∙ missing_table labels c.args.table.default c.args.table.targets.now c.missing_label.result true (c.missing_label.ensures labels has) (sym c.if-contains.true ∙ c.contains.ensures ∙ has c.args.table.default)

pub returns-in-None-2 : goal.returns-in-None-2
returns-in-None-2 c = λ labels has.
    ap (λ o. option_or o (cond (not false) (Some c.args.table.default) None)) (sym c.in-None-2.is)
    ∙ missing_table labels c.args.table.default c.args.table.targets.now c.missing_label.result false (c.missing_label.ensures labels has) (sym c.if-contains.false ∙ c.contains.ensures ∙ has c.args.table.default)
