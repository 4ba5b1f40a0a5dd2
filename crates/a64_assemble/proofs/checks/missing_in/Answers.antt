use Rattle.std.proofs.Common.{◌∙◌, [], None, refl, sym, ap}
use Rattle.std.specs.List.{cons_option, filter_map}
use Rattle.std.specs.Option.{option_or}
use Rattle.a64_emit.specs.Faults.{first_missing, used_label}
use Rattle.a64_emit.proofs.UseLists.{listed_labels}
use Rattle.a64_assemble.proofs.MissingLabels.{missing_parts}
use Rattle.a64_assemble.proofs.checks.missing_in.Goals as goal

pub returns-in-Some : goal.returns-in-Some
returns-in-Some c = λ labels has cells is.
    let second = first_missing labels (filter_map used_label (cons_option c.args.uses.second [])) in
    let entry = first_missing labels (listed_labels c.args.uses.table) in
    ap (λ o. option_or (option_or o second) entry) (sym c.in-Some.is)
    ∙ missing_parts labels cells c.args.uses c.missing.result second entry is (c.missing.ensures labels has) refl refl

pub returns-in-Some-missing : goal.returns-in-Some-missing
returns-in-Some-missing c = λ labels has cells is.
    let entry = first_missing labels (listed_labels c.args.uses.table) in
    ap (λ o. option_or (option_or None o) entry) (sym c.in-Some-missing.is)
    ∙ ap (λ o. option_or (option_or o c.missing-2.result) entry) (sym c.in_default.is)
    ∙ missing_parts labels cells c.args.uses c.missing.result c.missing-2.result entry is (c.missing.ensures labels has) (c.missing-2.ensures labels has) refl

pub returns-in_err-uses : goal.returns-in_err-uses
returns-in_err-uses c = λ labels has cells is.
    c.from_residual.ensures
    ∙ ap (λ o. option_or (option_or None o) None) (sym c.in_default-missing.is)
    ∙ ap (λ o. option_or (option_or o c.missing-2.result) None) (sym c.in_default.is)
    ∙ missing_parts labels cells c.args.uses c.missing.result c.missing-2.result None is (c.missing.ensures labels has) (c.missing-2.ensures labels has) (ap (λ o. first_missing labels (listed_labels o)) (sym c.in_err-uses.was))

pub returns : goal.returns
returns c = λ labels has cells is.
    ap (λ o. option_or (option_or None o) c.missing_entry.result) (sym c.in_default-missing.is)
    ∙ ap (λ o. option_or (option_or o c.missing-2.result) c.missing_entry.result) (sym c.in_default.is)
    ∙ missing_parts labels cells c.args.uses c.missing.result c.missing-2.result c.missing_entry.result is (c.missing.ensures labels has) (c.missing-2.ensures labels has)
    (c.missing_entry.ensures labels has ∙ ap (λ o. first_missing labels (listed_labels o)) (sym c.in_ok-uses.was))
