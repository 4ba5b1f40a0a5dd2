use Rattle.std.proofs.Common.{◌∙◌, [], refl, sym, ap}
use Rattle.std.specs.List.{cons_option, filter_map}
use Rattle.std.specs.Option.{option_or}
use Rattle.a64_emit.specs.Faults.{first_missing, used_label}
use Rattle.a64_assemble.proofs.MissingLabels.{missing_pair}
use Rattle.a64_assemble.proofs.checks.missing_in_two.Goals as goal

pub returns-in-Some : goal.returns-in-Some
returns-in-Some c = λ labels has cells is.
    let second = first_missing labels (filter_map used_label (cons_option c.args.second [])) in
    ap (λ o. option_or o second) (sym c.in-Some.is)
    ∙ missing_pair labels cells c.args.first c.args.second c.missing.result second is (c.missing.ensures labels has) refl

pub returns-in-None : goal.returns-in-None
returns-in-None c = λ labels has cells is.
    ap (λ o. option_or o c.missing-in-None.result) (sym c.in-None.is)
    ∙ missing_pair labels cells c.args.first c.args.second c.missing.result c.missing-in-None.result is (c.missing.ensures labels has) (c.missing-in-None.ensures labels has)
