use Rattle.std.proofs.Common.{Some, refl, sym, ap, ◌∙◌, arith}
use Rattle.a64_imms.specs.Runs.{width}
use Rattle.a64_imms.proofs.Table.{is_searched, same_run}
use Rattle.a64_imms.proofs.run.Run.find.Goals as goal

pub returns-then-even-eq0-clause-found : goal.returns-then-even-eq0-clause-found
returns-then-even-eq0-clause-found c = λ run is e.
    let found = is_searched run is c.args.value c.made_even-even.result _ _ _ e c.made_even-even.ensures refl refl refl in
    absurd (omega (arith, found.nonzero))

pub returns-then-rotate_right-value-clause-found : goal.returns-then-rotate_right-value-clause-found
returns-then-rotate_right-value-clause-found c = λ run is e.
    let ways = c.lowest_stretch-stretch.ensures in
    let found = is_searched run is c.args.value c.made_even-even.result _ _ _ e c.made_even-even.ensures ways.start ways.length ways.spacing in
    absurd (c.if-rotate_right-value.true (c.rotate_right.ensures ∙ found.repeats))

pub returns-in_default-clause-found : goal.returns-in_default-clause-found
returns-in_default-clause-found c = λ run is e.
    let ways = c.lowest_stretch-stretch.ensures in
    let found = is_searched run is c.args.value c.made_even-even.result _ _ _ e c.made_even-even.ensures ways.start ways.length ways.spacing in
    absurd (c.in_default.ensures run.period (sym found.spacing_is))

pub returns-clause-found : goal.returns-clause-found
returns-clause-found c = λ run is e.
    let ways = c.lowest_stretch-stretch.ensures in
    let found = is_searched run is c.args.value c.made_even-even.result _ _ _ e c.made_even-even.ensures ways.start ways.length ways.spacing in
    let is_at = c.run_at.ensures in
    ap Some (same_run c.run_at.result run
    (ap width is_at.period ∙ c.in-Some.ensures ∙ found.spacing_is)
    (is_at.ones ∙ found.ones_is)
    (is_at.turn ∙ found.turn_is))
