use Rattle.std.proofs.Common.{◌∙◌, [], length, sym, ap}
use Rattle.std.specs.Prelude.{option_and_then}
use Rattle.std.specs.List.{cons_option}
use Rattle.a64_emit.specs.Bounds.{veneer_range, least}
use Rattle.a64_emit.proofs.UseLists.{ranges_listed, least_two}
use Rattle.a64_emit.proofs.extent.wanting_in.Goals as goal

pub returns-clause-count : goal.returns-clause-count
returns-clause-count c = λ cells is.
    c.count_of.ensures
    ∙ ap (λ o. length (cons_option o (cons_option c.range_of-second.result []))) c.range_of-first.ensures
    ∙ ap (λ o. length (cons_option (option_and_then veneer_range c.args.uses.first) (cons_option o []))) c.range_of-second.ensures
    ∙ ap length (sym (ranges_listed cells c.args.uses is))

pub returns-clause-range : goal.returns-clause-range
returns-clause-range c = λ cells is.
    c.lesser.ensures ∙ least_two c.range_of-first.result c.range_of-second.result
    ∙ ap (λ o. least (cons_option o (cons_option c.range_of-second.result []))) c.range_of-first.ensures
    ∙ ap (λ o. least (cons_option (option_and_then veneer_range c.args.uses.first) (cons_option o []))) c.range_of-second.ensures
    ∙ ap least (sym (ranges_listed cells c.args.uses is))
