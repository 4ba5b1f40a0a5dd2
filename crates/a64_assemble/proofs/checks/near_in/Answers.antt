use Rattle.std.proofs.Common.{◌∙◌, [], sym, ap}
use Rattle.std.specs.Prelude.{◌||◌}
use Rattle.std.specs.List.{cons_option, list_any}
use Rattle.a64_emit.specs.Reach.{is_near}
use Rattle.a64_emit.proofs.UseLists.{near_listed}
use Rattle.a64_assemble.proofs.checks.near_in.Goals as goal

pub returns : goal.returns
returns c = λ cells is.
    ap (λ b. b || c.near_use-2.result) c.near_use.ensures
    ∙ ap (λ b. list_any is_near (cons_option c.args.uses.first []) || b) c.near_use-2.ensures
    ∙ sym (near_listed cells c.args.uses is)
