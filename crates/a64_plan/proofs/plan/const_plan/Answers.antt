use Rattle.std.proofs.Common.{◌<◌, ◌^◌, length, sym, subst, ◌∙◌, arith}
use Rattle.a64_plan.specs.Shapes.{IsShape, Leave, NoneFewer}
use Rattle.a64_plan.proofs.Kept.{plan_kept}
use Rattle.a64_plan.proofs.Shortest.{plan_shortest}
use Rattle.a64_plan.proofs.plan.const_plan.Goals as goal

pub returns-clause-shape : goal.returns-clause-shape
returns-clause-shape c =
    let fits : c.args.value < 2 ^ 64 = omega arith in
    subst IsShape (sym c.plan.ensures) (plan_shortest c.args.value fits).shape

pub returns-clause-value : goal.returns-clause-value
returns-clause-value c =
    let fits : c.args.value < 2 ^ 64 = omega arith in
    subst (λ steps. Leave steps c.args.value) (sym c.plan.ensures) (plan_shortest c.args.value fits).leave

pub returns-clause-least : goal.returns-clause-least
returns-clause-least c =
    let fits : c.args.value < 2 ^ 64 = omega arith in
    subst (λ steps. NoneFewer (length steps) c.args.value) (sym c.plan.ensures) (plan_shortest c.args.value fits).least

pub returns-clause-kept : goal.returns-clause-kept
returns-clause-kept c = λ one. c.plan.ensures ∙ plan_kept c.args.value one
