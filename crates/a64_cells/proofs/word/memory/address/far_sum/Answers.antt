use Rattle.std.proofs.Common.{List, sym, subst, inr}
use Rattle.std.specs.Prelude.{All}
use Rattle.a64_plan.specs.declared.step.ConstStep.{ConstStep}
use Rattle.a64_cells.specs.Words.{CanStep}
use Rattle.a64_cells.proofs.Accesses.{can_steps}
use Rattle.a64_cells.proofs.word.memory.address.far_sum.Goals as goal

pub step_words-requires-clause-steps : goal.step_words-requires-clause-steps
step_words-requires-clause-steps c =
    subst (λ (plan : List ConstStep). All CanStep plan) (sym c.as_slice.ensures.value)
    (can_steps c.const_plan-plan.result.items (inr c.const_plan-plan.ensures.shape))
