use Rattle.std.proofs.Common.{List, [], ◌∷◌, ◌++◌, map, inr, sym, ap, ap₂, ◌∙◌, subst}
use Rattle.std.specs.Prelude.{All}
use Rattle.a64_plan.specs.declared.step.ConstStep.{ConstStep}
use Rattle.a64_plan.specs.Plans.{plan_of}
use Rattle.a64_rows.specs.Forms.{form_word}
use Rattle.a64_cells.specs.MemoryForms.{step_forms}
use Rattle.a64_cells.specs.Words.{CanStep}
use Rattle.a64_cells.proofs.Adjustments.{far_words}
use Rattle.a64_cells.proofs.Accesses.{can_steps}
use Rattle.a64_cells.proofs.word.call.push_far_adjust.Goals as goal

pub step_words-steps-requires-clause-steps : goal.step_words-steps-requires-clause-steps
step_words-steps-requires-clause-steps c =
    subst (λ (plan : List ConstStep). All CanStep plan) (sym c.as_slice.ensures.value)
    (can_steps c.const_plan-plan.result.items (inr c.const_plan-plan.ensures.shape))

pub returns-clause-words : goal.returns-clause-words
returns-clause-words c =
    let before = c.args.words.now.items in
    c.push.ensures.items
    ∙ ap (λ ws. ws ++ c.far_adjust_word.result ∷ []) (c.push_all.ensures ∙ ap (λ ws. before ++ ws) c.as_slice-2.ensures.value)
    ∙ far_words before c.step_words-steps.result.items c.args.op (plan_of c.args.amount) c.far_adjust_word.result
    (c.step_words-steps.ensures
    ∙ ap₂ (λ rd plan. map form_word (step_forms rd plan)) c.writable_spilltmp_reg.ensures (c.as_slice.ensures.value ∙ (c.const_plan-plan.ensures.plan ∙ ap plan_of c.from.ensures)))
    c.far_adjust_word.ensures
