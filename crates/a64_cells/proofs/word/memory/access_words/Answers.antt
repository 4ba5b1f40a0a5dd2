use Rattle.std.proofs.Common.{◌≡◌, List, ◌∙◌, map, true, sym, ap, subst}
use Rattle.std.specs.Prelude.{All, ◌&&◌}
use Rattle.std.proofs.lemmas.Bool.{and_parts}
use Rattle.a64_imms.specs.Scales.{type_bytes}
use Rattle.a64_plan.specs.declared.step.ConstStep.{ConstStep}
use Rattle.a64_operand.specs.declared.virtuals.VirtualRegisters.TheVariants.{Refused}
use Rattle.a64_inst.specs.declared.access.Access.{Access}
use Rattle.a64_inst.specs.Accesses.{access_type}
use Rattle.a64_inst.specs.FinalModes.{final_mode, final_steps}
use Rattle.a64_inst.specs.MemoryOperands.{are_access_operands, are_mode_operands, has_access_mode, is_data_register, has_units}
use Rattle.a64_rows.specs.Forms.{form_word}
use Rattle.a64_cells.specs.MemoryForms.{step_forms, offset_register, held_form}
use Rattle.a64_cells.specs.Cells.{access_shape}
use Rattle.a64_cells.specs.Words.{AreSeveral, CanStep, are_held_parts}
use Rattle.a64_cells.proofs.Accesses.{can_steps, held_good}
use Rattle.a64_cells.proofs.word.memory.access_words.Goals as goal

pub step_words-requires-clause-steps : goal.step_words-requires-clause-steps
step_words-requires-clause-steps c =
    subst (λ (plan : List ConstStep). All CanStep plan) (sym c.as_slice.ensures.value)
    (can_steps c.final_steps-steps.result.items c.final_steps-steps.ensures.shape)

pub held_word-requires-clause-mode : goal.held_word-requires-clause-mode
unfolding are_access_operands
held_word-requires-clause-mode c =
    let access : Access = record { op = c.access.inside.op; reg = c.access.inside.reg; mem = c.access.inside.mem.now; flags = c.access.inside.flags } in
    let frame = c.args.frame.now in
    let parts = (and_parts (is_data_register Refused access.op access.reg) (are_mode_operands frame Refused access.mem && has_units (type_bytes (access_type access.op)) access.mem) (ap (are_access_operands frame Refused) c.access.view_is ∙ c.requires.operands)).1 in
    let (operands, units) = and_parts (are_mode_operands frame Refused access.mem) (has_units (type_bytes (access_type access.op)) access.mem) parts in
    subst (λ m. are_held_parts access.op m ≡ true) (sym (c.final_mode-mode.ensures ∙ ap (λ ty. final_mode frame ty access.mem) (c.ty-ty.ensures ∙ sym (ap (λ (a : Access). access_type a.op) c.access.view_is))))
    (held_good access.op frame access.mem operands units (ap (λ (a : Access). has_access_mode a.op a.mem) c.access.view_is ∙ c.requires.mode))

pub returns : goal.returns
returns c =
    let access : Access = record { op = c.access.inside.op; reg = c.access.inside.reg; mem = c.access.inside.mem.now; flags = c.access.inside.flags } in
    let frame = c.args.frame.now in
    subst (λ (a : Access). AreSeveral c.step_words.result.items c.held_word.result c.mode_site.result c.trap_code.result (access_shape frame a)) c.access.view_is (
      c.step_words.ensures ∙ ap (λ rd. map form_word (step_forms rd c.as_slice.result.now)) c.writable_spilltmp_reg.ensures
          ∙ ap (λ plan. map form_word (step_forms offset_register plan)) (c.as_slice.ensures.value ∙ c.final_steps-steps.ensures.steps ∙ ap (λ ty. final_steps frame ty access.mem) (c.ty-ty.ensures ∙ sym (ap (λ (a : Access). access_type a.op) c.access.view_is))),
      c.held_word.ensures ∙ ap (λ m. form_word (held_form access.op access.reg m)) (c.final_mode-mode.ensures ∙ ap (λ ty. final_mode frame ty access.mem) (c.ty-ty.ensures ∙ sym (ap (λ (a : Access). access_type a.op) c.access.view_is))),
      c.mode_site.ensures,
      c.trap_code.ensures,
    )
