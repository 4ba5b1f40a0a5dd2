use Rattle.std.proofs.Common.{◌≡◌, List, ◌∙◌, map, true, None, refl, sym, ap, subst}
use Rattle.std.specs.Prelude.{All, ◌&&◌, not}
use Rattle.std.proofs.lemmas.Bool.{and_parts}
use Rattle.a64_base.specs.declared.ir_type.IrType.TheVariants.{I8}
use Rattle.a64_plan.specs.declared.step.ConstStep.{ConstStep}
use Rattle.a64_inst.specs.declared.mode.AMode.{AMode}
use Rattle.a64_operand.specs.declared.virtuals.VirtualRegisters.TheVariants.{Refused}
use Rattle.a64_inst.specs.FinalModes.{parts_of, final_mode, final_steps}
use Rattle.a64_inst.specs.MemoryOperands.{are_address_operands, are_mode_operands, needs_x17_beside}
use Rattle.a64_operand.specs.Operands.{is_register, is_register_or_stack, is_register_or_zero}
use Rattle.a64_rows.specs.Forms.{form_word}
use Rattle.a64_cells.specs.Shapes.{address_shape}
use Rattle.a64_cells.specs.MemoryForms.{step_forms, offset_register}
use Rattle.a64_cells.specs.Words.{CanStep, AreSeveral}
use Rattle.a64_cells.proofs.Accesses.{can_steps, are_address_parts, address_good}
use Rattle.a64_cells.proofs.Operands.{numbered_real, real, stack_real}
use Rattle.a64_cells.proofs.word.memory.address.address_words.Goals as goal

pub sum_words-requires-clause-rn : goal.sum_words-requires-clause-rn
unfolding are_address_operands
sum_words-requires-clause-rn c =
    let frame = c.args.frame.now in
    let mem = c.args.mem.now in
    let rest = (and_parts (is_register Refused c.args.rd) (are_mode_operands frame Refused mem && not (needs_x17_beside 63 (final_mode frame I8 mem))) c.requires).1 in
    let operands = (and_parts (are_mode_operands frame Refused mem) (not (needs_x17_beside 63 (final_mode frame I8 mem))) rest).0 in
    subst (λ (m : AMode). are_address_parts (parts_of m) ≡ true) c.in-Unscaled.is (ap are_address_parts c.final_mode.ensures ∙ address_good frame mem operands)

pub sum_words-requires-in-UnsignedOffset-clause-rn : goal.sum_words-requires-in-UnsignedOffset-clause-rn
unfolding are_address_operands
sum_words-requires-in-UnsignedOffset-clause-rn c =
    let frame = c.args.frame.now in
    let mem = c.args.mem.now in
    let rest = (and_parts (is_register Refused c.args.rd) (are_mode_operands frame Refused mem && not (needs_x17_beside 63 (final_mode frame I8 mem))) c.requires).1 in
    let operands = (and_parts (are_mode_operands frame Refused mem) (not (needs_x17_beside 63 (final_mode frame I8 mem))) rest).0 in
    subst (λ (m : AMode). are_address_parts (parts_of m) ≡ true) c.in-UnsignedOffset.is (ap are_address_parts c.final_mode.ensures ∙ address_good frame mem operands)

pub step_words-requires-clause-steps : goal.step_words-requires-clause-steps
step_words-requires-clause-steps c =
    subst (λ (plan : List ConstStep). All CanStep plan) (sym c.as_slice.ensures.value)
    (can_steps c.final_steps-steps.result.items c.final_steps-steps.ensures.shape)

pub alu_rrr_extend_word-requires : goal.alu_rrr_extend_word-requires
unfolding are_address_operands
alu_rrr_extend_word-requires c =
    let frame = c.args.frame.now in
    let mem = c.args.mem.now in
    let (numbered, rest) = and_parts (is_register Refused c.args.rd) (are_mode_operands frame Refused mem && not (needs_x17_beside 63 (final_mode frame I8 mem))) c.requires in
    let operands = (and_parts (are_mode_operands frame Refused mem) (not (needs_x17_beside 63 (final_mode frame I8 mem))) rest).0 in
    let parts = subst (λ (m : AMode). are_address_parts (parts_of m) ≡ true) c.in-RegExtended.is (ap are_address_parts c.final_mode.ensures ∙ address_good frame mem operands) in
    let (base, index) = and_parts (is_register_or_stack Refused c.in-RegExtended.rn) (is_register_or_zero Refused c.in-RegExtended.rm) parts in
    record {
      rd = numbered_real c.args.rd numbered;
      rn = stack_real c.in-RegExtended.rn base;
      rm = real c.in-RegExtended.rm index;
    }

pub returns-in-RegExtended : goal.returns-in-RegExtended
returns-in-RegExtended c =
    let frame = c.args.frame.now in
    let mem = c.args.mem.now in
    subst (λ m. AreSeveral c.step_words.result.items c.alu_rrr_extend_word.result None None (address_shape c.args.rd (step_forms offset_register (final_steps frame I8 mem)) m)) (ap parts_of (sym c.in-RegExtended.is) ∙ c.final_mode.ensures) (
      c.step_words.ensures ∙ ap (λ rd. map form_word (step_forms rd c.as_slice.result.now)) c.writable_spilltmp_reg.ensures
          ∙ ap (λ plan. map form_word (step_forms offset_register plan)) (c.as_slice.ensures.value ∙ c.final_steps-steps.ensures.steps),
      c.alu_rrr_extend_word.ensures,
      refl,
      refl,
    )
