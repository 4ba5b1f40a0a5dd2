use Rattle.std.proofs.Common.{sym, refl, ◌∙◌}
use Rattle.a64_cells.specs.IntegerForms.{mov_form, alu_rr_imm12_form, alu_rrr_form}
use Rattle.a64_cells.proofs.Operands.{stack_field}
use Rattle.a64_cells.proofs.word.plain.register.mov_word.Goals as goal

pub returns-then-is_stack_pointer : goal.returns-then-is_stack_pointer
unfolding mov_form alu_rr_imm12_form
returns-then-is_stack_pointer c = c.alu_rr_imm12_word.ensures ∙ rw (sym c.is_stack_pointer.ensures ∙ c.if-is_stack_pointer.true, stack_field c.args.rm (sym c.is_stack_pointer.ensures ∙ c.if-is_stack_pointer.true)) refl

pub returns-else-is_stack_pointer : goal.returns-else-is_stack_pointer
unfolding mov_form alu_rrr_form
returns-else-is_stack_pointer c = c.alu_rrr_word.ensures ∙ rw (sym c.is_stack_pointer.ensures ∙ c.if-is_stack_pointer.false, c.zero_reg.ensures) refl
