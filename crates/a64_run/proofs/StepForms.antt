-- The form of a step into x16 is that of emission.
use Rattle.std.proofs.Common.{◌≡◌, refl}
use Rattle.a64_base.specs.Registers.{integer_register}
use Rattle.a64_plan.specs.declared.step.ConstStep.{ConstStep}
use Rattle.a64_plan.specs.declared.step.ConstStep.TheVariants.{MovZ, MovN, MovK, Orr}
use Rattle.a64_cells.specs.IntegerForms.{mov_wide_form, mov_k_form, alu_rr_imm_logic_form}
use Rattle.a64_cells.specs.MemoryForms as emission
use Rattle.a64_stubs.specs.Words.{step_form}

pub same_form : (step : ConstStep) → step_form step ≡ emission.step_form (integer_register 16) step
unfolding mov_wide_form mov_k_form alu_rr_imm_logic_form
same_form (MovZ imm size) = refl
same_form (MovN imm size) = refl
same_form (MovK imm size) = refl
same_form (Orr imm) = refl
