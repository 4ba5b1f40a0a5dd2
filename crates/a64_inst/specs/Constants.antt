-- The instructions of a constant's plan.
use Rattle.std.specs.Prelude.{ℕ, ◌≡◌, None, List, All}
use Rattle.std.specs.Ordering.{nat_cmp}
use Rattle.std.specs.FinMap.{FinMap}
use Rattle.a64_base.specs.declared.reg.Reg.{Reg}
use Rattle.a64_base.specs.Registers.{integer_register}
use Rattle.a64_ops.specs.declared.operator.ALUOp.TheVariants as alu
use Rattle.a64_ops.specs.declared.operator.MoveWideOp.TheVariants as wide
use Rattle.a64_plan.specs.declared.step.ConstStep.{ConstStep}
use Rattle.a64_plan.specs.declared.step.ConstStep.TheVariants as steps
use Rattle.a64_inst.specs.declared.emission.EmitFlags.{EmitFlags}
use Rattle.a64_inst.specs.declared.frame.FrameLayout.{FrameLayout}
use Rattle.a64_operand.specs.declared.virtuals.VirtualRegisters.{VirtualRegisters}
use Rattle.a64_inst.specs.declared.inst.Inst.{Inst}
use Rattle.a64_inst.specs.declared.inst.Inst.TheVariants.{MovWide, MovK, AluRRImmLogic}
use Rattle.a64_inst.specs.Faults.{inst_fault}

-- a step as an instruction into a register. A movk keeps the rest of the register itself, and an
-- orr takes the zero register.
abbrev pub step_into : Reg → ConstStep → Inst
step_into rd (steps.MovZ imm size) = MovWide wide.MovZ rd imm size
step_into rd (steps.MovN imm size) = MovWide wide.MovN rd imm size
step_into rd (steps.MovK imm size) = MovK rd rd imm size
step_into rd (steps.Orr imm) = AluRRImmLogic alu.Orr imm.size rd (integer_register 31) imm

-- no instruction has a fault of its own, under any frame and settings
abbrev pub HaveNoFault : List Inst → Type 0
HaveNoFault insts =
    (frame : FrameLayout) (flags : EmitFlags) (constants : FinMap nat_cmp (List ℕ))
    (virtuals : VirtualRegisters)
    → All (λ inst. inst_fault frame flags constants virtuals inst ≡ None) insts
