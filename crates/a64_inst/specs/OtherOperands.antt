-- Written by `python3 tools/instructions.py` from tables/instructions.txt.
-- What must hold of the operands of an instruction that is no load or store of one register.
use Rattle.std.specs.Prelude.{Bool, ◌&&◌}
use Rattle.a64_inst.specs.declared.emission.EmitFlags.{EmitFlags}
use Rattle.a64_inst.specs.declared.frame.FrameLayout.{FrameLayout}
use Rattle.a64_operand.specs.declared.virtuals.VirtualRegisters.{VirtualRegisters}
use Rattle.a64_inst.specs.declared.inst.Inst.{Inst}
use Rattle.a64_inst.specs.declared.inst.Inst.TheVariants as insts
use Rattle.a64_operand.specs.Operands.{is_register_or_zero}
use Rattle.a64_inst.specs.CallOperands as calls
use Rattle.a64_inst.specs.PlainOperands.{has_plain_operands}
use Rattle.a64_inst.specs.Restoring.{is_restorable}

-- they are judged by the frame, the settings, and whether registers may be virtual
module _ (frame : FrameLayout) (flags : EmitFlags) (virtuals : VirtualRegisters) where
  abbrev pub has_other_operands : Inst → Bool
  has_other_operands (insts.Call info) =
      calls.are_call_operands virtuals info.uses info.defs info.callee_pop_size
  has_other_operands (insts.CallInd info) =
      is_register_or_zero virtuals info.dest
      && calls.are_call_operands virtuals info.uses info.defs info.callee_pop_size
  has_other_operands (insts.ReturnCall info) =
      calls.are_return_operands frame virtuals (is_restorable frame flags virtuals) info.uses
      info.new_stack_arg_size
  has_other_operands (insts.ReturnCallInd info) =
      is_register_or_zero virtuals info.dest && calls.are_return_operands frame virtuals
      (is_restorable frame flags virtuals) info.uses info.new_stack_arg_size
  has_other_operands inst = has_plain_operands frame flags virtuals inst
