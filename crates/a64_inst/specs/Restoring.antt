-- Which instructions have an addressing mode that exists, and their scratch registers; and which a
-- frame can restore.
use Rattle.std.specs.Prelude.{Bool, true, ◌&&◌, None, Some}
use Rattle.std.specs.List.{list_all}
use Rattle.a64_inst.specs.declared.emission.EmitFlags.{EmitFlags}
use Rattle.a64_inst.specs.declared.frame.FrameLayout.{FrameLayout}
use Rattle.a64_operand.specs.declared.virtuals.VirtualRegisters.{VirtualRegisters}
use Rattle.a64_inst.specs.declared.inst.Inst.{Inst}
use Rattle.a64_inst.specs.declared.inst.Inst.TheVariants as insts
use Rattle.a64_inst.specs.AccessTable.{access_of}
use Rattle.a64_inst.specs.CallOperands as calls
use Rattle.a64_inst.specs.Lone.{is_lone}
use Rattle.a64_inst.specs.MemoryOperands as memory
use Rattle.a64_inst.specs.PlainOperands.{has_plain_operands}

-- the addressing mode of an instruction that is no load or store of one register exists, where it
-- has one
abbrev pub has_other_mode : Inst → Bool
has_other_mode (insts.LoadAddr rd mem) = memory.has_address_mode mem
has_other_mode _ = true

-- its addressing mode exists
abbrev pub has_mode : Inst → Bool
has_mode inst =
    elim (access_of inst) [
      | None ↦ has_other_mode inst
      | Some access ↦ memory.has_access_mode access.op access.mem
    ]

-- the scratch registers that the words of such an instruction need are none of its own
abbrev pub has_other_scratch : FrameLayout → Inst → Bool
has_other_scratch frame (insts.LoadAddr rd mem) = memory.has_address_scratch frame rd mem
has_other_scratch frame (insts.ReturnCallInd info) =
    calls.has_return_scratch frame info.dest info.new_stack_arg_size
has_other_scratch frame _ = true

-- the scratch registers that its words need are none of its own
abbrev pub has_scratch : FrameLayout → Inst → Bool
has_scratch frame inst =
    elim (access_of inst) [
      | None ↦ has_other_scratch frame inst
      | Some access ↦ memory.has_access_scratch frame access
    ]

-- what a frame restores is judged by the frame, the settings, and whether registers may be virtual
module _ (frame : FrameLayout) (flags : EmitFlags) (virtuals : VirtualRegisters) where
  -- a frame can restore an instruction: it is one word without a use, and no call, and has no fault
  -- of its operands, its mode and its scratch registers
  abbrev pub can_restore : Inst → Bool
  can_restore inst =
      is_lone frame inst
      && (elim (access_of inst) [
        | None ↦ has_plain_operands frame flags virtuals inst
        | Some access ↦ memory.are_access_operands frame virtuals access
      ]
      && (has_mode inst && has_scratch frame inst))

  -- all that the frame restores
  abbrev pub is_restorable : Bool
  is_restorable = list_all can_restore frame.restore
