-- What is wrong with an instruction by itself.
use Rattle.std.specs.Prelude.{ℕ, Bool, true, false, ◌&&◌, ◌||◌, List, [], ◌∷◌, length, Option, None}
use Rattle.std.specs.Prelude.{Some, is_none, is_some, option_map, option_and_then}
use Rattle.std.specs.Ordering.{nat_cmp}
use Rattle.std.specs.FinMap.{FinMap, get}
use Rattle.a64_base.specs.declared.entity.VCodeConstant.{VCodeConstant}
use Rattle.a64_inst.specs.declared.emission.EmitFlags.{EmitFlags}
use Rattle.a64_inst.specs.declared.frame.FrameLayout.{FrameLayout}
use Rattle.a64_operand.specs.declared.virtuals.VirtualRegisters.{VirtualRegisters}
use Rattle.a64_inst.specs.declared.inst.Inst.{Inst}
use Rattle.a64_inst.specs.declared.fault.OwnFault.{OwnFault}
use Rattle.a64_inst.specs.declared.fault.OwnFault.TheVariants as own
use Rattle.a64_inst.specs.MemoryOperands as memory
use Rattle.a64_inst.specs.AccessTable.{access_of}
use Rattle.a64_inst.specs.Modes.{constant_in}
pub use Rattle.a64_inst.specs.OtherOperands.{has_other_operands}
pub use Rattle.a64_inst.specs.PlainOperands.{has_plain_operands}
pub use Rattle.a64_inst.specs.Restoring.{can_restore, has_mode, has_other_mode, has_other_scratch}
pub use Rattle.a64_inst.specs.Restoring.{has_scratch, is_restorable}

-- the constant that an instruction loads, where it loads one
abbrev pub named_constant : Inst → Option VCodeConstant
named_constant inst = elim (access_of inst) [ None ↦ None | Some access ↦ constant_in access.mem ]

-- the size in bytes of that constant, where it is among these: the bytes of constants by their
-- numbers
abbrev pub constant_size : FinMap nat_cmp (List ℕ) → Inst → Option ℕ
constant_size constants inst =
    option_and_then (λ addr. option_map length (get constants addr.0)) (named_constant inst)

-- the fault of the first test that fails
abbrev pub first_of : List (Bool × OwnFault) → Option OwnFault
first_of [] = None
first_of ((true, fault) ∷ tests) = first_of tests
first_of ((false, fault) ∷ tests) = Some fault

-- operands are judged by the frame, the settings, and whether registers may be virtual
module _ (frame : FrameLayout) (flags : EmitFlags) (virtuals : VirtualRegisters) where
  -- the operands of an instruction are in their sets
  abbrev pub has_operands : Inst → Bool
  has_operands inst =
      elim (access_of inst) [
        | None ↦ has_other_operands frame flags virtuals inst
        | Some access ↦ memory.are_access_operands frame virtuals access
      ]

-- it loads no more than its constant, where it loads one and that has this size
abbrev pub is_within_constant : Option ℕ → Inst → Bool
is_within_constant size inst =
    elim (access_of inst) [ None ↦ true | Some access ↦ memory.is_within size access ]

-- the constant that it loads, where it loads one, is there and has a size
abbrev pub has_constant : Option ℕ → Inst → Bool
has_constant size inst = is_none (named_constant inst) || is_some size

-- what is wrong with an instruction: its operands, its mode, its scratch registers, its constant
abbrev pub fault_with : FrameLayout → EmitFlags → Option ℕ → VirtualRegisters → Inst
    → Option OwnFault
fault_with frame flags size virtuals inst = first_of (
    (has_operands frame flags virtuals inst && is_within_constant size inst, own.BadOperand)
    ∷ (has_mode inst, own.BadMode)
    ∷ (has_scratch frame inst, own.ScratchConflict)
    ∷ (has_constant size inst, own.UnknownConstant) ∷ [])

-- the same, of an instruction that may load these constants
abbrev pub inst_fault : FrameLayout → EmitFlags → FinMap nat_cmp (List ℕ) → VirtualRegisters → Inst
    → Option OwnFault
inst_fault frame flags constants virtuals inst =
    fault_with frame flags (constant_size constants inst) virtuals inst
