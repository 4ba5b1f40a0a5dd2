-- What is wrong with an instruction that is only shown.
use Rattle.std.specs.Prelude.{ℕ, ◌+◌, Bool, true, false, ◌&&◌, List, [], ◌∷◌, Option, None, Some}
use Rattle.std.specs.Prelude.{option_map}
use Rattle.std.specs.Ordering.{nat_cmp}
use Rattle.std.specs.FinMap.{FinMap}
use Rattle.a64_inst.specs.declared.emission.EmitFlags.{EmitFlags}
use Rattle.a64_inst.specs.declared.frame.FrameLayout.{FrameLayout}
use Rattle.a64_inst.specs.declared.inst.Inst.{Inst}
use Rattle.a64_inst.specs.declared.fault.OwnFault.{OwnFault}
use Rattle.a64_inst.specs.declared.fault.OwnFault.TheVariants as own
use Rattle.a64_operand.specs.declared.virtuals.VirtualRegisters.TheVariants.{Allowed}
use Rattle.a64_inst.specs.Faults.{constant_size, has_mode, has_operands, is_within_constant}
use Rattle.a64_inst.specs.declared.item.Item.{Item}
use Rattle.a64_inst.specs.declared.item.Item.TheVariants.{Bind, Emit}
use Rattle.a64_emit.specs.declared.error.EmitError.{EmitError}
use Rattle.a64_emit.specs.declared.error.EmitError.TheVariants.{BadOperand, BadMode}
use Rattle.a64_emit.specs.declared.shown.ShownFault.{ShownFault}
use Rattle.a64_emit.specs.declared.shown.ShownFault.TheVariants as shown
use Rattle.a64_emit.specs.Faults.{or_else}

-- the fault of the first test that fails
abbrev pub first_shown : List (Bool × ShownFault) → Option ShownFault
first_shown [] = None
first_shown ((true, fault) ∷ tests) = first_shown tests
first_shown ((false, fault) ∷ tests) = Some fault

-- what is wrong with an instruction that is only shown, whose registers may be virtual: its
-- operands, among them that it loads no more than its constant, where that has this size; and its
-- mode
abbrev pub shown_with : FrameLayout → EmitFlags → Option ℕ → Inst → Option ShownFault
shown_with frame flags size inst = first_shown (
    (has_operands frame flags Allowed inst && is_within_constant size inst, shown.BadOperand)
    ∷ (has_mode inst, shown.BadMode) ∷ [])

-- the same, of an instruction that may load these constants
abbrev pub shown_fault : FrameLayout → EmitFlags → FinMap nat_cmp (List ℕ) → Inst
    → Option ShownFault
shown_fault frame flags constants inst = shown_with frame flags (constant_size constants inst) inst

-- a fault of an instruction by itself, where it counts for one that is only shown
abbrev pub shown_of : Option OwnFault → Option ShownFault
shown_of None = None
shown_of (Some own.BadOperand) = Some shown.BadOperand
shown_of (Some own.BadMode) = Some shown.BadMode
shown_of (Some own.ScratchConflict) = None
shown_of (Some own.UnknownConstant) = None

-- the refusal because of such a fault of the item with this number
abbrev pub shown_error : ℕ → ShownFault → EmitError
shown_error i shown.BadOperand = BadOperand i
shown_error i shown.BadMode = BadMode i

module _ (frame : FrameLayout) (flags : EmitFlags) (constants : FinMap nat_cmp (List ℕ)) where
  -- what is wrong with an item that is only shown
  abbrev pub shown_item : Item → Option ShownFault
  shown_item (Bind label) = None
  shown_item (Emit inst map) = shown_fault frame flags constants inst

  -- the first such fault of items, of which the first has this number
  abbrev pub shown_from : ℕ → List Item → Option EmitError
  shown_from n [] = None
  shown_from n (item ∷ items) =
      or_else (option_map (shown_error n) (shown_item item)) (shown_from (n + 1) items)

  abbrev pub first_shown_fault : List Item → Option EmitError
  first_shown_fault items = shown_from 0 items
