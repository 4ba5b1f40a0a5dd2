-- What is wrong with an instruction that is only shown is the first fault that it has by itself, where that counts.
use Rattle.std.proofs.Common.{ℕ, ◌≡◌, ◌+◌, ◌<◌, Bool, true, false, ◌&&◌, List, [], ◌∷◌, length, get_or, drop, Option, option_map, refl, sym, ap, ◌∙◌}
use Rattle.std.specs.Ordering.{nat_cmp}
use Rattle.std.specs.FinMap.{FinMap}
use Rattle.std.proofs.lemmas.List.{drop_more}
use Rattle.a64_inst.specs.declared.emission.EmitFlags.{EmitFlags}
use Rattle.a64_inst.specs.declared.fault.OwnFault.TheVariants as own
use Rattle.a64_inst.specs.declared.frame.FrameLayout.{FrameLayout}
use Rattle.a64_inst.specs.declared.inst.Inst.{Inst}
use Rattle.a64_inst.specs.declared.item.Item.{Item}
use Rattle.a64_operand.specs.declared.virtuals.VirtualRegisters.TheVariants.{Allowed}
use Rattle.a64_inst.specs.Faults.{fault_with, first_of, has_constant, has_mode, has_operands, has_scratch, is_within_constant}
use Rattle.a64_emit.specs.declared.shown.ShownFault.TheVariants as shown
use Rattle.a64_emit.specs.Faults.{or_else}
use Rattle.a64_emit.specs.ShownFaults.{first_shown, shown_error, shown_from, shown_item, shown_of, shown_with}

by_tests : (good mode scratch there : Bool)
    → shown_of (first_of ((good, own.BadOperand) ∷ (mode, own.BadMode) ∷ (scratch, own.ScratchConflict) ∷ (there, own.UnknownConstant) ∷ []))
    ≡ first_shown ((good, shown.BadOperand) ∷ (mode, shown.BadMode) ∷ [])
by_tests false mode scratch there = refl
by_tests true false scratch there = refl
by_tests true true false there = refl
by_tests true true true false = refl
by_tests true true true true = refl

pub shown_first : (frame : FrameLayout) (flags : EmitFlags) (size : Option ℕ) (inst : Inst) → shown_of (fault_with frame flags size Allowed inst) ≡ shown_with frame flags size inst
shown_first frame flags size inst =
    by_tests (has_operands frame flags Allowed inst && is_within_constant size inst) (has_mode inst) (has_scratch frame inst) (has_constant size inst)

module _ (frame : FrameLayout) (flags : EmitFlags) (constants : FinMap nat_cmp (List ℕ)) where
  -- the first fault of the items from one of them on is its own, or else one of those behind it
  pub shown_on : (items : List Item) (i : ℕ) (x : Item) → i < length items → x ≡ get_or items i x
      → shown_from frame flags constants i (drop i items) ≡ or_else (option_map (shown_error i) (shown_item frame flags constants x)) (shown_from frame flags constants (i + 1) (drop (i + 1) items))
  shown_on items i x within is =
      ap (shown_from frame flags constants i) (drop_more items i x within)
      ∙ ap (λ y. or_else (option_map (shown_error i) (shown_item frame flags constants y)) (shown_from frame flags constants (i + 1) (drop (i + 1) items))) (sym is)
