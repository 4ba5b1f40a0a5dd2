-- The operands of the words of calls are in their sets.
use Rattle.std.proofs.Common.{ℕ, ℤ, pos, ◌≡◌, ◌≤◌, ◌%◌, ◌^◌, Bool, true, List}
use Rattle.std.specs.Prelude.{◌&&◌, nat_eq, nat_le, nat_lt}
use Rattle.std.proofs.lemmas.Bool.{and_from, and_parts, eq-eqb, eqb-true, le-leb, leb-true}
use Rattle.a64_base.specs.declared.ir_type.IrType.TheVariants.{I64}
use Rattle.a64_base.specs.declared.reg.Reg.{Reg}
use Rattle.a64_base.specs.Registers.{integer_register}
use Rattle.a64_inst.specs.declared.call.CallArgPair.{CallArgPair}
use Rattle.a64_inst.specs.declared.call.CallRetPair.{CallRetPair}
use Rattle.a64_inst.specs.declared.frame.FrameLayout.{FrameLayout}
use Rattle.a64_inst.specs.declared.mode.PairAMode.TheVariants.{SPPostIndexed}
use Rattle.a64_operand.specs.declared.virtuals.VirtualRegisters.TheVariants.{Refused}
use Rattle.a64_inst.specs.CallOperands.{are_call_defs, are_call_operands, are_call_uses, are_return_operands, has_return_frame}
use Rattle.a64_inst.specs.MemoryOperands.{are_pair_operands}

-- the saved frame pointer and return address are restored
pub frame_good : (rt rt2 : Reg) (setup : ℕ) (amount : ℤ) → rt ≡ integer_register 29 → rt2 ≡ integer_register 30 → amount ≡ pos setup → setup ≤ 504 → setup % 8 ≡ 0
    → are_pair_operands Refused rt rt2 (SPPostIndexed (record { value = amount; scale_ty = I64 })) ≡ true
unfolding are_pair_operands
frame_good rt rt2 setup amount first second same small aligned = rw (first, second, same) (and_from (nat_le setup 504) (nat_eq (setup % 8) 0) (le-leb setup 504 small) (eq-eqb (setup % 8) 0 aligned))

-- ---- operands of calls

-- the results of a call without a fault
pub call_results : (uses : List CallArgPair) (defs : List CallRetPair) (pop : ℕ) → are_call_operands Refused uses defs pop ≡ true → are_call_defs Refused defs ≡ true
unfolding are_call_operands
call_results uses defs pop good =
    (and_parts (are_call_defs Refused defs) (nat_lt pop (2 ^ 31)) (and_parts (are_call_uses Refused uses) (are_call_defs Refused defs && nat_lt pop (2 ^ 31)) good).1).0

-- the frame of a return that calls, and what it restores
pub return_frame : (frame : FrameLayout) (restorable : Bool) (uses : List CallArgPair) (size : ℕ) → are_return_operands frame Refused restorable uses size ≡ true → has_return_frame frame size ≡ true
unfolding are_return_operands
return_frame frame restorable uses size good =
    (and_parts (has_return_frame frame size) restorable (and_parts (are_call_uses Refused uses) (has_return_frame frame size && restorable) good).1).0

pub return_restorable : (frame : FrameLayout) (restorable : Bool) (uses : List CallArgPair) (size : ℕ) → are_return_operands frame Refused restorable uses size ≡ true → restorable ≡ true
unfolding are_return_operands
return_restorable frame restorable uses size good =
    (and_parts (has_return_frame frame size) restorable (and_parts (are_call_uses Refused uses) (has_return_frame frame size && restorable) good).1).1

-- a frame that such a return may leave
pub record IsReturnFrame (frame : FrameLayout) (size : ℕ) : Type 0 where
  pub aligned : frame.setup_area_size % 8 ≡ 0
  pub small : frame.setup_area_size ≤ 504
  pub within : size ≤ frame.tail_args_size

pub frame_parts : (frame : FrameLayout) (size : ℕ) → has_return_frame frame size ≡ true → IsReturnFrame frame size
frame_parts frame size good =
    let (aligned, others) = and_parts (nat_eq (frame.setup_area_size % 8) 0) _ good in
    let (small, rest) = and_parts (nat_le frame.setup_area_size 504) _ others in
    record {
      aligned = eqb-true (frame.setup_area_size % 8) 0 aligned;
      small = leb-true frame.setup_area_size 504 small;
      within = leb-true size frame.tail_args_size (and_parts (nat_le size frame.tail_args_size) _ rest).0;
    }
