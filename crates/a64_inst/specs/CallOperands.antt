-- Which operands calls may have, and returns that call another function.
use Rattle.std.specs.Prelude.{ℕ, ◌-◌, ◌%◌, ◌^◌, Bool, not, ◌&&◌, nat_le, nat_lt, nat_eq, List}
use Rattle.std.specs.List.{list_all}
use Rattle.a64_base.specs.declared.reg.Reg.{Reg}
use Rattle.a64_inst.specs.declared.call.CallArgPair.{CallArgPair}
use Rattle.a64_inst.specs.declared.call.CallRetPair.{CallRetPair}
use Rattle.a64_inst.specs.declared.call.RetLocation.{RetLocation}
use Rattle.a64_inst.specs.declared.call.RetLocation.TheVariants as locations
use Rattle.a64_inst.specs.declared.frame.FrameLayout.{FrameLayout}
use Rattle.a64_operand.specs.declared.virtuals.VirtualRegisters.{VirtualRegisters}
use Rattle.a64_inst.specs.Accesses.{type_has_load_form, load_op}
use Rattle.a64_inst.specs.Addresses.{is_numbered}
use Rattle.a64_inst.specs.MemoryOperands.{is_data_register, is_addend}
use Rattle.a64_operand.specs.Operands.{is_any_register}

-- the registers of what is passed are of either class
abbrev pub are_call_uses : VirtualRegisters → List CallArgPair → Bool
are_call_uses virtuals uses =
    list_all (λ pair. is_any_register virtuals pair.vreg && is_any_register virtuals pair.preg) uses

-- and those of a result in a register; one on the stack is loaded by one load, into a register for
-- its type other than x16, which the address may need
abbrev pub is_result_at : VirtualRegisters → Reg → RetLocation → Bool
is_result_at virtuals vreg (locations.Reg preg ty) =
    is_any_register virtuals vreg && is_any_register virtuals preg
is_result_at virtuals vreg (locations.Stack offset ty) =
    type_has_load_form ty
    && (is_data_register virtuals (load_op ty) vreg && not (is_numbered 16 vreg))

abbrev pub are_call_defs : VirtualRegisters → List CallRetPair → Bool
are_call_defs virtuals defs = list_all (λ pair. is_result_at virtuals pair.vreg pair.location) defs

-- of a call, beside its address
unfoldable pub are_call_operands : VirtualRegisters → List CallArgPair → List CallRetPair → ℕ → Bool
are_call_operands virtuals uses defs pop =
    are_call_uses virtuals uses && (are_call_defs virtuals defs && nat_lt pop (2 ^ 31))

-- the saved frame pointer and return address are restored by one load of a pair, and the arguments
-- stand in the area for those of tail calls
abbrev pub has_return_frame : FrameLayout → ℕ → Bool
has_return_frame frame size =
    nat_eq (frame.setup_area_size % 8) 0 && (nat_le frame.setup_area_size 504
    && (nat_le size frame.tail_args_size && nat_lt (frame.tail_args_size - size) (2 ^ 31)))

-- of a return that calls, beside its address, where what the frame restores is judged already
unfoldable pub are_return_operands : FrameLayout → VirtualRegisters → Bool → List CallArgPair → ℕ
    → Bool
are_return_operands frame virtuals restorable uses size =
    are_call_uses virtuals uses && (has_return_frame frame size && restorable)

-- no addition holds by how much the stack pointer moves, so that x16 is needed for it
abbrev pub needs_x16_to_adjust : FrameLayout → ℕ → Bool
needs_x16_to_adjust frame size = not (is_addend (frame.tail_args_size - size))

-- x16 is not where the call goes, where it is needed
unfoldable pub has_return_scratch : FrameLayout → Reg → ℕ → Bool
has_return_scratch frame dest size = not (needs_x16_to_adjust frame size && is_numbered 16 dest)
