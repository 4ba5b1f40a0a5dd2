-- The addresses of accesses, over what the registers hold (Arm Architecture Reference Manual,
-- C1.3.3: load/store addressing modes). Nothing here says how an instruction is written.
use Rattle.std.specs.Prelude.{ℕ, ℤ, pos, ◌≡◌, ◌+◌, ◌*◌, ◌%◌, ◌^◌, ◌⊎◌, ◌+ℤ◌, Bool, false, ◌&&◌}
use Rattle.std.specs.Prelude.{nat_eq, if◌then◌else◌, Option, Some, None, option_map, List, []}
use Rattle.a64_base.specs.declared.reg.Reg.{Reg}
use Rattle.a64_base.specs.declared.reg.RegKind.TheVariants.{Real, Virtual}
use Rattle.a64_base.specs.declared.ir_type.IrType.{IrType}
use Rattle.a64_base.specs.declared.shift.ExtendOp.{ExtendOp}
use Rattle.a64_base.specs.declared.shift.ExtendOp.TheVariants.{UXTW, SXTW, SXTX}
use Rattle.a64_base.specs.Registers.{integer_register}
use Rattle.a64_imms.specs.Offsets.{residue, signed}
use Rattle.a64_imms.specs.Scales.{type_bytes}
use Rattle.a64_imms.specs.ScaledOffsets.{uimm12_value}
use Rattle.a64_plan.specs.declared.step.ConstStep.{ConstStep}
use Rattle.a64_plan.specs.Machine.{after_all}
use Rattle.a64_inst.specs.declared.mode.AMode.{AMode}
use Rattle.a64_inst.specs.declared.mode.AMode.TheVariants.{RegReg, RegScaled, RegScaledExtended}
use Rattle.a64_inst.specs.declared.mode.AMode.TheVariants.{RegExtended, Unscaled, UnsignedOffset}
use Rattle.a64_inst.specs.declared.mode.AMode.TheVariants.{SPPreIndexed, SPPostIndexed}
use Rattle.a64_operand.specs.Operands.{is_int}
use Rattle.a64_inst.specs.Modes.{BaseOffset}

-- the integer register with a number
abbrev pub is_numbered : ℕ → Reg → Bool
is_numbered number (Real p) = is_int p.class && nat_eq p.number number
is_numbered number (Virtual index class) = false

-- an index: the zero register is 0
abbrev pub index_in : (Reg → ℕ) → Reg → ℕ
index_in regs rm = if is_numbered 31 rm then 0 else regs rm

-- an extended index. An access has three extensions: of the lower half with zeros or with its sign,
-- and none
abbrev pub extended : ExtendOp → ℕ → Option ℕ
extended UXTW index = Some (index % 2 ^ 32)
extended SXTW index = Some (residue (2 ^ 64) (signed 32 (index % 2 ^ 32)))
extended SXTX index = Some index
extended _ index = None

-- a register plus an offset, modulo 2^64
abbrev pub displaced : (Reg → ℕ) → Reg → ℤ → ℕ
displaced regs rn offset = residue (2 ^ 64) (pos (regs rn) +ℤ offset)

-- a register plus an index in units of so many bytes, modulo 2^64
abbrev pub indexed : (Reg → ℕ) → Reg → ℕ → ℕ → ℕ
indexed regs rn unit index = (regs rn + index * unit) % 2 ^ 64

-- the address of an access in a mode that an instruction holds. Registers do not tell an address in
-- the code, and the modes with an offset of 64 bits stand in no instruction
abbrev pub address_of : IrType → (Reg → ℕ) → AMode → Option ℕ
address_of access_ty regs (RegReg rn rm) = Some (indexed regs rn 1 (index_in regs rm))
address_of access_ty regs (RegScaled rn rm) =
    Some (indexed regs rn (type_bytes access_ty) (index_in regs rm))
address_of access_ty regs (RegScaledExtended rn rm extendop) =
    option_map (indexed regs rn (type_bytes access_ty)) (extended extendop (index_in regs rm))
address_of access_ty regs (RegExtended rn rm extendop) =
    option_map (indexed regs rn 1) (extended extendop (index_in regs rm))
address_of access_ty regs (Unscaled rn simm9) = Some (displaced regs rn simm9.value)
address_of access_ty regs (UnsignedOffset rn uimm12) =
    Some (displaced regs rn (pos (uimm12_value uimm12)))
address_of access_ty regs (SPPreIndexed simm9) =
    Some (displaced regs (integer_register 63) simm9.value)
address_of access_ty regs (SPPostIndexed simm9) =
    Some (displaced regs (integer_register 63) (pos 0))
address_of access_ty regs _ = None

-- what the registers hold after steps into x16
abbrev pub after_steps : List ConstStep → (Reg → ℕ) → Reg → ℕ
after_steps steps regs reg = if is_numbered 16 reg then after_all steps (regs reg) else regs reg

-- behind the steps, an access in the mode has the address of base plus offset modulo 2^64, whatever
-- the registers held before; unless the base is x16 and there are steps, which overwrite it
abbrev pub Reaches : IrType → BaseOffset → List ConstStep → AMode → Type 0
Reaches access_ty place steps mode =
    (regs : Reg → ℕ) → (steps ≡ []) ⊎ (is_numbered 16 place.base ≡ false)
    → address_of access_ty (after_steps steps regs) mode
    ≡ Some (displaced regs place.base place.offset)
