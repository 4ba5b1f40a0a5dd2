-- Addressing modes: the base and the offset of those that no instruction holds, and what stands for
-- them.
use Rattle.std.specs.Prelude.{ℕ, ℤ, pos, negsuc, ◌≡◌, ◌<◌, ◌+◌, ◌*◌, ◌%◌, ◌^◌, ◌⊎◌, ◌+ℤ◌, ◌-ℤ◌}
use Rattle.std.specs.Prelude.{Bool, true, false, not, ◌&&◌, ◌||◌, nat_lt, nat_le, nat_eq}
use Rattle.std.specs.Prelude.{if◌then◌else◌, Option, Some, None, List, [], ⊤}
use Rattle.a64_base.specs.declared.entity.VCodeConstant.{VCodeConstant}
use Rattle.a64_base.specs.declared.reg.Reg.{Reg}
use Rattle.a64_base.specs.declared.ir_type.IrType.{IrType}
use Rattle.a64_base.specs.declared.ir_type.IrType.TheVariants.{I64}
use Rattle.a64_base.specs.declared.shift.ExtendOp.TheVariants.{SXTX}
use Rattle.a64_base.specs.Registers.{integer_register}
use Rattle.a64_imms.specs.Offsets.{residue}
use Rattle.a64_imms.specs.Scales.{type_bytes}
use Rattle.a64_imms.specs.ScaledOffsets.{uimm12_value, uimm12_scale}
use Rattle.a64_plan.specs.declared.step.ConstStep.{ConstStep}
use Rattle.a64_plan.specs.Plans.{plan_of}
use Rattle.a64_inst.specs.declared.frame.FrameLayout.{FrameLayout}
use Rattle.a64_inst.specs.declared.mode.AMode.{AMode}
use Rattle.a64_inst.specs.declared.mode.AMode.TheVariants.{RegExtended, Unscaled, UnsignedOffset}
use Rattle.a64_inst.specs.declared.mode.AMode.TheVariants.{Label, FPOffset, SPOffset, IncomingArg}
use Rattle.a64_inst.specs.declared.mode.AMode.TheVariants.{SlotOffset, RegOffset, Const}
use Rattle.a64_inst.specs.declared.mode.MemLabel.TheVariants.{Pool}

-- the mode of a register alone: an unsigned offset of 0, in units of 8 bytes
abbrev pub IsRegisterAlone : Reg → AMode → Type 0
IsRegisterAlone reg (UnsignedOffset rn uimm12) =
    (rn ≡ reg) × (uimm12_value uimm12 ≡ 0) × (uimm12_scale uimm12 ≡ I64)
IsRegisterAlone reg _ = ⊥

-- the constant that a load in a mode loads
abbrev pub constant_in : AMode → Option VCodeConstant
constant_in (Const addr) = Some addr
constant_in (Label (Pool addr)) = Some addr
constant_in _ = None

-- ---- base and offset

-- the five areas of a frame together, in bytes
abbrev pub frame_size : FrameLayout → ℕ
frame_size frame =
    frame.setup_area_size + frame.tail_args_size + frame.clobber_size +
    frame.fixed_frame_storage_size + frame.outgoing_args_size

-- a base, and an offset in bytes
pub record BaseOffset : Type 0 where
  pub base : Reg
  pub offset : ℤ

abbrev pub from_stack : ℤ → BaseOffset
from_stack offset = record { base = integer_register 63; offset = offset }

-- base and offset of the five modes that have an offset of 64 bits. Incoming arguments are counted
-- down from the upper end of the frame, and slots from the end of the outgoing arguments
abbrev pub base_offset_of : FrameLayout → AMode → Option BaseOffset
base_offset_of frame (RegOffset rn off) = Some (record { base = rn; offset = off })
base_offset_of frame (SPOffset off) = Some (from_stack off)
base_offset_of frame (FPOffset off) = Some (record { base = integer_register 29; offset = off })
base_offset_of frame (IncomingArg off) = Some (from_stack (pos (frame_size frame) -ℤ off))
base_offset_of frame (SlotOffset off) = Some (from_stack (off +ℤ pos frame.outgoing_args_size))
base_offset_of frame _ = None

-- the frame has fewer than 2^32 bytes where the mode is counted from its upper end
abbrev pub FrameFits : FrameLayout → AMode → Type 0
FrameFits frame (IncomingArg off) = frame_size frame < 2 ^ 32
FrameFits frame _ = ⊤

-- ---- what stands for a base and an offset

-- the widths of accesses, in bytes
abbrev pub IsAccessSize : ℕ → Type 0
IsAccessSize bytes = (bytes ≡ 1) ⊎ (bytes ≡ 2) ⊎ (bytes ≡ 4) ⊎ (bytes ≡ 8) ⊎ (bytes ≡ 16)

-- from -256 to 255
abbrev pub is_offset9 : ℤ → Bool
is_offset9 (pos n) = nat_lt n 256
is_offset9 (negsuc n) = nat_lt n 256

-- a multiple of the access's size, from 0 to 4095 times it
abbrev pub is_scaled_offset : IrType → ℤ → Bool
is_scaled_offset access_ty (pos n) =
    nat_le n (4095 * type_bytes access_ty) && nat_eq (n % type_bytes access_ty) 0
is_scaled_offset access_ty (negsuc n) = false

-- no instruction holds the offset itself
abbrev pub is_far : IrType → ℤ → Bool
is_far access_ty offset = not (is_offset9 offset || is_scaled_offset access_ty offset)

-- the steps that leave an offset in x16: none where an instruction holds the offset itself
abbrev pub steps_to : IrType → ℤ → List ConstStep
steps_to access_ty offset =
    if is_far access_ty offset then plan_of (residue (2 ^ 64) offset) else []

-- the mode that stands for a base and an offset: the signed offset of 9 bits where it is one, else
-- the scaled one where it is one, else x16 as an index
abbrev pub StandsFor : IrType → BaseOffset → AMode → Type 0
StandsFor access_ty place (Unscaled rn simm9) =
    (is_offset9 place.offset ≡ true) × (rn ≡ place.base) × (simm9.value ≡ place.offset)
StandsFor access_ty place (UnsignedOffset rn uimm12) =
    (is_offset9 place.offset ≡ false) × (is_scaled_offset access_ty place.offset ≡ true)
    × (rn ≡ place.base) × (pos (uimm12_value uimm12) ≡ place.offset)
    × (uimm12_scale uimm12 ≡ access_ty)
StandsFor access_ty place (RegExtended rn rm extendop) =
    (is_far access_ty place.offset ≡ true) × (rn ≡ place.base) × (rm ≡ integer_register 16)
    × (extendop ≡ SXTX)
StandsFor access_ty place _ = ⊥
