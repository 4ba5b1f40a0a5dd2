-- The addressing mode that stands in an instruction, and the steps before it.
use Rattle.std.specs.Prelude.{ℕ, ℤ, Bool, true, false, if◌then◌else◌, Some, None, List, []}
use Rattle.std.specs.Int.RustNames.{unsigned_abs}
use Rattle.a64_base.specs.declared.reg.Reg.{Reg}
use Rattle.a64_base.specs.declared.ir_type.IrType.{IrType}
use Rattle.a64_base.specs.declared.shift.ExtendOp.TheVariants.{SXTX}
use Rattle.a64_base.specs.Registers.{integer_register}
use Rattle.a64_imms.specs.ScaledOffsets.{uimm12_value, uimm12_scale}
use Rattle.a64_plan.specs.declared.step.ConstStep.{ConstStep}
use Rattle.a64_inst.specs.declared.frame.FrameLayout.{FrameLayout}
use Rattle.a64_inst.specs.declared.mode.AMode.{AMode}
use Rattle.a64_inst.specs.declared.mode.AMode.TheVariants.{RegExtended, Unscaled, UnsignedOffset}
use Rattle.a64_inst.specs.declared.mode.AMode.TheVariants.{Label, Const}
use Rattle.a64_inst.specs.declared.mode.MemLabel.TheVariants.{Pool}
use Rattle.a64_inst.specs.Modes.{BaseOffset, base_offset_of, is_offset9, is_scaled_offset, is_far}
use Rattle.a64_inst.specs.Modes.{steps_to}

-- a mode as its parts: a base with a signed offset of 9 bits, in bytes; a base with an unsigned
-- offset, in bytes, and the type whose size is its unit; or another mode, of which nothing is
-- hidden
pub data FinalMode : Type 0 where
  SignedOffset : Reg → ℤ → FinalMode
  ScaledOffset : Reg → ℕ → IrType → FinalMode
  Other : AMode → FinalMode

-- the parts of a mode
abbrev pub parts_of : AMode → FinalMode
parts_of (Unscaled rn simm9) = SignedOffset rn simm9.value
parts_of (UnsignedOffset rn uimm12) = ScaledOffset rn (uimm12_value uimm12) (uimm12_scale uimm12)
parts_of mode = Other mode

-- what stands for a base and an offset: the signed offset of 9 bits where it is one, else the
-- scaled one where it is one, else x16 as an index
abbrev pub placed_mode : IrType → BaseOffset → FinalMode
placed_mode access_ty place =
    if is_offset9 place.offset then SignedOffset place.base place.offset
    else if is_scaled_offset access_ty place.offset
    then ScaledOffset place.base (unsigned_abs place.offset) access_ty
    else Other (RegExtended place.base (integer_register 16) SXTX)

-- what stands for another mode: itself, but in code a constant is a literal in the pool
abbrev pub held_mode : Bool → AMode → AMode
held_mode for_code (Const addr) = if for_code then Label (Pool addr) else Const addr
held_mode for_code mode = mode

-- the mode that stands in the instruction of an access, in code or where it is only shown
abbrev pub mode_for : Bool → FrameLayout → IrType → AMode → FinalMode
mode_for for_code frame access_ty mem =
    elim (base_offset_of frame mem) [
      | None ↦ parts_of (held_mode for_code mem)
      | Some place ↦ placed_mode access_ty place
    ]

-- in code
abbrev pub final_mode : FrameLayout → IrType → AMode → FinalMode
final_mode frame access_ty mem = mode_for true frame access_ty mem

-- the steps before it, into x16
abbrev pub final_steps : FrameLayout → IrType → AMode → List ConstStep
final_steps frame access_ty mem =
    elim (base_offset_of frame mem) [ None ↦ [] | Some place ↦ steps_to access_ty place.offset ]

-- whether there are such steps, so that x16 is needed
abbrev pub needs_x16 : FrameLayout → IrType → AMode → Bool
needs_x16 frame access_ty mem =
    elim (base_offset_of frame mem) [ None ↦ false | Some place ↦ is_far access_ty place.offset ]
