-- Which operands and addressing modes loads and stores may have, and which scratch registers they
-- leave alone (Arm Architecture Reference Manual, C3.2: loads and stores).
use Rattle.std.specs.Prelude.{ℕ, ℤ, pos, negsuc, ◌+◌, ◌*◌, ◌%◌, ◌^◌, Bool, true, false, not, ◌&&◌}
use Rattle.std.specs.Prelude.{◌||◌, nat_lt, nat_le, nat_eq, if◌then◌else◌, Option, Some, None}
use Rattle.std.specs.Prelude.{is_none, is_some}
use Rattle.std.specs.Int.RustNames.{unsigned_abs}
use Rattle.a64_base.specs.declared.reg.Reg.{Reg}
use Rattle.a64_base.specs.declared.ir_type.IrType.{IrType}
use Rattle.a64_base.specs.declared.ir_type.IrType.TheVariants.{I8, I64, F64, I8X16}
use Rattle.a64_base.specs.declared.shift.ExtendOp.{ExtendOp}
use Rattle.a64_base.specs.declared.shift.ExtendOp.TheVariants.{UXTW, SXTW, SXTX}
use Rattle.a64_imms.specs.declared.offset.SImm7Scaled.{SImm7Scaled}
use Rattle.a64_imms.specs.declared.offset.UImm12Scaled.{UImm12Scaled}
use Rattle.a64_imms.specs.Scales.{type_bytes}
use Rattle.a64_imms.specs.ScaledOffsets.{uimm12_value, uimm12_scale}
use Rattle.a64_ops.specs.declared.access.AccessOp.{AccessOp}
use Rattle.a64_ops.specs.Accesses.{loads, moves_vector, literal_of}
use Rattle.a64_inst.specs.declared.access.Access.{Access}
use Rattle.a64_inst.specs.declared.frame.FrameLayout.{FrameLayout}
use Rattle.a64_inst.specs.declared.mode.AMode.{AMode}
use Rattle.a64_inst.specs.declared.mode.AMode.TheVariants as modes
use Rattle.a64_inst.specs.declared.mode.MemLabel.{MemLabel}
use Rattle.a64_inst.specs.declared.mode.MemLabel.TheVariants.{PCRel, Mach, Pool}
use Rattle.a64_inst.specs.declared.mode.PairAMode.{PairAMode}
use Rattle.a64_inst.specs.declared.mode.PairAMode.TheVariants as pairs
use Rattle.a64_operand.specs.declared.virtuals.VirtualRegisters.{VirtualRegisters}
use Rattle.a64_operand.specs.Operands.{is_register, is_register_or_zero, is_register_or_stack}
use Rattle.a64_operand.specs.Operands.{is_vector_register, is_offset}
use Rattle.a64_inst.specs.Accesses.{access_type}
use Rattle.a64_inst.specs.Modes.{frame_size, constant_in, base_offset_of, is_offset9}
use Rattle.a64_inst.specs.Addresses.{is_numbered}
use Rattle.a64_inst.specs.FinalModes.{FinalMode, SignedOffset, ScaledOffset, Other, final_mode}
use Rattle.a64_inst.specs.FinalModes.{needs_x16}

-- ---- modes

abbrev pub is_signed_64 : ℤ → Bool
is_signed_64 (pos n) = nat_lt n (2 ^ 63)
is_signed_64 (negsuc n) = nat_lt n (2 ^ 63)

-- the frame has fewer than 2^32 bytes where the mode is counted from its upper end
abbrev pub fits_frame : FrameLayout → AMode → Bool
fits_frame frame (modes.IncomingArg off) = nat_lt (frame_size frame) (2 ^ 32)
fits_frame frame _ = true

-- the offset from the base, where the mode has one of 64 bits, is one
abbrev pub has_offset : FrameLayout → AMode → Bool
has_offset frame mem =
    elim (base_offset_of frame mem) [ None ↦ true | Some place ↦ is_signed_64 place.offset ]

-- the place of a label or of a constant is known later
abbrev pub is_literal : MemLabel → Bool
is_literal (PCRel offset) = is_offset (2 ^ 20) offset
is_literal (Mach label) = true
is_literal (Pool addr) = true

-- the registers and the immediate that stand in a mode: a base may be the stack pointer, and an
-- index the zero register
abbrev pub are_mode_parts : VirtualRegisters → AMode → Bool
are_mode_parts virtuals (modes.RegReg rn rm) =
    is_register_or_stack virtuals rn && is_register_or_zero virtuals rm
are_mode_parts virtuals (modes.RegScaled rn rm) =
    is_register_or_stack virtuals rn && is_register_or_zero virtuals rm
are_mode_parts virtuals (modes.RegScaledExtended rn rm extendop) =
    is_register_or_stack virtuals rn && is_register_or_zero virtuals rm
are_mode_parts virtuals (modes.RegExtended rn rm extendop) =
    is_register_or_stack virtuals rn && is_register_or_zero virtuals rm
are_mode_parts virtuals (modes.Unscaled rn simm9) =
    is_register_or_stack virtuals rn && is_offset9 simm9.value
are_mode_parts virtuals (modes.UnsignedOffset rn uimm12) = is_register_or_stack virtuals rn
are_mode_parts virtuals (modes.Label label) = is_literal label
are_mode_parts virtuals (modes.SPPreIndexed simm9) = is_offset9 simm9.value
are_mode_parts virtuals (modes.SPPostIndexed simm9) = is_offset9 simm9.value
are_mode_parts virtuals (modes.FPOffset off) = true
are_mode_parts virtuals (modes.SPOffset off) = true
are_mode_parts virtuals (modes.IncomingArg off) = true
are_mode_parts virtuals (modes.SlotOffset off) = true
are_mode_parts virtuals (modes.RegOffset rn off) = is_register_or_stack virtuals rn
are_mode_parts virtuals (modes.Const addr) = true

unfoldable pub are_mode_operands : FrameLayout → VirtualRegisters → AMode → Bool
are_mode_operands frame virtuals mem =
    are_mode_parts virtuals mem && (fits_frame frame mem && has_offset frame mem)

-- ---- loads and stores of one register

-- an unsigned offset is in units of so many bytes, or is 0
abbrev pub is_in_units : ℕ → UImm12Scaled → Bool
is_in_units bytes uimm12 =
    nat_eq (uimm12_value uimm12) 0 || nat_eq (type_bytes (uimm12_scale uimm12)) bytes

abbrev pub has_units : ℕ → AMode → Bool
has_units bytes (modes.UnsignedOffset rn uimm12) = is_in_units bytes uimm12
has_units bytes _ = true

abbrev pub is_data_register : VirtualRegisters → AccessOp → Reg → Bool
is_data_register virtuals op reg =
    if moves_vector op then is_vector_register virtuals reg else is_register_or_zero virtuals reg

unfoldable pub are_access_operands : FrameLayout → VirtualRegisters → Access → Bool
are_access_operands frame virtuals access =
    is_data_register virtuals access.op access.reg
    && (are_mode_operands frame virtuals access.mem
    && has_units (type_bytes (access_type access.op)) access.mem)

-- the extensions that an index has in an access
abbrev pub is_index_extend : ExtendOp → Bool
is_index_extend UXTW = true
is_index_extend SXTW = true
is_index_extend SXTX = true
is_index_extend _ = false

-- the modes of an access: a literal or a constant where the operator has a form with a literal, and
-- an index with one of these extensions
abbrev pub has_access_mode : AccessOp → AMode → Bool
has_access_mode op (modes.RegScaledExtended rn rm extendop) = is_index_extend extendop
has_access_mode op (modes.RegExtended rn rm extendop) = is_index_extend extendop
has_access_mode op (modes.Label label) = is_some (literal_of op)
has_access_mode op (modes.Const addr) = is_some (literal_of op)
has_access_mode op _ = true

-- the base of a mode with an offset of 64 bits is the integer register with this number
abbrev pub has_base : ℕ → FrameLayout → AMode → Bool
has_base number frame mem =
    elim (base_offset_of frame mem) [ None ↦ false | Some place ↦ is_numbered number place.base ]

-- where x16 is needed, it is neither the base nor what is stored
unfoldable pub has_access_scratch : FrameLayout → Access → Bool
has_access_scratch frame access =
    not (needs_x16 frame (access_type access.op) access.mem
    && (has_base 16 frame access.mem || (not (loads access.op) && is_numbered 16 access.reg)))

-- the load of a literal is no longer than the constant, where it loads one and that has this size
abbrev pub is_within_size : Option ℕ → Access → Bool
is_within_size size access =
    elim size [ None ↦ true | Some bytes ↦ nat_le (type_bytes (access_type access.op)) bytes ]

abbrev pub is_within : Option ℕ → Access → Bool
is_within size access =
    is_none (constant_in access.mem) || is_none (literal_of access.op) || is_within_size size access

-- ---- pairs

-- a multiple of so many bytes, from -64 to 63 times them
abbrev pub is_pair_offset : ℕ → ℤ → Bool
is_pair_offset bytes (pos n) = nat_le n (63 * bytes) && nat_eq (n % bytes) 0
is_pair_offset bytes (negsuc n) = nat_lt n (64 * bytes) && nat_eq ((n + 1) % bytes) 0

-- the types whose sizes are the units of pairs
abbrev pub is_same_scale : IrType → IrType → Bool
is_same_scale I64 I64 = true
is_same_scale F64 F64 = true
is_same_scale I8X16 I8X16 = true
is_same_scale _ _ = false

-- an offset in units of this type
abbrev pub is_simm7_of : IrType → SImm7Scaled → Bool
is_simm7_of scale simm7 =
    is_same_scale simm7.scale_ty scale && is_pair_offset (type_bytes scale) simm7.value

abbrev pub are_pair_parts : VirtualRegisters → IrType → PairAMode → Bool
are_pair_parts virtuals scale (pairs.SignedOffset reg simm7) =
    is_register_or_stack virtuals reg && is_simm7_of scale simm7
are_pair_parts virtuals scale (pairs.SPPreIndexed simm7) = is_simm7_of scale simm7
are_pair_parts virtuals scale (pairs.SPPostIndexed simm7) = is_simm7_of scale simm7

unfoldable pub are_pair_operands : VirtualRegisters → Reg → Reg → PairAMode → Bool
are_pair_operands virtuals rt rt2 mem =
    (is_register_or_zero virtuals rt && is_register_or_zero virtuals rt2)
    && are_pair_parts virtuals I64 mem

-- a pair of vector registers, with an offset in units of what one of them moves
unfoldable pub are_float_pair_operands : VirtualRegisters → IrType → Reg → Reg → PairAMode → Bool
are_float_pair_operands virtuals scale rt rt2 mem =
    (is_vector_register virtuals rt && is_vector_register virtuals rt2)
    && are_pair_parts virtuals scale mem

-- ---- addresses

-- a mode whose address one addition gives, or two instructions: a base and an offset, or a base and
-- an extended index
abbrev pub has_address_mode : AMode → Bool
has_address_mode (modes.RegReg rn rm) = false
has_address_mode (modes.RegScaled rn rm) = false
has_address_mode (modes.RegScaledExtended rn rm extendop) = false
has_address_mode (modes.Label label) = false
has_address_mode (modes.Const addr) = false
has_address_mode (modes.SPPreIndexed simm9) = false
has_address_mode (modes.SPPostIndexed simm9) = false
has_address_mode _ = true

-- an addition holds the number: below 4096, or a multiple of 4096 below 2^24
abbrev pub is_addend : ℕ → Bool
is_addend n = nat_lt n 4096 || (nat_lt n (2 ^ 24) && nat_eq (n % 4096) 0)

-- the offset of the final mode is no addend, so that x17 is needed for it, and the base is this
-- register
abbrev pub needs_x17_beside : ℕ → FinalMode → Bool
needs_x17_beside number (SignedOffset rn offset) =
    not (is_addend (unsigned_abs offset)) && is_numbered number rn
needs_x17_beside number (ScaledOffset rn offset ty) =
    not (is_addend offset) && is_numbered number rn
needs_x17_beside number (Other mode) = false

abbrev pub needs_x17 : FinalMode → Bool
needs_x17 (SignedOffset rn offset) = not (is_addend (unsigned_abs offset))
needs_x17 (ScaledOffset rn offset ty) = not (is_addend offset)
needs_x17 (Other mode) = false

-- an addition of x17 reads the zero register in the place of the stack pointer
unfoldable pub are_address_operands : FrameLayout → VirtualRegisters → Reg → AMode → Bool
are_address_operands frame virtuals rd mem =
    is_register virtuals rd
    && (are_mode_operands frame virtuals mem
    && not (needs_x17_beside 63 (final_mode frame I8 mem)))

-- where x16 is needed, it is not the base; where x17 is needed, it is neither the base nor the
-- result
unfoldable pub has_address_scratch : FrameLayout → Reg → AMode → Bool
has_address_scratch frame rd mem =
    not (needs_x16 frame I8 mem && has_base 16 frame mem)
    && not (needs_x17_beside 17 (final_mode frame I8 mem)
    || (needs_x17 (final_mode frame I8 mem) && is_numbered 17 rd))
