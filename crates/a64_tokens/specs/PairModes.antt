-- Addressing modes of pairs at a scale, and as lines have them.
use Rattle.std.specs.Prelude.{ℤ, ◌≡◌}
use Rattle.a64_base.specs.declared.ir_type.IrType.{IrType}
use Rattle.a64_imms.specs.declared.offset.SImm7Scaled.{SImm7Scaled}
use Rattle.a64_imms.specs.Offsets.{IsPairOffset}
use Rattle.a64_inst.specs.declared.mode.PairAMode.{PairAMode}
use Rattle.a64_inst.specs.declared.mode.PairAMode.TheVariants as pair_modes
use Rattle.a64_tokens.specs.declared.pair_mode.WrittenPairMode.{WrittenPairMode}
use Rattle.a64_tokens.specs.declared.pair_mode.WrittenPairMode.TheVariants as written

-- the mode as a line has it
abbrev pub written_pair : PairAMode → WrittenPairMode
written_pair (pair_modes.SignedOffset reg simm7) = written.SignedOffset reg simm7.value
written_pair (pair_modes.SPPreIndexed simm7) = written.SPPreIndexed simm7.value
written_pair (pair_modes.SPPostIndexed simm7) = written.SPPostIndexed simm7.value

-- an offset that the constructor gives at the scale
abbrev pub IsOffsetAt : IrType → SImm7Scaled → Type 0
IsOffsetAt scale imm = IsPairOffset scale imm.value × (imm.scale_ty ≡ scale)

-- the offset of a mode
abbrev pub pair_imm : PairAMode → SImm7Scaled
pair_imm (pair_modes.SignedOffset reg simm7) = simm7
pair_imm (pair_modes.SPPreIndexed simm7) = simm7
pair_imm (pair_modes.SPPostIndexed simm7) = simm7

-- a mode whose offset is one that the constructor gives at the scale
abbrev pub IsPairAt : IrType → PairAMode → Type 0
IsPairAt scale mode = IsOffsetAt scale (pair_imm mode)

-- ---- the other way

abbrev pub written_offset : WrittenPairMode → ℤ
written_offset (written.SignedOffset reg offset) = offset
written_offset (written.SPPreIndexed offset) = offset
written_offset (written.SPPostIndexed offset) = offset

-- the mode with this offset in place of its own
abbrev pub with_offset : WrittenPairMode → SImm7Scaled → PairAMode
with_offset (written.SignedOffset reg offset) simm7 = pair_modes.SignedOffset reg simm7
with_offset (written.SPPreIndexed offset) simm7 = pair_modes.SPPreIndexed simm7
with_offset (written.SPPostIndexed offset) simm7 = pair_modes.SPPostIndexed simm7
