-- Unsigned offsets of 12 bits, times the size of a type.
use Rattle.std.specs.Prelude.{ℕ}
use Rattle.a64_base.specs.declared.ir_type.IrType.{IrType}
use Rattle.a64_imms.specs.declared.offset.UImm12Scaled.{UImm12Scaled}

-- the offset in bytes
abbrev pub uimm12_value : UImm12Scaled → ℕ
uimm12_value imm = imm.value

-- the type whose size in bytes is the scale
abbrev pub uimm12_scale : UImm12Scaled → IrType
uimm12_scale imm = imm.scale_ty
