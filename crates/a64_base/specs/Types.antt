-- The types of values.
use Rattle.std.specs.Prelude.{ℕ, Bool, true, false}
use Rattle.a64_base.specs.declared.ir_type.IrType.{IrType}
use Rattle.a64_base.specs.declared.ir_type.IrType.TheVariants.{I8, I16, I32, I64, I128, F16, F32}
use Rattle.a64_base.specs.declared.ir_type.IrType.TheVariants.{F64, F128, I8X2, I8X4, I8X8, I8X16}
use Rattle.a64_base.specs.declared.ir_type.IrType.TheVariants.{I16X2, I16X4, I16X8, I32X2, I32X4}
use Rattle.a64_base.specs.declared.ir_type.IrType.TheVariants.{I64X2, F16X4, F16X8, F32X2, F32X4}
use Rattle.a64_base.specs.declared.ir_type.IrType.TheVariants.{F64X2, I8X32}

-- the width of a type in bits
abbrev pub type_bits : IrType → ℕ
type_bits I8 = 8
type_bits I16 = 16
type_bits I32 = 32
type_bits I64 = 64
type_bits I128 = 128
type_bits F16 = 16
type_bits F32 = 32
type_bits F64 = 64
type_bits F128 = 128
type_bits I8X2 = 16
type_bits I8X4 = 32
type_bits I8X8 = 64
type_bits I8X16 = 128
type_bits I16X2 = 32
type_bits I16X4 = 64
type_bits I16X8 = 128
type_bits I32X2 = 64
type_bits I32X4 = 128
type_bits I64X2 = 128
type_bits F16X4 = 64
type_bits F16X8 = 128
type_bits F32X2 = 64
type_bits F32X4 = 128
type_bits F64X2 = 128
type_bits I8X32 = 256

-- whether a type has lanes
abbrev pub is_vector_type : IrType → Bool
is_vector_type I8 = false
is_vector_type I16 = false
is_vector_type I32 = false
is_vector_type I64 = false
is_vector_type I128 = false
is_vector_type F16 = false
is_vector_type F32 = false
is_vector_type F64 = false
is_vector_type F128 = false
is_vector_type I8X2 = true
is_vector_type I8X4 = true
is_vector_type I8X8 = true
is_vector_type I8X16 = true
is_vector_type I16X2 = true
is_vector_type I16X4 = true
is_vector_type I16X8 = true
is_vector_type I32X2 = true
is_vector_type I32X4 = true
is_vector_type I64X2 = true
is_vector_type F16X4 = true
is_vector_type F16X8 = true
is_vector_type F32X2 = true
is_vector_type F32X4 = true
is_vector_type F64X2 = true
is_vector_type I8X32 = true

-- whether a type is one float
abbrev pub is_float_type : IrType → Bool
is_float_type I8 = false
is_float_type I16 = false
is_float_type I32 = false
is_float_type I64 = false
is_float_type I128 = false
is_float_type F16 = true
is_float_type F32 = true
is_float_type F64 = true
is_float_type F128 = true
is_float_type I8X2 = false
is_float_type I8X4 = false
is_float_type I8X8 = false
is_float_type I8X16 = false
is_float_type I16X2 = false
is_float_type I16X4 = false
is_float_type I16X8 = false
is_float_type I32X2 = false
is_float_type I32X4 = false
is_float_type I64X2 = false
is_float_type F16X4 = false
is_float_type F16X8 = false
is_float_type F32X2 = false
is_float_type F32X4 = false
is_float_type F64X2 = false
is_float_type I8X32 = false
