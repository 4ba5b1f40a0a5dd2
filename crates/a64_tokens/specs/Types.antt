-- The names of types, and those that scale an offset.
use Rattle.std.specs.Prelude.{ℕ, List, codes, Bool, true, false}
use Rattle.a64_base.specs.declared.ir_type.IrType.{IrType}
use Rattle.a64_base.specs.declared.ir_type.IrType.TheVariants as types

abbrev pub type_text : IrType → List ℕ
type_text types.I8 = codes "i8"
type_text types.I16 = codes "i16"
type_text types.I32 = codes "i32"
type_text types.I64 = codes "i64"
type_text types.I128 = codes "i128"
type_text types.F16 = codes "f16"
type_text types.F32 = codes "f32"
type_text types.F64 = codes "f64"
type_text types.F128 = codes "f128"
type_text types.I8X2 = codes "i8x2"
type_text types.I8X4 = codes "i8x4"
type_text types.I8X8 = codes "i8x8"
type_text types.I8X16 = codes "i8x16"
type_text types.I16X2 = codes "i16x2"
type_text types.I16X4 = codes "i16x4"
type_text types.I16X8 = codes "i16x8"
type_text types.I32X2 = codes "i32x2"
type_text types.I32X4 = codes "i32x4"
type_text types.I64X2 = codes "i64x2"
type_text types.F16X4 = codes "f16x4"
type_text types.F16X8 = codes "f16x8"
type_text types.F32X2 = codes "f32x2"
type_text types.F32X4 = codes "f32x4"
type_text types.F64X2 = codes "f64x2"
type_text types.I8X32 = codes "i8x32"

-- the types whose sizes scale an unsigned offset: a text says no other
abbrev pub is_scale : IrType → Bool
is_scale types.I8 = true
is_scale types.I16 = true
is_scale types.I32 = true
is_scale types.I64 = true
is_scale types.I8X16 = true
is_scale _ = false
