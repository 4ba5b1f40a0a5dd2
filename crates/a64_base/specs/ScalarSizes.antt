-- The sizes of scalars in vector registers. Where a table has a row for a size without a meaning,
-- the test before it says which sizes have one, and that row is not read.
use Rattle.std.specs.Prelude.{ℕ, Bool, true, false, IsTrue}
use Rattle.a64_base.specs.declared.ir_type.IrType.{IrType}
use Rattle.a64_base.specs.declared.ir_type.IrType.TheVariants.{I8, I16, I32, I64, I128}
use Rattle.a64_base.specs.declared.size.OperandSize.{OperandSize}
use Rattle.a64_base.specs.declared.size.OperandSize.TheVariants as operands
use Rattle.a64_base.specs.declared.size.ScalarSize.{ScalarSize}
use Rattle.a64_base.specs.declared.size.ScalarSize.TheVariants.{Size8, Size16, Size32, Size64}
use Rattle.a64_base.specs.declared.size.ScalarSize.TheVariants.{Size128}

-- a scalar of at most 64 bits fits an integer operand
abbrev pub has_operand_size : ScalarSize → Bool
has_operand_size Size8 = true
has_operand_size Size16 = true
has_operand_size Size32 = true
has_operand_size Size64 = true
has_operand_size Size128 = false

abbrev pub HasOperandSize : ScalarSize → Type 0
HasOperandSize size = IsTrue (has_operand_size size)

abbrev pub scalar_operand : ScalarSize → OperandSize
scalar_operand Size8 = operands.Size32
scalar_operand Size16 = operands.Size32
scalar_operand Size32 = operands.Size32
scalar_operand Size64 = operands.Size64
scalar_operand Size128 = operands.Size32

-- the field `ftype`, which a float of 16, 32 or 64 bits has
abbrev pub has_ftype : ScalarSize → Bool
has_ftype Size8 = false
has_ftype Size16 = true
has_ftype Size32 = true
has_ftype Size64 = true
has_ftype Size128 = false

abbrev pub HasFtype : ScalarSize → Type 0
HasFtype size = IsTrue (has_ftype size)

abbrev pub ftype_of : ScalarSize → ℕ
ftype_of Size8 = 0
ftype_of Size16 = 3
ftype_of Size32 = 0
ftype_of Size64 = 1
ftype_of Size128 = 0

-- the next larger size
abbrev pub is_widenable : ScalarSize → Bool
is_widenable Size8 = true
is_widenable Size16 = true
is_widenable Size32 = true
is_widenable Size64 = true
is_widenable Size128 = false

abbrev pub IsWidenable : ScalarSize → Type 0
IsWidenable size = IsTrue (is_widenable size)

abbrev pub wider : ScalarSize → ScalarSize
wider Size8 = Size16
wider Size16 = Size32
wider Size32 = Size64
wider Size64 = Size128
wider Size128 = Size128

-- the next smaller size
abbrev pub is_narrowable : ScalarSize → Bool
is_narrowable Size8 = false
is_narrowable Size16 = true
is_narrowable Size32 = true
is_narrowable Size64 = true
is_narrowable Size128 = true

abbrev pub IsNarrowable : ScalarSize → Type 0
IsNarrowable size = IsTrue (is_narrowable size)

abbrev pub narrower : ScalarSize → ScalarSize
narrower Size8 = Size8
narrower Size16 = Size8
narrower Size32 = Size16
narrower Size64 = Size32
narrower Size128 = Size64

-- the integer type of a size
abbrev pub scalar_type : ScalarSize → IrType
scalar_type Size8 = I8
scalar_type Size16 = I16
scalar_type Size32 = I32
scalar_type Size64 = I64
scalar_type Size128 = I128
