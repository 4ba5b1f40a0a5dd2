-- The sizes of integer operands.
use Rattle.std.specs.Prelude.{ℕ, ◌-◌, ◌^◌, nat_le, if◌then◌else◌, Bool, true, false}
use Rattle.a64_base.specs.declared.ir_type.IrType.{IrType}
use Rattle.a64_base.specs.declared.ir_type.IrType.TheVariants.{I32, I64}
use Rattle.a64_base.specs.declared.size.OperandSize.{OperandSize}
use Rattle.a64_base.specs.declared.size.OperandSize.TheVariants.{Size32, Size64}

-- whether a size is 32 bits, and whether it is 64
abbrev pub is_32_bits : OperandSize → Bool
is_32_bits Size32 = true
is_32_bits Size64 = false

abbrev pub is_64_bits : OperandSize → Bool
is_64_bits Size32 = false
is_64_bits Size64 = true

-- the bits of a size
abbrev pub operand_bits : OperandSize → ℕ
operand_bits Size32 = 32
operand_bits Size64 = 64

-- the bit `sf` of an instruction
abbrev pub sf_of : OperandSize → ℕ
sf_of Size32 = 0
sf_of Size64 = 1

-- the integer type of a size
abbrev pub operand_type : OperandSize → IrType
operand_type Size32 = I32
operand_type Size64 = I64

-- the largest unsigned value of a size
abbrev pub largest_operand : OperandSize → ℕ
largest_operand Size32 = 2 ^ 32 - 1
largest_operand Size64 = 2 ^ 64 - 1

-- the smallest size with so many bits, at most 64
abbrev pub operand_of_bits : ℕ → OperandSize
operand_of_bits bits = if nat_le bits 32 then Size32 else Size64
