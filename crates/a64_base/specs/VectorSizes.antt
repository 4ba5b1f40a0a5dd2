-- The lanes of vector registers.
use Rattle.std.specs.Prelude.{ℕ, Bool, true, false, IsTrue}
use Rattle.a64_base.specs.declared.size.OperandSize.{OperandSize}
use Rattle.a64_base.specs.declared.size.OperandSize.TheVariants as operands
use Rattle.a64_base.specs.declared.size.ScalarSize.{ScalarSize}
use Rattle.a64_base.specs.declared.size.ScalarSize.TheVariants.{Size8, Size16, Size32, Size64}
use Rattle.a64_base.specs.declared.size.ScalarSize.TheVariants.{Size128}
use Rattle.a64_base.specs.declared.size.VectorSize.{VectorSize}
use Rattle.a64_base.specs.declared.size.VectorSize.TheVariants.{Size8x8, Size8x16, Size16x4}
use Rattle.a64_base.specs.declared.size.VectorSize.TheVariants.{Size16x8, Size32x2, Size32x4}
use Rattle.a64_base.specs.declared.size.VectorSize.TheVariants.{Size64x2}

-- the size of a lane
abbrev pub lane_of : VectorSize → ScalarSize
lane_of Size8x8 = Size8
lane_of Size8x16 = Size8
lane_of Size16x4 = Size16
lane_of Size16x8 = Size16
lane_of Size32x2 = Size32
lane_of Size32x4 = Size32
lane_of Size64x2 = Size64

-- whether the lanes fill 128 bits
abbrev pub is_full : VectorSize → Bool
is_full Size8x8 = false
is_full Size8x16 = true
is_full Size16x4 = false
is_full Size16x8 = true
is_full Size32x2 = false
is_full Size32x4 = true
is_full Size64x2 = true

-- whether there is a vector with such lanes, of 128 bits or of 64
abbrev pub is_vector : ScalarSize → Bool → Bool
is_vector Size8 full = true
is_vector Size16 full = true
is_vector Size32 full = true
is_vector Size64 full = full
is_vector Size128 full = false

abbrev pub IsVector : ScalarSize → Bool → Type 0
IsVector size full = IsTrue (is_vector size full)

-- the vector of the same width with lanes of 8 bits
abbrev pub byte_lanes : VectorSize → VectorSize
byte_lanes Size8x8 = Size8x8
byte_lanes Size8x16 = Size8x16
byte_lanes Size16x4 = Size8x8
byte_lanes Size16x8 = Size8x16
byte_lanes Size32x2 = Size8x8
byte_lanes Size32x4 = Size8x16
byte_lanes Size64x2 = Size8x16

-- the integer operand that holds a lane
abbrev pub lane_operand : VectorSize → OperandSize
lane_operand Size8x8 = operands.Size32
lane_operand Size8x16 = operands.Size32
lane_operand Size16x4 = operands.Size32
lane_operand Size16x8 = operands.Size32
lane_operand Size32x2 = operands.Size32
lane_operand Size32x4 = operands.Size32
lane_operand Size64x2 = operands.Size64

-- the field `Q` of a vector instruction, which tells 128 bits from 64
abbrev pub q_of : VectorSize → ℕ
q_of Size8x8 = 0
q_of Size8x16 = 1
q_of Size16x4 = 0
q_of Size16x8 = 1
q_of Size32x2 = 0
q_of Size32x4 = 1
q_of Size64x2 = 1

-- the field `size` of a vector instruction
abbrev pub lane_field : VectorSize → ℕ
lane_field Size8x8 = 0
lane_field Size8x16 = 0
lane_field Size16x4 = 1
lane_field Size16x8 = 1
lane_field Size32x2 = 2
lane_field Size32x4 = 2
lane_field Size64x2 = 3

-- the field `sz` of a floating-point vector instruction, whose lanes have 32 or 64 bits. Its row
-- for other lanes is not read
abbrev pub has_float_lanes : VectorSize → Bool
has_float_lanes Size8x8 = false
has_float_lanes Size8x16 = false
has_float_lanes Size16x4 = false
has_float_lanes Size16x8 = false
has_float_lanes Size32x2 = true
has_float_lanes Size32x4 = true
has_float_lanes Size64x2 = true

abbrev pub HasFloatLanes : VectorSize → Type 0
HasFloatLanes size = IsTrue (has_float_lanes size)

abbrev pub float_field : VectorSize → ℕ
float_field Size8x8 = 0
float_field Size8x16 = 0
float_field Size16x4 = 0
float_field Size16x8 = 0
float_field Size32x2 = 0
float_field Size32x4 = 0
float_field Size64x2 = 1
