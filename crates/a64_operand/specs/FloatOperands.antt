-- What must hold of the operands of instructions on scalar floats, beside the classes of their
-- registers (Arm Architecture Reference Manual, C7.2).
use Rattle.std.specs.Prelude.{ℕ, Bool, true, false, ◌&&◌, nat_lt, nat_le, nat_eq}
use Rattle.a64_base.specs.declared.reg.Reg.{Reg}
use Rattle.a64_base.specs.declared.size.ScalarSize.{ScalarSize}
use Rattle.a64_base.specs.declared.size.ScalarSize.TheVariants.{Size8, Size16, Size32, Size64}
use Rattle.a64_base.specs.declared.size.ScalarSize.TheVariants.{Size128}
use Rattle.a64_base.specs.declared.size.VectorSize.{VectorSize}
use Rattle.a64_base.specs.ScalarSizes.{has_ftype}
use Rattle.a64_base.specs.VectorSizes.{has_float_lanes}
use Rattle.a64_imms.specs.declared.asimd_fp.ASIMDFPModImm.{ASIMDFPModImm}
use Rattle.a64_imms.specs.declared.fpu_shift.FPULeftShiftImm.{FPULeftShiftImm}
use Rattle.a64_imms.specs.declared.fpu_shift.FPURightShiftImm.{FPURightShiftImm}
use Rattle.a64_ops.specs.declared.float.FPUOp1.{FPUOp1}
use Rattle.a64_ops.specs.declared.float.FPUOp1.TheVariants.{Abs, Neg, Sqrt, Cvt32To64, Cvt64To32}
use Rattle.a64_operand.specs.declared.fpu_op.FPUOpRI.{FPUOpRI}
use Rattle.a64_operand.specs.declared.fpu_op.FPUOpRI.TheVariants.{UShr32, UShr64}
use Rattle.a64_operand.specs.declared.fpu_op.FPUOpRIMod.{FPUOpRIMod}
use Rattle.a64_operand.specs.declared.fpu_op.FPUOpRIMod.TheVariants.{Sli32, Sli64}
use Rattle.a64_operand.specs.Operands.{is_lane, is_same_register}

-- ---- sizes

abbrev pub is_same_scalar : ScalarSize → ScalarSize → Bool
is_same_scalar Size8 Size8 = true
is_same_scalar Size16 Size16 = true
is_same_scalar Size32 Size32 = true
is_same_scalar Size64 Size64 = true
is_same_scalar Size128 Size128 = true
is_same_scalar _ _ = false

-- a conversion is there at the size of its operand alone, the others at each size of floats
abbrev pub is_fpu_op1_at : FPUOp1 → ScalarSize → Bool
is_fpu_op1_at Abs scalar = has_ftype scalar
is_fpu_op1_at Neg scalar = has_ftype scalar
is_fpu_op1_at Sqrt scalar = has_ftype scalar
is_fpu_op1_at Cvt32To64 scalar = is_same_scalar scalar Size32
is_fpu_op1_at Cvt64To32 scalar = is_same_scalar scalar Size64

-- a lane of 32 or 64 bits of a whole register
abbrev pub is_float_lane : VectorSize → ℕ → Bool
is_float_lane size idx = has_float_lanes size && is_lane size idx

-- ---- immediates

-- the amount of a right shift of a lane of so many bits: from 1 to the lane's bits
abbrev pub is_right_shift_of : ℕ → FPURightShiftImm → Bool
is_right_shift_of lane imm =
    nat_eq imm.lane_size_in_bits lane && (nat_lt 0 imm.amount && nat_le imm.amount lane)

abbrev pub is_right_shift : FPUOpRI → Bool
is_right_shift (UShr32 imm) = is_right_shift_of 32 imm
is_right_shift (UShr64 imm) = is_right_shift_of 64 imm

-- the amount of a left shift of a lane of so many bits: below the lane's bits
abbrev pub is_left_shift_of : ℕ → FPULeftShiftImm → Bool
is_left_shift_of lane imm = nat_eq imm.lane_size_in_bits lane && nat_lt imm.amount lane

abbrev pub is_left_shift : FPUOpRIMod → Bool
is_left_shift (Sli32 imm) = is_left_shift_of 32 imm
is_left_shift (Sli64 imm) = is_left_shift_of 64 imm

-- the register of which the bits below stay is the result's
abbrev pub is_kept_shift : Reg → Reg → FPUOpRIMod → Bool
is_kept_shift rd ri op = is_same_register rd ri && is_left_shift op

-- an immediate float is one of the size, which has some, by eight bits
abbrev pub is_float_imm_of : ScalarSize → ASIMDFPModImm → Bool
is_float_imm_of size imm = has_ftype size && (is_same_scalar imm.size size && nat_lt imm.imm 256)
