-- The fields of instructions on scalar floats that operators and sizes give, and the forms of these
-- instructions (Arm Architecture Reference Manual, DDI 0487, C4.1, "Data Processing -- Scalar
-- Floating-Point and Advanced SIMD"). PlainForms says which instruction has which.
use Rattle.std.specs.Prelude.{ℕ, ◌+◌, ◌-◌, ◌*◌}
use Rattle.a64_base.specs.declared.cond.Cond.{Cond}
use Rattle.a64_base.specs.declared.reg.Reg.{Reg}
use Rattle.a64_base.specs.declared.size.ScalarSize.{ScalarSize}
use Rattle.a64_base.specs.declared.size.ScalarSize.TheVariants.{Size8, Size16, Size32, Size64}
use Rattle.a64_base.specs.declared.size.ScalarSize.TheVariants.{Size128}
use Rattle.a64_base.specs.declared.size.VectorSize.{VectorSize}
use Rattle.a64_base.specs.Conditions.{condition_bits}
use Rattle.a64_base.specs.ScalarSizes.{ftype_of}
use Rattle.a64_base.specs.VectorSizes.{lane_of}
use Rattle.a64_imms.specs.declared.asimd_fp.ASIMDFPModImm.{ASIMDFPModImm}
use Rattle.a64_imms.specs.declared.fpu_shift.FPULeftShiftImm.{FPULeftShiftImm}
use Rattle.a64_imms.specs.declared.fpu_shift.FPURightShiftImm.{FPURightShiftImm}
use Rattle.a64_ops.specs.declared.float.FPUOp1.{FPUOp1}
use Rattle.a64_ops.specs.declared.float.FPUOp1.TheVariants.{Abs, Neg, Sqrt, Cvt32To64, Cvt64To32}
use Rattle.a64_ops.specs.declared.float.FPUOp2.{FPUOp2}
use Rattle.a64_ops.specs.declared.float.FPUOp2.TheVariants.{Add, Sub, Mul, Div, Max, Min}
use Rattle.a64_ops.specs.declared.float.FPUOp3.{FPUOp3}
use Rattle.a64_ops.specs.declared.float.FPUOp3.TheVariants.{MAdd, MSub, NMAdd, NMSub}
use Rattle.a64_ops.specs.declared.float.FpuRoundMode.{FpuRoundMode}
use Rattle.a64_ops.specs.declared.float.FpuRoundMode.TheVariants.{Minus32, Minus64, Plus32, Plus64}
use Rattle.a64_ops.specs.declared.float.FpuRoundMode.TheVariants.{Zero32, Zero64, Nearest32}
use Rattle.a64_ops.specs.declared.float.FpuRoundMode.TheVariants.{Nearest64}
use Rattle.a64_ops.specs.declared.float.FpuToIntOp.{FpuToIntOp}
use Rattle.a64_ops.specs.declared.float.FpuToIntOp.TheVariants.{F32ToU32, F32ToI32, F32ToU64}
use Rattle.a64_ops.specs.declared.float.FpuToIntOp.TheVariants.{F32ToI64, F64ToU32, F64ToI32}
use Rattle.a64_ops.specs.declared.float.FpuToIntOp.TheVariants.{F64ToU64, F64ToI64}
use Rattle.a64_ops.specs.declared.float.IntToFpuOp.{IntToFpuOp}
use Rattle.a64_ops.specs.declared.float.IntToFpuOp.TheVariants.{U32ToF32, I32ToF32, U32ToF64}
use Rattle.a64_ops.specs.declared.float.IntToFpuOp.TheVariants.{I32ToF64, U64ToF32, I64ToF32}
use Rattle.a64_ops.specs.declared.float.IntToFpuOp.TheVariants.{U64ToF64, I64ToF64}
use Rattle.a64_operand.specs.declared.fpu_op.FPUOpRI.{FPUOpRI}
use Rattle.a64_operand.specs.declared.fpu_op.FPUOpRI.TheVariants.{UShr32, UShr64}
use Rattle.a64_operand.specs.declared.fpu_op.FPUOpRIMod.{FPUOpRIMod}
use Rattle.a64_operand.specs.declared.fpu_op.FPUOpRIMod.TheVariants.{Sli32, Sli64}
use Rattle.a64_enc_int.specs.Registers.{register_field}
use Rattle.a64_cells.specs.declared.word.plain.float.Conversion.{Conversion}
use Rattle.a64_rows.specs.Floats.{fp_one, fp_two, fp_three, fp_compare, fp_select, fp_imm, fp_int}
use Rattle.a64_rows.specs.Forms.{Form}
use Rattle.a64_rows.specs.Vectors.{vec_three, vec_shift, scalar_shift, scalar_copy}

-- ---- fields that operators give

-- the field opcode of operations on one float: FABS, FNEG, FSQRT, and FCVT to 32 and to 64 bits
abbrev pub one_opcode : FPUOp1 → ℕ
one_opcode Abs = 1
one_opcode Neg = 2
one_opcode Sqrt = 3
one_opcode Cvt64To32 = 4
one_opcode Cvt32To64 = 5

-- and of roundings to an integral value: FRINTN, FRINTP, FRINTM, FRINTZ
abbrev pub round_opcode : FpuRoundMode → ℕ
round_opcode Nearest32 = 8
round_opcode Nearest64 = 8
round_opcode Plus32 = 9
round_opcode Plus64 = 9
round_opcode Minus32 = 10
round_opcode Minus64 = 10
round_opcode Zero32 = 11
round_opcode Zero64 = 11

-- the size of what a rounding rounds
abbrev pub round_size : FpuRoundMode → ScalarSize
round_size Nearest32 = Size32
round_size Nearest64 = Size64
round_size Plus32 = Size32
round_size Plus64 = Size64
round_size Minus32 = Size32
round_size Minus64 = Size64
round_size Zero32 = Size32
round_size Zero64 = Size64

-- the field opcode of operations on two floats: FMUL, FDIV, FADD, FSUB, FMAX, FMIN
abbrev pub two_opcode : FPUOp2 → ℕ
two_opcode Mul = 0
two_opcode Div = 1
two_opcode Add = 2
two_opcode Sub = 3
two_opcode Max = 4
two_opcode Min = 5

-- the field o1 of operations on three floats: 1 for those that negate the addend
abbrev pub o1_of : FPUOp3 → ℕ
o1_of MAdd = 0
o1_of MSub = 0
o1_of NMAdd = 1
o1_of NMSub = 1

-- the field o0: 1 for FMSUB and FNMSUB
abbrev pub o0_of : FPUOp3 → ℕ
o0_of MAdd = 0
o0_of MSub = 1
o0_of NMAdd = 0
o0_of NMSub = 1

-- a conversion of a float to an integer, FCVTZS (24) or FCVTZU (25): sf says the integer's size,
-- ftype the float's
abbrev pub to_int : FpuToIntOp → Conversion
to_int F32ToI32 = record { sf = 0; ftype = 0; op = 24 }
to_int F32ToU32 = record { sf = 0; ftype = 0; op = 25 }
to_int F32ToI64 = record { sf = 1; ftype = 0; op = 24 }
to_int F32ToU64 = record { sf = 1; ftype = 0; op = 25 }
to_int F64ToI32 = record { sf = 0; ftype = 1; op = 24 }
to_int F64ToU32 = record { sf = 0; ftype = 1; op = 25 }
to_int F64ToI64 = record { sf = 1; ftype = 1; op = 24 }
to_int F64ToU64 = record { sf = 1; ftype = 1; op = 25 }

-- a conversion of an integer to a float, SCVTF (2) or UCVTF (3)
abbrev pub from_int : IntToFpuOp → Conversion
from_int I32ToF32 = record { sf = 0; ftype = 0; op = 2 }
from_int U32ToF32 = record { sf = 0; ftype = 0; op = 3 }
from_int I64ToF32 = record { sf = 1; ftype = 0; op = 2 }
from_int U64ToF32 = record { sf = 1; ftype = 0; op = 3 }
from_int I32ToF64 = record { sf = 0; ftype = 1; op = 2 }
from_int U32ToF64 = record { sf = 0; ftype = 1; op = 3 }
from_int I64ToF64 = record { sf = 1; ftype = 1; op = 2 }
from_int U64ToF64 = record { sf = 1; ftype = 1; op = 3 }

-- a move of the bits of a general register, FMOV (7): of 64 bits out of one of 64, of fewer out of
-- one of 32. Its rows for sizes that floats do not have are not read
abbrev pub bits_to_float : ScalarSize → Conversion
bits_to_float Size8 = record { sf = 0; ftype = 0; op = 7 }
bits_to_float Size16 = record { sf = 0; ftype = 3; op = 7 }
bits_to_float Size32 = record { sf = 0; ftype = 0; op = 7 }
bits_to_float Size64 = record { sf = 1; ftype = 1; op = 7 }
bits_to_float Size128 = record { sf = 0; ftype = 0; op = 7 }

-- the field imm5 of a lane: its lowest one says the lane's size, and above it stands the lane's
-- number. No lane has 128 bits, and its row is not read
abbrev pub lane_number : ScalarSize → ℕ → ℕ
lane_number Size8 idx = 1 + 2 * idx
lane_number Size16 idx = 2 + 4 * idx
lane_number Size32 idx = 4 + 8 * idx
lane_number Size64 idx = 8 + 16 * idx
lane_number Size128 idx = 0

-- the fields immh and immb of a shift to the right: twice the lane's size less the amount
abbrev pub right_field : FPURightShiftImm → ℕ
right_field imm = 2 * imm.lane_size_in_bits - imm.amount

-- and of one to the left: the lane's size plus the amount
abbrev pub left_field : FPULeftShiftImm → ℕ
left_field imm = imm.lane_size_in_bits + imm.amount

-- ---- forms

-- Floating-point data-processing (1 source), FMOV (register)
abbrev pub move_form : ScalarSize → Reg → Reg → Form
move_form size rd rn =
    fp_one (record {
      ftype = ftype_of size;
      op = 0;
      rn = register_field rn;
      rd = register_field rd;
    })

-- Advanced SIMD three same, ORR (vector, register) of 128 bits, of a register with itself
abbrev pub move_vector_form : Reg → Reg → Form
move_vector_form rd rn =
    vec_three (record {
      q = 1;
      u = 0;
      size = 2;
      rm = register_field rn;
      op = 3;
      rn = register_field rn;
      rd = register_field rd;
    })

-- Advanced SIMD scalar copy, DUP (element)
abbrev pub move_lane_form : VectorSize → ℕ → Reg → Reg → Form
move_lane_form size idx rd rn =
    scalar_copy (record {
      imm5 = lane_number (lane_of size) idx;
      rn = register_field rn;
      rd = register_field rd;
    })

-- Floating-point data-processing (1 source)
abbrev pub one_float_form : FPUOp1 → ScalarSize → Reg → Reg → Form
one_float_form op size rd rn =
    fp_one (record {
      ftype = ftype_of size;
      op = one_opcode op;
      rn = register_field rn;
      rd = register_field rd;
    })

abbrev pub round_form : FpuRoundMode → Reg → Reg → Form
round_form op rd rn =
    fp_one (record {
      ftype = ftype_of (round_size op);
      op = round_opcode op;
      rn = register_field rn;
      rd = register_field rd;
    })

-- Floating-point data-processing (2 source)
abbrev pub two_floats_form : FPUOp2 → ScalarSize → Reg → Reg → Reg → Form
two_floats_form op size rd rn rm =
    fp_two (record {
      ftype = ftype_of size;
      rm = register_field rm;
      op = two_opcode op;
      rn = register_field rn;
      rd = register_field rd;
    })

-- Floating-point data-processing (3 source)
abbrev pub three_floats_form : FPUOp3 → ScalarSize → Reg → Reg → Reg → Reg → Form
three_floats_form op size rd rn rm ra =
    fp_three (record {
      ftype = ftype_of size;
      o1 = o1_of op;
      rm = register_field rm;
      o0 = o0_of op;
      ra = register_field ra;
      rn = register_field rn;
      rd = register_field rd;
    })

-- a shift to the right of a lane of 32 bits (Advanced SIMD shift by immediate, USHR of 64 bits), or
-- of the one lane of 64 (Advanced SIMD scalar shift by immediate, USHR)
abbrev pub right_shift_form : FPUOpRI → Reg → Reg → Form
right_shift_form (UShr32 imm) rd rn =
    vec_shift (record {
      q = 0;
      u = 1;
      imm7 = right_field imm;
      op = 0;
      rn = register_field rn;
      rd = register_field rd;
    })
right_shift_form (UShr64 imm) rd rn =
    scalar_shift (record {
      imm7 = right_field imm;
      op = 0;
      rn = register_field rn;
      rd = register_field rd;
    })

-- a shift to the left that keeps the bits below (the same classes, SLI)
abbrev pub kept_shift_form : FPUOpRIMod → Reg → Reg → Form
kept_shift_form (Sli32 imm) rd rn =
    vec_shift (record {
      q = 0;
      u = 1;
      imm7 = left_field imm;
      op = 10;
      rn = register_field rn;
      rd = register_field rd;
    })
kept_shift_form (Sli64 imm) rd rn =
    scalar_shift (record {
      imm7 = left_field imm;
      op = 10;
      rn = register_field rn;
      rd = register_field rd;
    })

-- Floating-point compare, FCMP
abbrev pub compare_form : ScalarSize → Reg → Reg → Form
compare_form size rn rm =
    fp_compare (record { ftype = ftype_of size; rm = register_field rm; rn = register_field rn })

-- Floating-point conditional select, FCSEL
abbrev pub select_form : ScalarSize → Reg → Reg → Reg → Cond → Form
select_form size rd rn rm cond =
    fp_select (record {
      ftype = ftype_of size;
      rm = register_field rm;
      cond = condition_bits cond;
      rn = register_field rn;
      rd = register_field rd;
    })

-- Floating-point immediate, FMOV (scalar, immediate)
abbrev pub immediate_form : ScalarSize → ASIMDFPModImm → Reg → Form
immediate_form size imm rd =
    fp_imm (record { ftype = ftype_of size; imm8 = imm.imm; rd = register_field rd })

-- Conversion between floating-point and integer
abbrev pub conversion_form : Conversion → Reg → Reg → Form
conversion_form conversion rd rn =
    fp_int (record {
      sf = conversion.sf;
      ftype = conversion.ftype;
      op = conversion.op;
      rn = register_field rn;
      rd = register_field rd;
    })
