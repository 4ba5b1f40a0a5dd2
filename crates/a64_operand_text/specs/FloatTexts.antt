-- Parts of the texts of instructions on scalar floats.
use Rattle.std.specs.Prelude.{ℕ, List, [], ◌∷◌, codes}
use Rattle.a64_base.specs.declared.reg.Reg.{Reg}
use Rattle.a64_base.specs.declared.size.OperandSize.{OperandSize}
use Rattle.a64_base.specs.declared.size.OperandSize.TheVariants as sizes
use Rattle.a64_base.specs.declared.size.ScalarSize.{ScalarSize}
use Rattle.a64_base.specs.declared.size.ScalarSize.TheVariants.{Size32, Size64}
use Rattle.a64_base.specs.declared.size.VectorSize.TheVariants.{Size32x2}
use Rattle.a64_operand.specs.declared.fpu_op.FPUOpRI.{FPUOpRI}
use Rattle.a64_operand.specs.declared.fpu_op.FPUOpRI.TheVariants.{UShr32, UShr64}
use Rattle.a64_operand.specs.declared.fpu_op.FPUOpRIMod.{FPUOpRIMod}
use Rattle.a64_operand.specs.declared.fpu_op.FPUOpRIMod.TheVariants.{Sli32, Sli64}
use Rattle.a64_ops.specs.declared.float.FPUOp1.{FPUOp1}
use Rattle.a64_ops.specs.declared.float.FPUOp1.TheVariants as fpu_op1s
use Rattle.a64_ops.specs.declared.float.FpuToIntOp.{FpuToIntOp}
use Rattle.a64_ops.specs.declared.float.FpuToIntOp.TheVariants as fpu_to_int_ops
use Rattle.a64_ops.specs.declared.float.IntToFpuOp.{IntToFpuOp}
use Rattle.a64_ops.specs.declared.float.IntToFpuOp.TheVariants as int_to_fpu_ops
use Rattle.a64_ops.specs.declared.float.FpuRoundMode.{FpuRoundMode}
use Rattle.a64_ops.specs.declared.float.FpuRoundMode.TheVariants as fpu_round_modes
use Rattle.a64_operand_text.specs.declared.operand.Operand.TheVariants as operand
use Rattle.a64_operand_text.specs.Lines.{line_text}

-- the size of what an operation on a float of some size gives
abbrev pub fpu_rr_size : FPUOp1 → ScalarSize → ScalarSize
fpu_rr_size fpu_op1s.Abs scalar = scalar
fpu_rr_size fpu_op1s.Neg scalar = scalar
fpu_rr_size fpu_op1s.Sqrt scalar = scalar
fpu_rr_size fpu_op1s.Cvt32To64 scalar = Size64
fpu_rr_size fpu_op1s.Cvt64To32 scalar = Size32

-- a shift to the right: of lanes of 32 bits, or of one of 64
abbrev pub fpu_rri_text : FPUOpRI → Reg → Reg → List ℕ
fpu_rri_text (UShr32 imm) rd rn =
    line_text (codes "ushr") (operand.Vector Size32x2 rd ∷ operand.Vector Size32x2 rn
    ∷ operand.Number imm.amount ∷ [])
fpu_rri_text (UShr64 imm) rd rn =
    line_text (codes "ushr") (operand.Scalar Size64 rd ∷ operand.Scalar Size64 rn
    ∷ operand.Number imm.amount ∷ [])

-- a shift to the left that keeps the bits below
abbrev pub fpu_rri_mod_text : FPUOpRIMod → Reg → Reg → Reg → List ℕ
fpu_rri_mod_text (Sli32 imm) rd ri rn =
    line_text (codes "sli") (operand.Vector Size32x2 rd ∷ operand.Vector Size32x2 ri
    ∷ operand.Vector Size32x2 rn ∷ operand.Number imm.amount ∷ [])
fpu_rri_mod_text (Sli64 imm) rd ri rn =
    line_text (codes "sli") (operand.Scalar Size64 rd ∷ operand.Scalar Size64 ri
    ∷ operand.Scalar Size64 rn ∷ operand.Number imm.amount ∷ [])

-- the sizes of a conversion of a float to an integer: of the integer, and of the float
abbrev pub to_int_size : FpuToIntOp → OperandSize
to_int_size fpu_to_int_ops.F32ToU32 = sizes.Size32
to_int_size fpu_to_int_ops.F32ToI32 = sizes.Size32
to_int_size fpu_to_int_ops.F32ToU64 = sizes.Size64
to_int_size fpu_to_int_ops.F32ToI64 = sizes.Size64
to_int_size fpu_to_int_ops.F64ToU32 = sizes.Size32
to_int_size fpu_to_int_ops.F64ToI32 = sizes.Size32
to_int_size fpu_to_int_ops.F64ToU64 = sizes.Size64
to_int_size fpu_to_int_ops.F64ToI64 = sizes.Size64

abbrev pub from_float_size : FpuToIntOp → ScalarSize
from_float_size fpu_to_int_ops.F32ToU32 = Size32
from_float_size fpu_to_int_ops.F32ToI32 = Size32
from_float_size fpu_to_int_ops.F32ToU64 = Size32
from_float_size fpu_to_int_ops.F32ToI64 = Size32
from_float_size fpu_to_int_ops.F64ToU32 = Size64
from_float_size fpu_to_int_ops.F64ToI32 = Size64
from_float_size fpu_to_int_ops.F64ToU64 = Size64
from_float_size fpu_to_int_ops.F64ToI64 = Size64

-- the sizes of a conversion of an integer to a float: of the float, and of the integer
abbrev pub to_float_size : IntToFpuOp → ScalarSize
to_float_size int_to_fpu_ops.U32ToF32 = Size32
to_float_size int_to_fpu_ops.I32ToF32 = Size32
to_float_size int_to_fpu_ops.U32ToF64 = Size64
to_float_size int_to_fpu_ops.I32ToF64 = Size64
to_float_size int_to_fpu_ops.U64ToF32 = Size32
to_float_size int_to_fpu_ops.I64ToF32 = Size32
to_float_size int_to_fpu_ops.U64ToF64 = Size64
to_float_size int_to_fpu_ops.I64ToF64 = Size64

abbrev pub from_int_size : IntToFpuOp → OperandSize
from_int_size int_to_fpu_ops.U32ToF32 = sizes.Size32
from_int_size int_to_fpu_ops.I32ToF32 = sizes.Size32
from_int_size int_to_fpu_ops.U32ToF64 = sizes.Size32
from_int_size int_to_fpu_ops.I32ToF64 = sizes.Size32
from_int_size int_to_fpu_ops.U64ToF32 = sizes.Size64
from_int_size int_to_fpu_ops.I64ToF32 = sizes.Size64
from_int_size int_to_fpu_ops.U64ToF64 = sizes.Size64
from_int_size int_to_fpu_ops.I64ToF64 = sizes.Size64

-- the size of what a rounding rounds
abbrev pub round_size : FpuRoundMode → ScalarSize
round_size fpu_round_modes.Minus32 = Size32
round_size fpu_round_modes.Minus64 = Size64
round_size fpu_round_modes.Plus32 = Size32
round_size fpu_round_modes.Plus64 = Size64
round_size fpu_round_modes.Zero32 = Size32
round_size fpu_round_modes.Zero64 = Size64
round_size fpu_round_modes.Nearest32 = Size32
round_size fpu_round_modes.Nearest64 = Size64
