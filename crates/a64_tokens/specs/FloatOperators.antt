-- The names of operators on scalar floats.
use Rattle.std.specs.Prelude.{ℕ, List, codes}
use Rattle.a64_ops.specs.declared.float.FPUOp1.{FPUOp1}
use Rattle.a64_ops.specs.declared.float.FPUOp1.TheVariants as fpu_op1s
use Rattle.a64_ops.specs.declared.float.FPUOp2.{FPUOp2}
use Rattle.a64_ops.specs.declared.float.FPUOp2.TheVariants as fpu_op2s
use Rattle.a64_ops.specs.declared.float.FPUOp3.{FPUOp3}
use Rattle.a64_ops.specs.declared.float.FPUOp3.TheVariants as fpu_op3s
use Rattle.a64_ops.specs.declared.float.FpuToIntOp.{FpuToIntOp}
use Rattle.a64_ops.specs.declared.float.FpuToIntOp.TheVariants as fpu_to_int_ops
use Rattle.a64_ops.specs.declared.float.IntToFpuOp.{IntToFpuOp}
use Rattle.a64_ops.specs.declared.float.IntToFpuOp.TheVariants as int_to_fpu_ops
use Rattle.a64_ops.specs.declared.float.FpuRoundMode.{FpuRoundMode}
use Rattle.a64_ops.specs.declared.float.FpuRoundMode.TheVariants as fpu_round_modes

abbrev pub fpu_op1_text : FPUOp1 → List ℕ
fpu_op1_text fpu_op1s.Abs = codes "Abs"
fpu_op1_text fpu_op1s.Neg = codes "Neg"
fpu_op1_text fpu_op1s.Sqrt = codes "Sqrt"
fpu_op1_text fpu_op1s.Cvt32To64 = codes "Cvt32To64"
fpu_op1_text fpu_op1s.Cvt64To32 = codes "Cvt64To32"

abbrev pub fpu_op2_text : FPUOp2 → List ℕ
fpu_op2_text fpu_op2s.Add = codes "Add"
fpu_op2_text fpu_op2s.Sub = codes "Sub"
fpu_op2_text fpu_op2s.Mul = codes "Mul"
fpu_op2_text fpu_op2s.Div = codes "Div"
fpu_op2_text fpu_op2s.Max = codes "Max"
fpu_op2_text fpu_op2s.Min = codes "Min"

abbrev pub fpu_op3_text : FPUOp3 → List ℕ
fpu_op3_text fpu_op3s.MAdd = codes "MAdd"
fpu_op3_text fpu_op3s.MSub = codes "MSub"
fpu_op3_text fpu_op3s.NMAdd = codes "NMAdd"
fpu_op3_text fpu_op3s.NMSub = codes "NMSub"

abbrev pub fpu_to_int_op_text : FpuToIntOp → List ℕ
fpu_to_int_op_text fpu_to_int_ops.F32ToU32 = codes "F32ToU32"
fpu_to_int_op_text fpu_to_int_ops.F32ToI32 = codes "F32ToI32"
fpu_to_int_op_text fpu_to_int_ops.F32ToU64 = codes "F32ToU64"
fpu_to_int_op_text fpu_to_int_ops.F32ToI64 = codes "F32ToI64"
fpu_to_int_op_text fpu_to_int_ops.F64ToU32 = codes "F64ToU32"
fpu_to_int_op_text fpu_to_int_ops.F64ToI32 = codes "F64ToI32"
fpu_to_int_op_text fpu_to_int_ops.F64ToU64 = codes "F64ToU64"
fpu_to_int_op_text fpu_to_int_ops.F64ToI64 = codes "F64ToI64"

abbrev pub int_to_fpu_op_text : IntToFpuOp → List ℕ
int_to_fpu_op_text int_to_fpu_ops.U32ToF32 = codes "U32ToF32"
int_to_fpu_op_text int_to_fpu_ops.I32ToF32 = codes "I32ToF32"
int_to_fpu_op_text int_to_fpu_ops.U32ToF64 = codes "U32ToF64"
int_to_fpu_op_text int_to_fpu_ops.I32ToF64 = codes "I32ToF64"
int_to_fpu_op_text int_to_fpu_ops.U64ToF32 = codes "U64ToF32"
int_to_fpu_op_text int_to_fpu_ops.I64ToF32 = codes "I64ToF32"
int_to_fpu_op_text int_to_fpu_ops.U64ToF64 = codes "U64ToF64"
int_to_fpu_op_text int_to_fpu_ops.I64ToF64 = codes "I64ToF64"

abbrev pub fpu_round_mode_text : FpuRoundMode → List ℕ
fpu_round_mode_text fpu_round_modes.Minus32 = codes "Minus32"
fpu_round_mode_text fpu_round_modes.Minus64 = codes "Minus64"
fpu_round_mode_text fpu_round_modes.Plus32 = codes "Plus32"
fpu_round_mode_text fpu_round_modes.Plus64 = codes "Plus64"
fpu_round_mode_text fpu_round_modes.Zero32 = codes "Zero32"
fpu_round_mode_text fpu_round_modes.Zero64 = codes "Zero64"
fpu_round_mode_text fpu_round_modes.Nearest32 = codes "Nearest32"
fpu_round_mode_text fpu_round_modes.Nearest64 = codes "Nearest64"
