-- The names of operators in assembly text.
use Rattle.std.specs.Prelude.{ℕ, List, codes}
use Rattle.a64_ops.specs.declared.operator.BitOp.{BitOp}
use Rattle.a64_ops.specs.declared.operator.BitOp.TheVariants.{RBit, Clz, Cls, Rev16, Rev32, Rev64}
use Rattle.a64_ops.specs.declared.operator.BfmOp.{BfmOp}
use Rattle.a64_ops.specs.declared.operator.BfmOp.TheVariants.{UBfm, SBfm}
use Rattle.a64_ops.specs.declared.operator.ALUOp.{ALUOp}
use Rattle.a64_ops.specs.declared.operator.ALUOp.TheVariants as alu_ops
use Rattle.a64_ops.specs.declared.operator.ALUOp3.{ALUOp3}
use Rattle.a64_ops.specs.declared.operator.ALUOp3.TheVariants as alu_op3s
use Rattle.a64_ops.specs.declared.operator.MoveWideOp.{MoveWideOp}
use Rattle.a64_ops.specs.declared.operator.MoveWideOp.TheVariants as move_wide_ops
use Rattle.a64_ops.specs.declared.operator.AtomicRMWOp.{AtomicRMWOp}
use Rattle.a64_ops.specs.declared.operator.AtomicRMWOp.TheVariants as atomic_rmw_ops
use Rattle.a64_ops.specs.declared.operator.AtomicRMWLoopOp.{AtomicRMWLoopOp}
use Rattle.a64_ops.specs.declared.operator.AtomicRMWLoopOp.TheVariants as atomic_rmw_loop_ops
use Rattle.a64_ops.specs.declared.float.FPUOp1.{FPUOp1}
use Rattle.a64_ops.specs.declared.float.FPUOp1.TheVariants as fpu_op1s
use Rattle.a64_ops.specs.declared.float.FPUOp2.{FPUOp2}
use Rattle.a64_ops.specs.declared.float.FPUOp2.TheVariants as fpu_op2s
use Rattle.a64_ops.specs.declared.float.FPUOp3.{FPUOp3}
use Rattle.a64_ops.specs.declared.float.FPUOp3.TheVariants as fpu_op3s
use Rattle.a64_ops.specs.declared.float.FpuToIntOp.{FpuToIntOp}
use Rattle.a64_ops.specs.declared.float.FpuToIntOp.TheVariants as fpu_to_int_ops
use Rattle.a64_ops.specs.declared.float.IntToFpuOp.{IntToFpuOp}
use Rattle.a64_ops.specs.declared.float.IntToFpuOp.TheVariants as int_to_fpu_ops
use Rattle.a64_ops.specs.declared.float.FpuRoundMode.{FpuRoundMode}
use Rattle.a64_ops.specs.declared.float.FpuRoundMode.TheVariants as fpu_round_modes
use Rattle.a64_ops.specs.declared.vector.VecALUOp.{VecALUOp}
use Rattle.a64_ops.specs.declared.vector.VecALUOp.TheVariants as vec_alu_ops
use Rattle.a64_ops.specs.declared.vector.VecALUModOp.{VecALUModOp}
use Rattle.a64_ops.specs.declared.vector.VecALUModOp.TheVariants as vec_alu_mod_ops
use Rattle.a64_ops.specs.declared.vector.VecMisc2.{VecMisc2}
use Rattle.a64_ops.specs.declared.vector.VecMisc2.TheVariants as vec_misc2s
use Rattle.a64_ops.specs.declared.vector.VecLanesOp.{VecLanesOp}
use Rattle.a64_ops.specs.declared.vector.VecLanesOp.TheVariants as vec_lanes_ops
use Rattle.a64_ops.specs.declared.vector.VecExtendOp.{VecExtendOp}
use Rattle.a64_ops.specs.declared.vector.VecExtendOp.TheVariants as vec_extend_ops
use Rattle.a64_ops.specs.declared.vector.VecRRLongOp.{VecRRLongOp}
use Rattle.a64_ops.specs.declared.vector.VecRRLongOp.TheVariants as vec_rr_long_ops
use Rattle.a64_ops.specs.declared.vector.VecRRNarrowOp.{VecRRNarrowOp}
use Rattle.a64_ops.specs.declared.vector.VecRRNarrowOp.TheVariants as vec_rr_narrow_ops
use Rattle.a64_ops.specs.declared.vector.VecPairOp.{VecPairOp}
use Rattle.a64_ops.specs.declared.vector.VecPairOp.TheVariants as vec_pair_ops
use Rattle.a64_ops.specs.declared.vector.VecRRPairLongOp.{VecRRPairLongOp}
use Rattle.a64_ops.specs.declared.vector.VecRRPairLongOp.TheVariants as vec_rr_pair_long_ops
use Rattle.a64_ops.specs.declared.vector.VecRRRLongOp.{VecRRRLongOp}
use Rattle.a64_ops.specs.declared.vector.VecRRRLongOp.TheVariants as vec_rrr_long_ops
use Rattle.a64_ops.specs.declared.vector.VecRRRLongModOp.{VecRRRLongModOp}
use Rattle.a64_ops.specs.declared.vector.VecRRRLongModOp.TheVariants as vec_rrr_long_mod_ops
use Rattle.a64_ops.specs.declared.vector.VecShiftImmOp.{VecShiftImmOp}
use Rattle.a64_ops.specs.declared.vector.VecShiftImmOp.TheVariants as vec_shift_imm_ops
use Rattle.a64_ops.specs.declared.vector.VecShiftImmModOp.{VecShiftImmModOp}
use Rattle.a64_ops.specs.declared.vector.VecShiftImmModOp.TheVariants as vec_shift_imm_mod_ops

abbrev pub bit_op_name : BitOp → List ℕ
bit_op_name RBit = codes "rbit"
bit_op_name Clz = codes "clz"
bit_op_name Cls = codes "cls"
bit_op_name Rev16 = codes "rev16"
bit_op_name Rev32 = codes "rev32"
bit_op_name Rev64 = codes "rev64"

abbrev pub bfm_op_name : BfmOp → List ℕ
bfm_op_name UBfm = codes "ubfm"
bfm_op_name SBfm = codes "sbfm"

abbrev pub alu_op_name : ALUOp → List ℕ
alu_op_name alu_ops.Add = codes "add"
alu_op_name alu_ops.Sub = codes "sub"
alu_op_name alu_ops.AddS = codes "adds"
alu_op_name alu_ops.SubS = codes "subs"
alu_op_name alu_ops.And = codes "and"
alu_op_name alu_ops.Orr = codes "orr"
alu_op_name alu_ops.Eor = codes "eor"
alu_op_name alu_ops.AndS = codes "ands"
alu_op_name alu_ops.AndNot = codes "bic"
alu_op_name alu_ops.OrrNot = codes "orn"
alu_op_name alu_ops.EorNot = codes "eon"
alu_op_name alu_ops.Adc = codes "adc"
alu_op_name alu_ops.Sbc = codes "sbc"
alu_op_name alu_ops.AdcS = codes "adcs"
alu_op_name alu_ops.SbcS = codes "sbcs"
alu_op_name alu_ops.UDiv = codes "udiv"
alu_op_name alu_ops.SDiv = codes "sdiv"
alu_op_name alu_ops.Lsl = codes "lsl"
alu_op_name alu_ops.Lsr = codes "lsr"
alu_op_name alu_ops.Asr = codes "asr"
alu_op_name alu_ops.Extr = codes "extr"
alu_op_name alu_ops.SMulH = codes "smulh"
alu_op_name alu_ops.UMulH = codes "umulh"

abbrev pub alu_op3_name : ALUOp3 → List ℕ
alu_op3_name alu_op3s.MAdd = codes "madd"
alu_op3_name alu_op3s.MSub = codes "msub"
alu_op3_name alu_op3s.UMAddL = codes "umaddl"
alu_op3_name alu_op3s.SMAddL = codes "smaddl"

abbrev pub move_wide_op_name : MoveWideOp → List ℕ
move_wide_op_name move_wide_ops.MovZ = codes "movz"
move_wide_op_name move_wide_ops.MovN = codes "movn"

abbrev pub atomic_rmw_op_name : AtomicRMWOp → List ℕ
atomic_rmw_op_name atomic_rmw_ops.Add = codes "ldaddal"
atomic_rmw_op_name atomic_rmw_ops.Clr = codes "ldclral"
atomic_rmw_op_name atomic_rmw_ops.Eor = codes "ldeoral"
atomic_rmw_op_name atomic_rmw_ops.Set = codes "ldsetal"
atomic_rmw_op_name atomic_rmw_ops.Smax = codes "ldsmaxal"
atomic_rmw_op_name atomic_rmw_ops.Smin = codes "ldsminal"
atomic_rmw_op_name atomic_rmw_ops.Umax = codes "ldumaxal"
atomic_rmw_op_name atomic_rmw_ops.Umin = codes "lduminal"
atomic_rmw_op_name atomic_rmw_ops.Swp = codes "swpal"

abbrev pub atomic_rmw_loop_op_name : AtomicRMWLoopOp → List ℕ
atomic_rmw_loop_op_name atomic_rmw_loop_ops.Add = codes "add"
atomic_rmw_loop_op_name atomic_rmw_loop_ops.Sub = codes "sub"
atomic_rmw_loop_op_name atomic_rmw_loop_ops.And = codes "and"
atomic_rmw_loop_op_name atomic_rmw_loop_ops.Nand = codes "nand"
atomic_rmw_loop_op_name atomic_rmw_loop_ops.Eor = codes "eor"
atomic_rmw_loop_op_name atomic_rmw_loop_ops.Orr = codes "orr"
atomic_rmw_loop_op_name atomic_rmw_loop_ops.Smax = codes "smax"
atomic_rmw_loop_op_name atomic_rmw_loop_ops.Smin = codes "smin"
atomic_rmw_loop_op_name atomic_rmw_loop_ops.Umax = codes "umax"
atomic_rmw_loop_op_name atomic_rmw_loop_ops.Umin = codes "umin"
atomic_rmw_loop_op_name atomic_rmw_loop_ops.Xchg = codes "xchg"

abbrev pub fpu_op1_name : FPUOp1 → List ℕ
fpu_op1_name fpu_op1s.Abs = codes "fabs"
fpu_op1_name fpu_op1s.Neg = codes "fneg"
fpu_op1_name fpu_op1s.Sqrt = codes "fsqrt"
fpu_op1_name fpu_op1s.Cvt32To64 = codes "fcvt"
fpu_op1_name fpu_op1s.Cvt64To32 = codes "fcvt"

abbrev pub fpu_op2_name : FPUOp2 → List ℕ
fpu_op2_name fpu_op2s.Add = codes "fadd"
fpu_op2_name fpu_op2s.Sub = codes "fsub"
fpu_op2_name fpu_op2s.Mul = codes "fmul"
fpu_op2_name fpu_op2s.Div = codes "fdiv"
fpu_op2_name fpu_op2s.Max = codes "fmax"
fpu_op2_name fpu_op2s.Min = codes "fmin"

abbrev pub fpu_op3_name : FPUOp3 → List ℕ
fpu_op3_name fpu_op3s.MAdd = codes "fmadd"
fpu_op3_name fpu_op3s.MSub = codes "fmsub"
fpu_op3_name fpu_op3s.NMAdd = codes "fnmadd"
fpu_op3_name fpu_op3s.NMSub = codes "fnmsub"

abbrev pub fpu_to_int_op_name : FpuToIntOp → List ℕ
fpu_to_int_op_name fpu_to_int_ops.F32ToU32 = codes "fcvtzu"
fpu_to_int_op_name fpu_to_int_ops.F32ToI32 = codes "fcvtzs"
fpu_to_int_op_name fpu_to_int_ops.F32ToU64 = codes "fcvtzu"
fpu_to_int_op_name fpu_to_int_ops.F32ToI64 = codes "fcvtzs"
fpu_to_int_op_name fpu_to_int_ops.F64ToU32 = codes "fcvtzu"
fpu_to_int_op_name fpu_to_int_ops.F64ToI32 = codes "fcvtzs"
fpu_to_int_op_name fpu_to_int_ops.F64ToU64 = codes "fcvtzu"
fpu_to_int_op_name fpu_to_int_ops.F64ToI64 = codes "fcvtzs"

abbrev pub int_to_fpu_op_name : IntToFpuOp → List ℕ
int_to_fpu_op_name int_to_fpu_ops.U32ToF32 = codes "ucvtf"
int_to_fpu_op_name int_to_fpu_ops.I32ToF32 = codes "scvtf"
int_to_fpu_op_name int_to_fpu_ops.U32ToF64 = codes "ucvtf"
int_to_fpu_op_name int_to_fpu_ops.I32ToF64 = codes "scvtf"
int_to_fpu_op_name int_to_fpu_ops.U64ToF32 = codes "ucvtf"
int_to_fpu_op_name int_to_fpu_ops.I64ToF32 = codes "scvtf"
int_to_fpu_op_name int_to_fpu_ops.U64ToF64 = codes "ucvtf"
int_to_fpu_op_name int_to_fpu_ops.I64ToF64 = codes "scvtf"

abbrev pub fpu_round_mode_name : FpuRoundMode → List ℕ
fpu_round_mode_name fpu_round_modes.Minus32 = codes "frintm"
fpu_round_mode_name fpu_round_modes.Minus64 = codes "frintm"
fpu_round_mode_name fpu_round_modes.Plus32 = codes "frintp"
fpu_round_mode_name fpu_round_modes.Plus64 = codes "frintp"
fpu_round_mode_name fpu_round_modes.Zero32 = codes "frintz"
fpu_round_mode_name fpu_round_modes.Zero64 = codes "frintz"
fpu_round_mode_name fpu_round_modes.Nearest32 = codes "frintn"
fpu_round_mode_name fpu_round_modes.Nearest64 = codes "frintn"

abbrev pub vec_alu_op_name : VecALUOp → List ℕ
vec_alu_op_name vec_alu_ops.Sqadd = codes "sqadd"
vec_alu_op_name vec_alu_ops.Uqadd = codes "uqadd"
vec_alu_op_name vec_alu_ops.Sqsub = codes "sqsub"
vec_alu_op_name vec_alu_ops.Uqsub = codes "uqsub"
vec_alu_op_name vec_alu_ops.Cmeq = codes "cmeq"
vec_alu_op_name vec_alu_ops.Cmge = codes "cmge"
vec_alu_op_name vec_alu_ops.Cmgt = codes "cmgt"
vec_alu_op_name vec_alu_ops.Cmhs = codes "cmhs"
vec_alu_op_name vec_alu_ops.Cmhi = codes "cmhi"
vec_alu_op_name vec_alu_ops.Fcmeq = codes "fcmeq"
vec_alu_op_name vec_alu_ops.Fcmgt = codes "fcmgt"
vec_alu_op_name vec_alu_ops.Fcmge = codes "fcmge"
vec_alu_op_name vec_alu_ops.And = codes "and"
vec_alu_op_name vec_alu_ops.Bic = codes "bic"
vec_alu_op_name vec_alu_ops.Orr = codes "orr"
vec_alu_op_name vec_alu_ops.Orn = codes "orn"
vec_alu_op_name vec_alu_ops.Eor = codes "eor"
vec_alu_op_name vec_alu_ops.Umaxp = codes "umaxp"
vec_alu_op_name vec_alu_ops.Add = codes "add"
vec_alu_op_name vec_alu_ops.Sub = codes "sub"
vec_alu_op_name vec_alu_ops.Mul = codes "mul"
vec_alu_op_name vec_alu_ops.Sshl = codes "sshl"
vec_alu_op_name vec_alu_ops.Ushl = codes "ushl"
vec_alu_op_name vec_alu_ops.Umin = codes "umin"
vec_alu_op_name vec_alu_ops.Smin = codes "smin"
vec_alu_op_name vec_alu_ops.Umax = codes "umax"
vec_alu_op_name vec_alu_ops.Smax = codes "smax"
vec_alu_op_name vec_alu_ops.Urhadd = codes "urhadd"
vec_alu_op_name vec_alu_ops.Fadd = codes "fadd"
vec_alu_op_name vec_alu_ops.Fsub = codes "fsub"
vec_alu_op_name vec_alu_ops.Fdiv = codes "fdiv"
vec_alu_op_name vec_alu_ops.Fmax = codes "fmax"
vec_alu_op_name vec_alu_ops.Fmin = codes "fmin"
vec_alu_op_name vec_alu_ops.Fmul = codes "fmul"
vec_alu_op_name vec_alu_ops.Addp = codes "addp"
vec_alu_op_name vec_alu_ops.Zip1 = codes "zip1"
vec_alu_op_name vec_alu_ops.Zip2 = codes "zip2"
vec_alu_op_name vec_alu_ops.Sqrdmulh = codes "sqrdmulh"
vec_alu_op_name vec_alu_ops.Uzp1 = codes "uzp1"
vec_alu_op_name vec_alu_ops.Uzp2 = codes "uzp2"
vec_alu_op_name vec_alu_ops.Trn1 = codes "trn1"
vec_alu_op_name vec_alu_ops.Trn2 = codes "trn2"

abbrev pub vec_alu_mod_op_name : VecALUModOp → List ℕ
vec_alu_mod_op_name vec_alu_mod_ops.Bsl = codes "bsl"
vec_alu_mod_op_name vec_alu_mod_ops.Fmla = codes "fmla"
vec_alu_mod_op_name vec_alu_mod_ops.Fmls = codes "fmls"
vec_alu_mod_op_name vec_alu_mod_ops.Sdot = codes "sdot"
vec_alu_mod_op_name vec_alu_mod_ops.Usdot = codes "usdot"

abbrev pub vec_misc2_name : VecMisc2 → List ℕ
vec_misc2_name vec_misc2s.Not = codes "mvn"
vec_misc2_name vec_misc2s.Neg = codes "neg"
vec_misc2_name vec_misc2s.Abs = codes "abs"
vec_misc2_name vec_misc2s.Fabs = codes "fabs"
vec_misc2_name vec_misc2s.Fneg = codes "fneg"
vec_misc2_name vec_misc2s.Fsqrt = codes "fsqrt"
vec_misc2_name vec_misc2s.Rev16 = codes "rev16"
vec_misc2_name vec_misc2s.Rev32 = codes "rev32"
vec_misc2_name vec_misc2s.Rev64 = codes "rev64"
vec_misc2_name vec_misc2s.Fcvtzs = codes "fcvtzs"
vec_misc2_name vec_misc2s.Fcvtzu = codes "fcvtzu"
vec_misc2_name vec_misc2s.Scvtf = codes "scvtf"
vec_misc2_name vec_misc2s.Ucvtf = codes "ucvtf"
vec_misc2_name vec_misc2s.Frintn = codes "frintn"
vec_misc2_name vec_misc2s.Frintz = codes "frintz"
vec_misc2_name vec_misc2s.Frintm = codes "frintm"
vec_misc2_name vec_misc2s.Frintp = codes "frintp"
vec_misc2_name vec_misc2s.Cnt = codes "cnt"
vec_misc2_name vec_misc2s.Cmeq0 = codes "cmeq"
vec_misc2_name vec_misc2s.Cmge0 = codes "cmge"
vec_misc2_name vec_misc2s.Cmgt0 = codes "cmgt"
vec_misc2_name vec_misc2s.Cmle0 = codes "cmle"
vec_misc2_name vec_misc2s.Cmlt0 = codes "cmlt"
vec_misc2_name vec_misc2s.Fcmeq0 = codes "fcmeq"
vec_misc2_name vec_misc2s.Fcmge0 = codes "fcmge"
vec_misc2_name vec_misc2s.Fcmgt0 = codes "fcmgt"
vec_misc2_name vec_misc2s.Fcmle0 = codes "fcmle"
vec_misc2_name vec_misc2s.Fcmlt0 = codes "fcmlt"

abbrev pub vec_lanes_op_name : VecLanesOp → List ℕ
vec_lanes_op_name vec_lanes_ops.Addv = codes "addv"
vec_lanes_op_name vec_lanes_ops.Uminv = codes "uminv"

abbrev pub vec_extend_op_name : VecExtendOp → List ℕ
vec_extend_op_name vec_extend_ops.Sxtl = codes "sxtl"
vec_extend_op_name vec_extend_ops.Uxtl = codes "uxtl"

abbrev pub vec_rr_long_op_name : VecRRLongOp → List ℕ
vec_rr_long_op_name vec_rr_long_ops.Fcvtl16 = codes "fcvtl"
vec_rr_long_op_name vec_rr_long_ops.Fcvtl32 = codes "fcvtl"
vec_rr_long_op_name vec_rr_long_ops.Shll8 = codes "shll"
vec_rr_long_op_name vec_rr_long_ops.Shll16 = codes "shll"
vec_rr_long_op_name vec_rr_long_ops.Shll32 = codes "shll"

abbrev pub vec_rr_narrow_op_name : VecRRNarrowOp → List ℕ
vec_rr_narrow_op_name vec_rr_narrow_ops.Xtn = codes "xtn"
vec_rr_narrow_op_name vec_rr_narrow_ops.Sqxtn = codes "sqxtn"
vec_rr_narrow_op_name vec_rr_narrow_ops.Sqxtun = codes "sqxtun"
vec_rr_narrow_op_name vec_rr_narrow_ops.Uqxtn = codes "uqxtn"
vec_rr_narrow_op_name vec_rr_narrow_ops.Fcvtn = codes "fcvtn"

abbrev pub vec_pair_op_name : VecPairOp → List ℕ
vec_pair_op_name vec_pair_ops.Addp = codes "addp"

abbrev pub vec_rr_pair_long_op_name : VecRRPairLongOp → List ℕ
vec_rr_pair_long_op_name vec_rr_pair_long_ops.Saddlp8 = codes "saddlp"
vec_rr_pair_long_op_name vec_rr_pair_long_ops.Saddlp16 = codes "saddlp"
vec_rr_pair_long_op_name vec_rr_pair_long_ops.Uaddlp8 = codes "uaddlp"
vec_rr_pair_long_op_name vec_rr_pair_long_ops.Uaddlp16 = codes "uaddlp"

abbrev pub vec_rrr_long_op_name : VecRRRLongOp → List ℕ
vec_rrr_long_op_name vec_rrr_long_ops.Smull8 = codes "smull"
vec_rrr_long_op_name vec_rrr_long_ops.Smull16 = codes "smull"
vec_rrr_long_op_name vec_rrr_long_ops.Smull32 = codes "smull"
vec_rrr_long_op_name vec_rrr_long_ops.Umull8 = codes "umull"
vec_rrr_long_op_name vec_rrr_long_ops.Umull16 = codes "umull"
vec_rrr_long_op_name vec_rrr_long_ops.Umull32 = codes "umull"

abbrev pub vec_rrr_long_mod_op_name : VecRRRLongModOp → List ℕ
vec_rrr_long_mod_op_name vec_rrr_long_mod_ops.Umlal8 = codes "umlal"
vec_rrr_long_mod_op_name vec_rrr_long_mod_ops.Umlal16 = codes "umlal"
vec_rrr_long_mod_op_name vec_rrr_long_mod_ops.Umlal32 = codes "umlal"

abbrev pub vec_shift_imm_op_name : VecShiftImmOp → List ℕ
vec_shift_imm_op_name vec_shift_imm_ops.Shl = codes "shl"
vec_shift_imm_op_name vec_shift_imm_ops.Ushr = codes "ushr"
vec_shift_imm_op_name vec_shift_imm_ops.Sshr = codes "sshr"

abbrev pub vec_shift_imm_mod_op_name : VecShiftImmModOp → List ℕ
vec_shift_imm_mod_op_name vec_shift_imm_mod_ops.Sli = codes "sli"
