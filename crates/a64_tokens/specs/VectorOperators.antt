-- The names of operators of vector instructions.
use Rattle.std.specs.Prelude.{ℕ, List, codes}
use Rattle.a64_ops.specs.declared.vector.VecALUOp.{VecALUOp}
use Rattle.a64_ops.specs.declared.vector.VecALUOp.TheVariants as vec_alu_ops
use Rattle.a64_ops.specs.declared.vector.VecALUModOp.{VecALUModOp}
use Rattle.a64_ops.specs.declared.vector.VecALUModOp.TheVariants as vec_alu_mod_ops
use Rattle.a64_ops.specs.declared.vector.VecMisc2.{VecMisc2}
use Rattle.a64_ops.specs.declared.vector.VecMisc2.TheVariants as vec_misc2s
use Rattle.a64_ops.specs.declared.vector.VecLanesOp.{VecLanesOp}
use Rattle.a64_ops.specs.declared.vector.VecLanesOp.TheVariants as vec_lanes_ops
use Rattle.a64_ops.specs.declared.vector.VecExtendOp.{VecExtendOp}
use Rattle.a64_ops.specs.declared.vector.VecExtendOp.TheVariants as vec_extend_ops
use Rattle.a64_ops.specs.declared.vector.VecRRLongOp.{VecRRLongOp}
use Rattle.a64_ops.specs.declared.vector.VecRRLongOp.TheVariants as vec_rr_long_ops
use Rattle.a64_ops.specs.declared.vector.VecRRNarrowOp.{VecRRNarrowOp}
use Rattle.a64_ops.specs.declared.vector.VecRRNarrowOp.TheVariants as vec_rr_narrow_ops
use Rattle.a64_ops.specs.declared.vector.VecPairOp.{VecPairOp}
use Rattle.a64_ops.specs.declared.vector.VecPairOp.TheVariants as vec_pair_ops
use Rattle.a64_ops.specs.declared.vector.VecRRPairLongOp.{VecRRPairLongOp}
use Rattle.a64_ops.specs.declared.vector.VecRRPairLongOp.TheVariants as vec_rr_pair_long_ops
use Rattle.a64_ops.specs.declared.vector.VecRRRLongOp.{VecRRRLongOp}
use Rattle.a64_ops.specs.declared.vector.VecRRRLongOp.TheVariants as vec_rrr_long_ops
use Rattle.a64_ops.specs.declared.vector.VecRRRLongModOp.{VecRRRLongModOp}
use Rattle.a64_ops.specs.declared.vector.VecRRRLongModOp.TheVariants as vec_rrr_long_mod_ops
use Rattle.a64_ops.specs.declared.vector.VecShiftImmOp.{VecShiftImmOp}
use Rattle.a64_ops.specs.declared.vector.VecShiftImmOp.TheVariants as vec_shift_imm_ops
use Rattle.a64_ops.specs.declared.vector.VecShiftImmModOp.{VecShiftImmModOp}
use Rattle.a64_ops.specs.declared.vector.VecShiftImmModOp.TheVariants as vec_shift_imm_mod_ops

abbrev pub vec_alu_op_text : VecALUOp → List ℕ
vec_alu_op_text vec_alu_ops.Sqadd = codes "Sqadd"
vec_alu_op_text vec_alu_ops.Uqadd = codes "Uqadd"
vec_alu_op_text vec_alu_ops.Sqsub = codes "Sqsub"
vec_alu_op_text vec_alu_ops.Uqsub = codes "Uqsub"
vec_alu_op_text vec_alu_ops.Cmeq = codes "Cmeq"
vec_alu_op_text vec_alu_ops.Cmge = codes "Cmge"
vec_alu_op_text vec_alu_ops.Cmgt = codes "Cmgt"
vec_alu_op_text vec_alu_ops.Cmhs = codes "Cmhs"
vec_alu_op_text vec_alu_ops.Cmhi = codes "Cmhi"
vec_alu_op_text vec_alu_ops.Fcmeq = codes "Fcmeq"
vec_alu_op_text vec_alu_ops.Fcmgt = codes "Fcmgt"
vec_alu_op_text vec_alu_ops.Fcmge = codes "Fcmge"
vec_alu_op_text vec_alu_ops.And = codes "And"
vec_alu_op_text vec_alu_ops.Bic = codes "Bic"
vec_alu_op_text vec_alu_ops.Orr = codes "Orr"
vec_alu_op_text vec_alu_ops.Orn = codes "Orn"
vec_alu_op_text vec_alu_ops.Eor = codes "Eor"
vec_alu_op_text vec_alu_ops.Umaxp = codes "Umaxp"
vec_alu_op_text vec_alu_ops.Add = codes "Add"
vec_alu_op_text vec_alu_ops.Sub = codes "Sub"
vec_alu_op_text vec_alu_ops.Mul = codes "Mul"
vec_alu_op_text vec_alu_ops.Sshl = codes "Sshl"
vec_alu_op_text vec_alu_ops.Ushl = codes "Ushl"
vec_alu_op_text vec_alu_ops.Umin = codes "Umin"
vec_alu_op_text vec_alu_ops.Smin = codes "Smin"
vec_alu_op_text vec_alu_ops.Umax = codes "Umax"
vec_alu_op_text vec_alu_ops.Smax = codes "Smax"
vec_alu_op_text vec_alu_ops.Urhadd = codes "Urhadd"
vec_alu_op_text vec_alu_ops.Fadd = codes "Fadd"
vec_alu_op_text vec_alu_ops.Fsub = codes "Fsub"
vec_alu_op_text vec_alu_ops.Fdiv = codes "Fdiv"
vec_alu_op_text vec_alu_ops.Fmax = codes "Fmax"
vec_alu_op_text vec_alu_ops.Fmin = codes "Fmin"
vec_alu_op_text vec_alu_ops.Fmul = codes "Fmul"
vec_alu_op_text vec_alu_ops.Addp = codes "Addp"
vec_alu_op_text vec_alu_ops.Zip1 = codes "Zip1"
vec_alu_op_text vec_alu_ops.Zip2 = codes "Zip2"
vec_alu_op_text vec_alu_ops.Sqrdmulh = codes "Sqrdmulh"
vec_alu_op_text vec_alu_ops.Uzp1 = codes "Uzp1"
vec_alu_op_text vec_alu_ops.Uzp2 = codes "Uzp2"
vec_alu_op_text vec_alu_ops.Trn1 = codes "Trn1"
vec_alu_op_text vec_alu_ops.Trn2 = codes "Trn2"

abbrev pub vec_alu_mod_op_text : VecALUModOp → List ℕ
vec_alu_mod_op_text vec_alu_mod_ops.Bsl = codes "Bsl"
vec_alu_mod_op_text vec_alu_mod_ops.Fmla = codes "Fmla"
vec_alu_mod_op_text vec_alu_mod_ops.Fmls = codes "Fmls"
vec_alu_mod_op_text vec_alu_mod_ops.Sdot = codes "Sdot"
vec_alu_mod_op_text vec_alu_mod_ops.Usdot = codes "Usdot"

abbrev pub vec_misc2_text : VecMisc2 → List ℕ
vec_misc2_text vec_misc2s.Not = codes "Not"
vec_misc2_text vec_misc2s.Neg = codes "Neg"
vec_misc2_text vec_misc2s.Abs = codes "Abs"
vec_misc2_text vec_misc2s.Fabs = codes "Fabs"
vec_misc2_text vec_misc2s.Fneg = codes "Fneg"
vec_misc2_text vec_misc2s.Fsqrt = codes "Fsqrt"
vec_misc2_text vec_misc2s.Rev16 = codes "Rev16"
vec_misc2_text vec_misc2s.Rev32 = codes "Rev32"
vec_misc2_text vec_misc2s.Rev64 = codes "Rev64"
vec_misc2_text vec_misc2s.Fcvtzs = codes "Fcvtzs"
vec_misc2_text vec_misc2s.Fcvtzu = codes "Fcvtzu"
vec_misc2_text vec_misc2s.Scvtf = codes "Scvtf"
vec_misc2_text vec_misc2s.Ucvtf = codes "Ucvtf"
vec_misc2_text vec_misc2s.Frintn = codes "Frintn"
vec_misc2_text vec_misc2s.Frintz = codes "Frintz"
vec_misc2_text vec_misc2s.Frintm = codes "Frintm"
vec_misc2_text vec_misc2s.Frintp = codes "Frintp"
vec_misc2_text vec_misc2s.Cnt = codes "Cnt"
vec_misc2_text vec_misc2s.Cmeq0 = codes "Cmeq0"
vec_misc2_text vec_misc2s.Cmge0 = codes "Cmge0"
vec_misc2_text vec_misc2s.Cmgt0 = codes "Cmgt0"
vec_misc2_text vec_misc2s.Cmle0 = codes "Cmle0"
vec_misc2_text vec_misc2s.Cmlt0 = codes "Cmlt0"
vec_misc2_text vec_misc2s.Fcmeq0 = codes "Fcmeq0"
vec_misc2_text vec_misc2s.Fcmge0 = codes "Fcmge0"
vec_misc2_text vec_misc2s.Fcmgt0 = codes "Fcmgt0"
vec_misc2_text vec_misc2s.Fcmle0 = codes "Fcmle0"
vec_misc2_text vec_misc2s.Fcmlt0 = codes "Fcmlt0"

abbrev pub vec_lanes_op_text : VecLanesOp → List ℕ
vec_lanes_op_text vec_lanes_ops.Addv = codes "Addv"
vec_lanes_op_text vec_lanes_ops.Uminv = codes "Uminv"

abbrev pub vec_extend_op_text : VecExtendOp → List ℕ
vec_extend_op_text vec_extend_ops.Sxtl = codes "Sxtl"
vec_extend_op_text vec_extend_ops.Uxtl = codes "Uxtl"

abbrev pub vec_rr_long_op_text : VecRRLongOp → List ℕ
vec_rr_long_op_text vec_rr_long_ops.Fcvtl16 = codes "Fcvtl16"
vec_rr_long_op_text vec_rr_long_ops.Fcvtl32 = codes "Fcvtl32"
vec_rr_long_op_text vec_rr_long_ops.Shll8 = codes "Shll8"
vec_rr_long_op_text vec_rr_long_ops.Shll16 = codes "Shll16"
vec_rr_long_op_text vec_rr_long_ops.Shll32 = codes "Shll32"

abbrev pub vec_rr_narrow_op_text : VecRRNarrowOp → List ℕ
vec_rr_narrow_op_text vec_rr_narrow_ops.Xtn = codes "Xtn"
vec_rr_narrow_op_text vec_rr_narrow_ops.Sqxtn = codes "Sqxtn"
vec_rr_narrow_op_text vec_rr_narrow_ops.Sqxtun = codes "Sqxtun"
vec_rr_narrow_op_text vec_rr_narrow_ops.Uqxtn = codes "Uqxtn"
vec_rr_narrow_op_text vec_rr_narrow_ops.Fcvtn = codes "Fcvtn"

abbrev pub vec_pair_op_text : VecPairOp → List ℕ
vec_pair_op_text vec_pair_ops.Addp = codes "Addp"

abbrev pub vec_rr_pair_long_op_text : VecRRPairLongOp → List ℕ
vec_rr_pair_long_op_text vec_rr_pair_long_ops.Saddlp8 = codes "Saddlp8"
vec_rr_pair_long_op_text vec_rr_pair_long_ops.Saddlp16 = codes "Saddlp16"
vec_rr_pair_long_op_text vec_rr_pair_long_ops.Uaddlp8 = codes "Uaddlp8"
vec_rr_pair_long_op_text vec_rr_pair_long_ops.Uaddlp16 = codes "Uaddlp16"

abbrev pub vec_rrr_long_op_text : VecRRRLongOp → List ℕ
vec_rrr_long_op_text vec_rrr_long_ops.Smull8 = codes "Smull8"
vec_rrr_long_op_text vec_rrr_long_ops.Smull16 = codes "Smull16"
vec_rrr_long_op_text vec_rrr_long_ops.Smull32 = codes "Smull32"
vec_rrr_long_op_text vec_rrr_long_ops.Umull8 = codes "Umull8"
vec_rrr_long_op_text vec_rrr_long_ops.Umull16 = codes "Umull16"
vec_rrr_long_op_text vec_rrr_long_ops.Umull32 = codes "Umull32"

abbrev pub vec_rrr_long_mod_op_text : VecRRRLongModOp → List ℕ
vec_rrr_long_mod_op_text vec_rrr_long_mod_ops.Umlal8 = codes "Umlal8"
vec_rrr_long_mod_op_text vec_rrr_long_mod_ops.Umlal16 = codes "Umlal16"
vec_rrr_long_mod_op_text vec_rrr_long_mod_ops.Umlal32 = codes "Umlal32"

abbrev pub vec_shift_imm_op_text : VecShiftImmOp → List ℕ
vec_shift_imm_op_text vec_shift_imm_ops.Shl = codes "Shl"
vec_shift_imm_op_text vec_shift_imm_ops.Ushr = codes "Ushr"
vec_shift_imm_op_text vec_shift_imm_ops.Sshr = codes "Sshr"

abbrev pub vec_shift_imm_mod_op_text : VecShiftImmModOp → List ℕ
vec_shift_imm_mod_op_text vec_shift_imm_mod_ops.Sli = codes "Sli"
