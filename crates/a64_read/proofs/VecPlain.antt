-- No name of an operator of a vector instruction has a space.
use Rattle.std.specs.Prelude.{refl}
use Rattle.a64_ops.specs.declared.vector.VecALUOp.{VecALUOp}
use Rattle.a64_ops.specs.declared.vector.VecALUOp.TheVariants as vec_alu_ops
use Rattle.a64_ops.specs.declared.vector.VecALUModOp.{VecALUModOp}
use Rattle.a64_ops.specs.declared.vector.VecALUModOp.TheVariants as vec_alu_mod_ops
use Rattle.a64_ops.specs.declared.vector.VecMisc2.{VecMisc2}
use Rattle.a64_ops.specs.declared.vector.VecMisc2.TheVariants as vec_misc2s
use Rattle.a64_ops.specs.declared.vector.VecLanesOp.{VecLanesOp}
use Rattle.a64_ops.specs.declared.vector.VecLanesOp.TheVariants as vec_lanes_ops
use Rattle.a64_ops.specs.declared.vector.VecExtendOp.{VecExtendOp}
use Rattle.a64_ops.specs.declared.vector.VecExtendOp.TheVariants as vec_extend_ops
use Rattle.a64_ops.specs.declared.vector.VecRRLongOp.{VecRRLongOp}
use Rattle.a64_ops.specs.declared.vector.VecRRLongOp.TheVariants as vec_rr_long_ops
use Rattle.a64_ops.specs.declared.vector.VecRRNarrowOp.{VecRRNarrowOp}
use Rattle.a64_ops.specs.declared.vector.VecRRNarrowOp.TheVariants as vec_rr_narrow_ops
use Rattle.a64_ops.specs.declared.vector.VecPairOp.{VecPairOp}
use Rattle.a64_ops.specs.declared.vector.VecPairOp.TheVariants as vec_pair_ops
use Rattle.a64_ops.specs.declared.vector.VecRRPairLongOp.{VecRRPairLongOp}
use Rattle.a64_ops.specs.declared.vector.VecRRPairLongOp.TheVariants as vec_rr_pair_long_ops
use Rattle.a64_ops.specs.declared.vector.VecRRRLongOp.{VecRRRLongOp}
use Rattle.a64_ops.specs.declared.vector.VecRRRLongOp.TheVariants as vec_rrr_long_ops
use Rattle.a64_ops.specs.declared.vector.VecRRRLongModOp.{VecRRRLongModOp}
use Rattle.a64_ops.specs.declared.vector.VecRRRLongModOp.TheVariants as vec_rrr_long_mod_ops
use Rattle.a64_ops.specs.declared.vector.VecShiftImmOp.{VecShiftImmOp}
use Rattle.a64_ops.specs.declared.vector.VecShiftImmOp.TheVariants as vec_shift_imm_ops
use Rattle.a64_ops.specs.declared.vector.VecShiftImmModOp.{VecShiftImmModOp}
use Rattle.a64_ops.specs.declared.vector.VecShiftImmModOp.TheVariants as vec_shift_imm_mod_ops
use Rattle.a64_tokens.specs.declared.vec_op.VecOp.{VecOp}
use Rattle.a64_tokens.specs.declared.vec_op.VecOp.TheVariants as vec_ops
use Rattle.a64_tokens.specs.Fields.{HasNo}
use Rattle.a64_read.specs.VecOps.{vec_op_text}

pub vec_op_plain : (x : VecOp) → HasNo 32 (vec_op_text x)
vec_op_plain (vec_ops.Alu vec_alu_ops.Sqadd) = refl
vec_op_plain (vec_ops.Alu _) = refl
vec_op_plain (vec_ops.AluMod vec_alu_mod_ops.Bsl) = refl
vec_op_plain (vec_ops.AluMod _) = refl
vec_op_plain (vec_ops.Misc2 vec_misc2s.Not) = refl
vec_op_plain (vec_ops.Misc2 _) = refl
vec_op_plain (vec_ops.Lanes vec_lanes_ops.Addv) = refl
vec_op_plain (vec_ops.Lanes _) = refl
vec_op_plain (vec_ops.Extend vec_extend_ops.Sxtl) = refl
vec_op_plain (vec_ops.Extend _) = refl
vec_op_plain (vec_ops.RRLong vec_rr_long_ops.Fcvtl16) = refl
vec_op_plain (vec_ops.RRLong _) = refl
vec_op_plain (vec_ops.RRNarrow vec_rr_narrow_ops.Xtn) = refl
vec_op_plain (vec_ops.RRNarrow _) = refl
vec_op_plain (vec_ops.Pair vec_pair_ops.Addp) = refl
vec_op_plain (vec_ops.RRPairLong vec_rr_pair_long_ops.Saddlp8) = refl
vec_op_plain (vec_ops.RRPairLong _) = refl
vec_op_plain (vec_ops.RRRLong vec_rrr_long_ops.Smull8) = refl
vec_op_plain (vec_ops.RRRLong _) = refl
vec_op_plain (vec_ops.RRRLongMod vec_rrr_long_mod_ops.Umlal8) = refl
vec_op_plain (vec_ops.RRRLongMod _) = refl
vec_op_plain (vec_ops.ShiftImm vec_shift_imm_ops.Shl) = refl
vec_op_plain (vec_ops.ShiftImm _) = refl
vec_op_plain (vec_ops.ShiftImmMod vec_shift_imm_mod_ops.Sli) = refl
