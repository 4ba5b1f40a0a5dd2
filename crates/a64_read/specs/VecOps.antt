-- The operators of vector instructions, as fields.
use Rattle.std.specs.Prelude.{ℕ, ◌≡◌, List, refl}
use Rattle.a64_ops.specs.declared.vector.VecALUOp.{VecALUOp}
use Rattle.a64_ops.specs.declared.vector.VecALUOp.TheVariants as vec_alu_ops
use Rattle.a64_ops.specs.declared.vector.VecALUModOp.{VecALUModOp}
use Rattle.a64_ops.specs.declared.vector.VecALUModOp.TheVariants as vec_alu_mod_ops
use Rattle.a64_ops.specs.declared.vector.VecMisc2.{VecMisc2}
use Rattle.a64_ops.specs.declared.vector.VecMisc2.TheVariants as vec_misc2s
use Rattle.a64_ops.specs.declared.vector.VecLanesOp.{VecLanesOp}
use Rattle.a64_ops.specs.declared.vector.VecLanesOp.TheVariants as vec_lanes_ops
use Rattle.a64_ops.specs.declared.vector.VecExtendOp.{VecExtendOp}
use Rattle.a64_ops.specs.declared.vector.VecExtendOp.TheVariants as vec_extend_ops
use Rattle.a64_ops.specs.declared.vector.VecRRLongOp.{VecRRLongOp}
use Rattle.a64_ops.specs.declared.vector.VecRRLongOp.TheVariants as vec_rr_long_ops
use Rattle.a64_ops.specs.declared.vector.VecRRNarrowOp.{VecRRNarrowOp}
use Rattle.a64_ops.specs.declared.vector.VecRRNarrowOp.TheVariants as vec_rr_narrow_ops
use Rattle.a64_ops.specs.declared.vector.VecPairOp.{VecPairOp}
use Rattle.a64_ops.specs.declared.vector.VecPairOp.TheVariants as vec_pair_ops
use Rattle.a64_ops.specs.declared.vector.VecRRPairLongOp.{VecRRPairLongOp}
use Rattle.a64_ops.specs.declared.vector.VecRRPairLongOp.TheVariants as vec_rr_pair_long_ops
use Rattle.a64_ops.specs.declared.vector.VecRRRLongOp.{VecRRRLongOp}
use Rattle.a64_ops.specs.declared.vector.VecRRRLongOp.TheVariants as vec_rrr_long_ops
use Rattle.a64_ops.specs.declared.vector.VecRRRLongModOp.{VecRRRLongModOp}
use Rattle.a64_ops.specs.declared.vector.VecRRRLongModOp.TheVariants as vec_rrr_long_mod_ops
use Rattle.a64_ops.specs.declared.vector.VecShiftImmOp.{VecShiftImmOp}
use Rattle.a64_ops.specs.declared.vector.VecShiftImmOp.TheVariants as vec_shift_imm_ops
use Rattle.a64_ops.specs.declared.vector.VecShiftImmModOp.{VecShiftImmModOp}
use Rattle.a64_ops.specs.declared.vector.VecShiftImmModOp.TheVariants as vec_shift_imm_mod_ops
use Rattle.a64_tokens.specs.declared.vec_op.VecOp.{VecOp}
use Rattle.a64_tokens.specs.declared.vec_op.VecOp.TheVariants as vec_ops
use Rattle.a64_tokens.specs.declared.vec_op.VecOpKind.{VecOpKind}
use Rattle.a64_tokens.specs.declared.vec_op.VecOpKind.TheVariants as vec_kinds
use Rattle.a64_tokens.specs.VectorOperators.{vec_alu_mod_op_text, vec_alu_op_text}
use Rattle.a64_tokens.specs.VectorOperators.{vec_extend_op_text, vec_lanes_op_text, vec_misc2_text}
use Rattle.a64_tokens.specs.VectorOperators.{vec_pair_op_text, vec_rr_long_op_text}
use Rattle.a64_tokens.specs.VectorOperators.{vec_rr_narrow_op_text, vec_rr_pair_long_op_text}
use Rattle.a64_tokens.specs.VectorOperators.{vec_rrr_long_mod_op_text, vec_rrr_long_op_text}
use Rattle.a64_tokens.specs.VectorOperators.{vec_shift_imm_mod_op_text, vec_shift_imm_op_text}

abbrev pub vec_op_kind : VecOp → VecOpKind
vec_op_kind (vec_ops.Alu x) = vec_kinds.Alu
vec_op_kind (vec_ops.AluMod x) = vec_kinds.AluMod
vec_op_kind (vec_ops.Misc2 x) = vec_kinds.Misc2
vec_op_kind (vec_ops.Lanes x) = vec_kinds.Lanes
vec_op_kind (vec_ops.Extend x) = vec_kinds.Extend
vec_op_kind (vec_ops.RRLong x) = vec_kinds.RRLong
vec_op_kind (vec_ops.RRNarrow x) = vec_kinds.RRNarrow
vec_op_kind (vec_ops.Pair x) = vec_kinds.Pair
vec_op_kind (vec_ops.RRPairLong x) = vec_kinds.RRPairLong
vec_op_kind (vec_ops.RRRLong x) = vec_kinds.RRRLong
vec_op_kind (vec_ops.RRRLongMod x) = vec_kinds.RRRLongMod
vec_op_kind (vec_ops.ShiftImm x) = vec_kinds.ShiftImm
vec_op_kind (vec_ops.ShiftImmMod x) = vec_kinds.ShiftImmMod

-- an operator is its name
abbrev pub vec_op_text : VecOp → List ℕ
vec_op_text (vec_ops.Alu x) = vec_alu_op_text x
vec_op_text (vec_ops.AluMod x) = vec_alu_mod_op_text x
vec_op_text (vec_ops.Misc2 x) = vec_misc2_text x
vec_op_text (vec_ops.Lanes x) = vec_lanes_op_text x
vec_op_text (vec_ops.Extend x) = vec_extend_op_text x
vec_op_text (vec_ops.RRLong x) = vec_rr_long_op_text x
vec_op_text (vec_ops.RRNarrow x) = vec_rr_narrow_op_text x
vec_op_text (vec_ops.Pair x) = vec_pair_op_text x
vec_op_text (vec_ops.RRPairLong x) = vec_rr_pair_long_op_text x
vec_op_text (vec_ops.RRRLong x) = vec_rrr_long_op_text x
vec_op_text (vec_ops.RRRLongMod x) = vec_rrr_long_mod_op_text x
vec_op_text (vec_ops.ShiftImm x) = vec_shift_imm_op_text x
vec_op_text (vec_ops.ShiftImmMod x) = vec_shift_imm_mod_op_text x

-- ---- the operator of a kind, which is some operator of it where another stands

abbrev pub vec_alu_op_in : VecOp → VecALUOp
vec_alu_op_in (vec_ops.Alu x) = x
vec_alu_op_in _ = vec_alu_ops.Sqadd

abbrev pub vec_alu_mod_op_in : VecOp → VecALUModOp
vec_alu_mod_op_in (vec_ops.AluMod x) = x
vec_alu_mod_op_in _ = vec_alu_mod_ops.Bsl

abbrev pub vec_misc2_in : VecOp → VecMisc2
vec_misc2_in (vec_ops.Misc2 x) = x
vec_misc2_in _ = vec_misc2s.Not

abbrev pub vec_lanes_op_in : VecOp → VecLanesOp
vec_lanes_op_in (vec_ops.Lanes x) = x
vec_lanes_op_in _ = vec_lanes_ops.Addv

abbrev pub vec_extend_op_in : VecOp → VecExtendOp
vec_extend_op_in (vec_ops.Extend x) = x
vec_extend_op_in _ = vec_extend_ops.Sxtl

abbrev pub vec_rr_long_op_in : VecOp → VecRRLongOp
vec_rr_long_op_in (vec_ops.RRLong x) = x
vec_rr_long_op_in _ = vec_rr_long_ops.Fcvtl16

abbrev pub vec_rr_narrow_op_in : VecOp → VecRRNarrowOp
vec_rr_narrow_op_in (vec_ops.RRNarrow x) = x
vec_rr_narrow_op_in _ = vec_rr_narrow_ops.Xtn

abbrev pub vec_pair_op_in : VecOp → VecPairOp
vec_pair_op_in (vec_ops.Pair x) = x
vec_pair_op_in _ = vec_pair_ops.Addp

abbrev pub vec_rr_pair_long_op_in : VecOp → VecRRPairLongOp
vec_rr_pair_long_op_in (vec_ops.RRPairLong x) = x
vec_rr_pair_long_op_in _ = vec_rr_pair_long_ops.Saddlp8

abbrev pub vec_rrr_long_op_in : VecOp → VecRRRLongOp
vec_rrr_long_op_in (vec_ops.RRRLong x) = x
vec_rrr_long_op_in _ = vec_rrr_long_ops.Smull8

abbrev pub vec_rrr_long_mod_op_in : VecOp → VecRRRLongModOp
vec_rrr_long_mod_op_in (vec_ops.RRRLongMod x) = x
vec_rrr_long_mod_op_in _ = vec_rrr_long_mod_ops.Umlal8

abbrev pub vec_shift_imm_op_in : VecOp → VecShiftImmOp
vec_shift_imm_op_in (vec_ops.ShiftImm x) = x
vec_shift_imm_op_in _ = vec_shift_imm_ops.Shl

abbrev pub vec_shift_imm_mod_op_in : VecOp → VecShiftImmModOp
vec_shift_imm_mod_op_in (vec_ops.ShiftImmMod x) = x
vec_shift_imm_mod_op_in _ = vec_shift_imm_mod_ops.Sli

-- an operator of the kind, which is the given one where that is of the kind
abbrev pub as_vec_op : VecOpKind → VecOp → VecOp
as_vec_op vec_kinds.Alu op = vec_ops.Alu (vec_alu_op_in op)
as_vec_op vec_kinds.AluMod op = vec_ops.AluMod (vec_alu_mod_op_in op)
as_vec_op vec_kinds.Misc2 op = vec_ops.Misc2 (vec_misc2_in op)
as_vec_op vec_kinds.Lanes op = vec_ops.Lanes (vec_lanes_op_in op)
as_vec_op vec_kinds.Extend op = vec_ops.Extend (vec_extend_op_in op)
as_vec_op vec_kinds.RRLong op = vec_ops.RRLong (vec_rr_long_op_in op)
as_vec_op vec_kinds.RRNarrow op = vec_ops.RRNarrow (vec_rr_narrow_op_in op)
as_vec_op vec_kinds.Pair op = vec_ops.Pair (vec_pair_op_in op)
as_vec_op vec_kinds.RRPairLong op = vec_ops.RRPairLong (vec_rr_pair_long_op_in op)
as_vec_op vec_kinds.RRRLong op = vec_ops.RRRLong (vec_rrr_long_op_in op)
as_vec_op vec_kinds.RRRLongMod op = vec_ops.RRRLongMod (vec_rrr_long_mod_op_in op)
as_vec_op vec_kinds.ShiftImm op = vec_ops.ShiftImm (vec_shift_imm_op_in op)
as_vec_op vec_kinds.ShiftImmMod op = vec_ops.ShiftImmMod (vec_shift_imm_mod_op_in op)

pub as_own_vec_op : (op : VecOp) → as_vec_op (vec_op_kind op) op ≡ op
as_own_vec_op (vec_ops.Alu x) = refl
as_own_vec_op _ = refl
