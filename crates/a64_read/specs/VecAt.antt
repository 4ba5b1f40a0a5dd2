-- The operators of vector instructions among the fields of an entry, each at its place.
use Rattle.std.specs.Prelude.{ℕ, List}
use Rattle.a64_ops.specs.declared.vector.VecALUOp.{VecALUOp}
use Rattle.a64_ops.specs.declared.vector.VecALUModOp.{VecALUModOp}
use Rattle.a64_ops.specs.declared.vector.VecMisc2.{VecMisc2}
use Rattle.a64_ops.specs.declared.vector.VecLanesOp.{VecLanesOp}
use Rattle.a64_ops.specs.declared.vector.VecExtendOp.{VecExtendOp}
use Rattle.a64_ops.specs.declared.vector.VecRRLongOp.{VecRRLongOp}
use Rattle.a64_ops.specs.declared.vector.VecRRNarrowOp.{VecRRNarrowOp}
use Rattle.a64_ops.specs.declared.vector.VecPairOp.{VecPairOp}
use Rattle.a64_ops.specs.declared.vector.VecRRPairLongOp.{VecRRPairLongOp}
use Rattle.a64_ops.specs.declared.vector.VecRRRLongOp.{VecRRRLongOp}
use Rattle.a64_ops.specs.declared.vector.VecRRRLongModOp.{VecRRRLongModOp}
use Rattle.a64_ops.specs.declared.vector.VecShiftImmOp.{VecShiftImmOp}
use Rattle.a64_ops.specs.declared.vector.VecShiftImmModOp.{VecShiftImmModOp}
use Rattle.a64_tokens.specs.declared.value.Value.{Value}
use Rattle.a64_read.specs.At.{vec_op_at}
use Rattle.a64_read.specs.VecOps.{vec_alu_mod_op_in, vec_alu_op_in, vec_extend_op_in}
use Rattle.a64_read.specs.VecOps.{vec_lanes_op_in, vec_misc2_in, vec_pair_op_in, vec_rr_long_op_in}
use Rattle.a64_read.specs.VecOps.{vec_rr_narrow_op_in, vec_rr_pair_long_op_in}
use Rattle.a64_read.specs.VecOps.{vec_rrr_long_mod_op_in, vec_rrr_long_op_in}
use Rattle.a64_read.specs.VecOps.{vec_shift_imm_mod_op_in, vec_shift_imm_op_in}

abbrev pub vec_alu_op_at : List Value → ℕ → VecALUOp
vec_alu_op_at values i = vec_alu_op_in (vec_op_at values i)

abbrev pub vec_alu_mod_op_at : List Value → ℕ → VecALUModOp
vec_alu_mod_op_at values i = vec_alu_mod_op_in (vec_op_at values i)

abbrev pub vec_misc2_at : List Value → ℕ → VecMisc2
vec_misc2_at values i = vec_misc2_in (vec_op_at values i)

abbrev pub vec_lanes_op_at : List Value → ℕ → VecLanesOp
vec_lanes_op_at values i = vec_lanes_op_in (vec_op_at values i)

abbrev pub vec_extend_op_at : List Value → ℕ → VecExtendOp
vec_extend_op_at values i = vec_extend_op_in (vec_op_at values i)

abbrev pub vec_rr_long_op_at : List Value → ℕ → VecRRLongOp
vec_rr_long_op_at values i = vec_rr_long_op_in (vec_op_at values i)

abbrev pub vec_rr_narrow_op_at : List Value → ℕ → VecRRNarrowOp
vec_rr_narrow_op_at values i = vec_rr_narrow_op_in (vec_op_at values i)

abbrev pub vec_pair_op_at : List Value → ℕ → VecPairOp
vec_pair_op_at values i = vec_pair_op_in (vec_op_at values i)

abbrev pub vec_rr_pair_long_op_at : List Value → ℕ → VecRRPairLongOp
vec_rr_pair_long_op_at values i = vec_rr_pair_long_op_in (vec_op_at values i)

abbrev pub vec_rrr_long_op_at : List Value → ℕ → VecRRRLongOp
vec_rrr_long_op_at values i = vec_rrr_long_op_in (vec_op_at values i)

abbrev pub vec_rrr_long_mod_op_at : List Value → ℕ → VecRRRLongModOp
vec_rrr_long_mod_op_at values i = vec_rrr_long_mod_op_in (vec_op_at values i)

abbrev pub vec_shift_imm_op_at : List Value → ℕ → VecShiftImmOp
vec_shift_imm_op_at values i = vec_shift_imm_op_in (vec_op_at values i)

abbrev pub vec_shift_imm_mod_op_at : List Value → ℕ → VecShiftImmModOp
vec_shift_imm_mod_op_at values i = vec_shift_imm_mod_op_in (vec_op_at values i)
