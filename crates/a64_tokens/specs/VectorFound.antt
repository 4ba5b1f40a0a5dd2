-- What has a name stands where its name leads.
use Rattle.std.specs.Prelude.{◌≡◌, map, Option, Some, refl}
use Rattle.a64_ops.specs.declared.vector.VecALUOp.{VecALUOp}
use Rattle.a64_ops.specs.declared.vector.VecALUOp.TheVariants as vec_alu_ops
use Rattle.a64_ops.specs.declared.vector.VecMisc2.{VecMisc2}
use Rattle.a64_ops.specs.declared.vector.VecMisc2.TheVariants as vec_misc2s
use Rattle.a64_tokens.specs.declared.vector_operator.TheConstants.{VEC_ALU_OP_HOMES}
use Rattle.a64_tokens.specs.declared.vector_operator.TheConstants.{VEC_MISC2_HOMES, VEC_MISC2S}
use Rattle.a64_tokens.specs.Hash.{look_up}
use Rattle.a64_tokens.specs.VectorOperators.{vec_alu_op_text, vec_misc2_text}
use Rattle.a64_tokens.specs.VectorRows.{vec_alu_op_rows}

pub vec_alu_op_found : (x : VecALUOp)
    → look_up VEC_ALU_OP_HOMES vec_alu_op_rows (vec_alu_op_text x) ≡ Some x
vec_alu_op_found vec_alu_ops.Sqadd = refl
vec_alu_op_found _ = refl

pub vec_misc2_found : (x : VecMisc2)
    → look_up VEC_MISC2_HOMES (λ _. map (λ row. row.2) VEC_MISC2S) (vec_misc2_text x) ≡ Some x
vec_misc2_found vec_misc2s.Not = refl
vec_misc2_found _ = refl
