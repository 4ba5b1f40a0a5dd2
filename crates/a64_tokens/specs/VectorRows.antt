-- The rows of the names of operators on two vectors, which are of two classes.
use Rattle.std.specs.Prelude.{ℕ, List, map, ◌==◌, if◌then◌else◌}
use Rattle.a64_ops.specs.declared.vector.VecALUOp.{VecALUOp}
use Rattle.a64_tokens.specs.declared.vector_operator.TheConstants.{VEC_FLOAT_OPS, VEC_INTEGER_OPS}

abbrev pub vec_alu_op_rows : ℕ → List VecALUOp
vec_alu_op_rows class =
    if class == 0 then map (λ row. row.2) VEC_INTEGER_OPS else
    map (λ row. row.2) VEC_FLOAT_OPS
