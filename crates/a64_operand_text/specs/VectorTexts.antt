-- What stands in the texts of vector instructions beside the names of operators and the registers.
use Rattle.std.specs.Prelude.{ℕ, Bool, true, if◌then◌else◌, List, [], ◌∷◌, ◌++◌, codes}
use Rattle.a64_base.specs.declared.size.ScalarSize.{ScalarSize}
use Rattle.a64_base.specs.declared.size.ScalarSize.TheVariants as scalars
use Rattle.a64_base.specs.declared.reg.Reg.{Reg}
use Rattle.a64_base.specs.declared.size.VectorSize.{VectorSize}
use Rattle.a64_base.specs.ScalarSizes.{wider}
use Rattle.a64_ops.specs.Names.{vec_misc2_name, vec_rr_long_op_name}
use Rattle.a64_ops.specs.declared.vector.VecMisc2.{VecMisc2}
use Rattle.a64_ops.specs.declared.vector.VecMisc2.TheVariants as vec_misc2s
use Rattle.a64_ops.specs.declared.vector.VecRRLongOp.{VecRRLongOp}
use Rattle.a64_ops.specs.declared.vector.VecRRLongOp.TheVariants as vec_rr_long_ops
use Rattle.a64_operand_text.specs.declared.operand.Operand.{Operand}
use Rattle.a64_operand_text.specs.declared.operand.Operand.TheVariants as operand
use Rattle.a64_operand_text.specs.LaneSizes.{long_lane, misc_lanes, vector_of}
use Rattle.a64_operand_text.specs.Lines.{line_text}

-- what stands behind the name of an operator on the upper half of the lanes
abbrev pub half_suffix : Bool → List ℕ
half_suffix high_half = if high_half then codes "2" else codes ""

-- a line of an operator on a half of the lanes
unfoldable pub half_text : List ℕ → Bool → List Operand → List ℕ
half_text name high_half operands = name ++ line_text (half_suffix high_half) operands

-- by how much the lanes that are made wider are shifted to the left: by their size, or not at all
abbrev pub long_shift : VecRRLongOp → List Operand
long_shift vec_rr_long_ops.Fcvtl16 = []
long_shift vec_rr_long_ops.Fcvtl32 = []
long_shift vec_rr_long_ops.Shll8 = operand.Number 8 ∷ []
long_shift vec_rr_long_ops.Shll16 = operand.Number 16 ∷ []
long_shift vec_rr_long_ops.Shll32 = operand.Number 32 ∷ []

-- a line of an operator that makes lanes wider
unfoldable pub vec_rr_long_text : VecRRLongOp → Bool → Reg → Reg → List ℕ
vec_rr_long_text op high_half rd rn =
    half_text (vec_rr_long_op_name op) high_half
    (operand.Vector (vector_of (wider (long_lane op)) true) rd
    ∷ operand.Vector (vector_of (long_lane op) high_half) rn ∷ long_shift op)

-- the zero with which lanes are compared
abbrev pub compared_zero : VecMisc2 → List Operand
compared_zero vec_misc2s.Cmeq0 = operand.Number 0 ∷ []
compared_zero vec_misc2s.Cmge0 = operand.Number 0 ∷ []
compared_zero vec_misc2s.Cmgt0 = operand.Number 0 ∷ []
compared_zero vec_misc2s.Cmle0 = operand.Number 0 ∷ []
compared_zero vec_misc2s.Cmlt0 = operand.Number 0 ∷ []
compared_zero vec_misc2s.Fcmeq0 = operand.FloatZero ∷ []
compared_zero vec_misc2s.Fcmge0 = operand.FloatZero ∷ []
compared_zero vec_misc2s.Fcmgt0 = operand.FloatZero ∷ []
compared_zero vec_misc2s.Fcmle0 = operand.FloatZero ∷ []
compared_zero vec_misc2s.Fcmlt0 = operand.FloatZero ∷ []
compared_zero _ = []

-- a line of an operator on one vector
unfoldable pub vec_misc_text : VecMisc2 → VectorSize → Reg → Reg → List ℕ
vec_misc_text op size rd rn =
    line_text (vec_misc2_name op) (operand.Vector (misc_lanes op size) rd
    ∷ operand.Vector (misc_lanes op size) rn ∷ compared_zero op)

-- the name of a move of a lane to an integer register, which fills it with zeros
abbrev pub lane_move_name : ScalarSize → List ℕ
lane_move_name scalars.Size8 = codes "umov"
lane_move_name scalars.Size16 = codes "umov"
lane_move_name _ = codes "mov"

-- the name of a move of an immediate to all lanes
abbrev pub vector_imm_name : Bool → List ℕ
vector_imm_name invert = if invert then codes "mvni" else codes "movi"
