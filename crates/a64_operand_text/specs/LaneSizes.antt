-- The lanes of operands, by operators and halves. Each table is total; a row that no instruction
-- has is not read.
use Rattle.std.specs.Prelude.{Bool, if◌then◌else◌}
use Rattle.a64_base.specs.declared.size.ScalarSize.{ScalarSize}
use Rattle.a64_base.specs.declared.size.ScalarSize.TheVariants as scalars
use Rattle.a64_base.specs.declared.size.VectorSize.{VectorSize}
use Rattle.a64_base.specs.declared.size.VectorSize.TheVariants as vectors
use Rattle.a64_base.specs.VectorSizes.{byte_lanes}
use Rattle.a64_ops.specs.declared.vector.VecALUModOp.{VecALUModOp}
use Rattle.a64_ops.specs.declared.vector.VecALUModOp.TheVariants as vec_alu_mod_ops
use Rattle.a64_ops.specs.declared.vector.VecALUOp.{VecALUOp}
use Rattle.a64_ops.specs.declared.vector.VecALUOp.TheVariants as vec_alu_ops
use Rattle.a64_ops.specs.declared.vector.VecMisc2.{VecMisc2}
use Rattle.a64_ops.specs.declared.vector.VecMisc2.TheVariants as vec_misc2s
use Rattle.a64_ops.specs.declared.vector.VecRRLongOp.{VecRRLongOp}
use Rattle.a64_ops.specs.declared.vector.VecRRLongOp.TheVariants as vec_rr_long_ops
use Rattle.a64_ops.specs.declared.vector.VecRRPairLongOp.{VecRRPairLongOp}
use Rattle.a64_ops.specs.declared.vector.VecRRPairLongOp.TheVariants as vec_rr_pair_long_ops
use Rattle.a64_ops.specs.declared.vector.VecRRRLongOp.{VecRRRLongOp}
use Rattle.a64_ops.specs.declared.vector.VecRRRLongOp.TheVariants as vec_rrr_long_ops
use Rattle.a64_ops.specs.declared.vector.VecRRRLongModOp.{VecRRRLongModOp}
use Rattle.a64_ops.specs.declared.vector.VecRRRLongModOp.TheVariants as vec_rrr_long_mod_ops

-- the vector with lanes of this size, of 128 bits or of 64. No instruction has lanes of 128 bits,
-- or a single lane of 64
abbrev pub vector_of : ScalarSize → Bool → VectorSize
vector_of scalars.Size8 full = if full then vectors.Size8x16 else vectors.Size8x8
vector_of scalars.Size16 full = if full then vectors.Size16x8 else vectors.Size16x4
vector_of scalars.Size32 full = if full then vectors.Size32x4 else vectors.Size32x2
vector_of scalars.Size64 full = vectors.Size64x2
vector_of scalars.Size128 full = vectors.Size64x2

-- the lanes that are made wider
abbrev pub long_lane : VecRRLongOp → ScalarSize
long_lane vec_rr_long_ops.Fcvtl16 = scalars.Size16
long_lane vec_rr_long_ops.Fcvtl32 = scalars.Size32
long_lane vec_rr_long_ops.Shll8 = scalars.Size8
long_lane vec_rr_long_ops.Shll16 = scalars.Size16
long_lane vec_rr_long_ops.Shll32 = scalars.Size32

-- the lanes that are added in pairs
abbrev pub pair_long_lane : VecRRPairLongOp → ScalarSize
pair_long_lane vec_rr_pair_long_ops.Saddlp8 = scalars.Size8
pair_long_lane vec_rr_pair_long_ops.Saddlp16 = scalars.Size16
pair_long_lane vec_rr_pair_long_ops.Uaddlp8 = scalars.Size8
pair_long_lane vec_rr_pair_long_ops.Uaddlp16 = scalars.Size16

-- the lanes that are multiplied
abbrev pub product_lane : VecRRRLongOp → ScalarSize
product_lane vec_rrr_long_ops.Smull8 = scalars.Size8
product_lane vec_rrr_long_ops.Smull16 = scalars.Size16
product_lane vec_rrr_long_ops.Smull32 = scalars.Size32
product_lane vec_rrr_long_ops.Umull8 = scalars.Size8
product_lane vec_rrr_long_ops.Umull16 = scalars.Size16
product_lane vec_rrr_long_ops.Umull32 = scalars.Size32

-- the lanes that are multiplied, where the products are added
abbrev pub added_product_lane : VecRRRLongModOp → ScalarSize
added_product_lane vec_rrr_long_mod_ops.Umlal8 = scalars.Size8
added_product_lane vec_rrr_long_mod_ops.Umlal16 = scalars.Size16
added_product_lane vec_rrr_long_mod_ops.Umlal32 = scalars.Size32

-- the lanes of an operator on two vectors: an operator on bits has bytes
abbrev pub alu_lanes : VecALUOp → VectorSize → VectorSize
alu_lanes vec_alu_ops.And size = byte_lanes size
alu_lanes vec_alu_ops.Bic size = byte_lanes size
alu_lanes vec_alu_ops.Orr size = byte_lanes size
alu_lanes vec_alu_ops.Orn size = byte_lanes size
alu_lanes vec_alu_ops.Eor size = byte_lanes size
alu_lanes _ size = size

-- the lanes of an operator on two vectors and the result
abbrev pub alu_mod_lanes : VecALUModOp → VectorSize → VectorSize
alu_mod_lanes vec_alu_mod_ops.Bsl size = vectors.Size8x16
alu_mod_lanes vec_alu_mod_ops.Sdot size = vectors.Size32x4
alu_mod_lanes vec_alu_mod_ops.Usdot size = vectors.Size32x4
alu_mod_lanes _ size = size

-- the lanes of an operator on one vector: that on bits has bytes
abbrev pub misc_lanes : VecMisc2 → VectorSize → VectorSize
misc_lanes vec_misc2s.Not size = byte_lanes size
misc_lanes _ size = size
