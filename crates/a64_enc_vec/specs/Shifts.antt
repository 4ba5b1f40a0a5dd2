-- The fields immh and immb of shifts of lanes by a number, as one (Arm Architecture Reference
-- Manual, DDI 0487, C4.1, "Advanced SIMD shift by immediate").
use Rattle.std.specs.Prelude.{ℕ, ◌+◌, ◌-◌, ◌*◌}
use Rattle.a64_base.specs.declared.size.VectorSize.{VectorSize}
use Rattle.a64_operand.specs.VectorOperands.{lane_bits}
use Rattle.a64_ops.specs.declared.vector.VecShiftImmOp.{VecShiftImmOp}
use Rattle.a64_ops.specs.declared.vector.VecShiftImmOp.TheVariants.{Shl, Ushr, Sshr}

-- those of a shift to the left: the lane's bits plus the amount
abbrev pub left_shift_field : VectorSize → ℕ → ℕ
left_shift_field size imm = lane_bits size + imm

-- and of one to the right: twice the lane's bits less the amount
abbrev pub right_shift_field : VectorSize → ℕ → ℕ
right_shift_field size imm = 2 * lane_bits size - imm

abbrev pub shift_field : VecShiftImmOp → VectorSize → ℕ → ℕ
shift_field Shl size imm = left_shift_field size imm
shift_field Ushr size imm = right_shift_field size imm
shift_field Sshr size imm = right_shift_field size imm
