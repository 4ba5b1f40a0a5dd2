-- Amounts of shifts against the bits of lanes.
use Rattle.std.specs.Prelude.{ℕ, ◌≡◌, ◌≤◌, true, nat_lt, nat_le}
use Rattle.std.proofs.lemmas.Bool.{and_parts, leb-true}
use Rattle.a64_base.specs.declared.size.VectorSize.{VectorSize}
use Rattle.a64_operand.specs.VectorOperands.{is_right_amount, lane_bits}

pub right_at_most : (size : VectorSize) (imm : ℕ) → is_right_amount size imm ≡ true → imm ≤ lane_bits size
right_at_most size imm e = leb-true imm (lane_bits size) (and_parts (nat_lt 0 imm) (nat_le imm (lane_bits size)) e).1
