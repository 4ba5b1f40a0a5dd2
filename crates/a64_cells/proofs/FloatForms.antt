-- The form of an operation on scalar floats that has no fault of its own is a form of its row.
use Rattle.std.proofs.Common.{ℕ, ◌≡◌, ◌<◌, ◌≤◌, ◌^◌, true, inl, inr, refl, lit<, arith, rules}
use Rattle.std.specs.Prelude.{◌&&◌, nat_lt, nat_le, nat_eq}
use Rattle.std.proofs.lemmas.Bool.{and_parts, eqb-true, leb-true, ltb-true, le-leb}
use Rattle.a64_base.specs.declared.reg.Reg.{Reg}
use Rattle.a64_base.specs.declared.size.ScalarSize.{ScalarSize}
use Rattle.a64_base.specs.declared.size.ScalarSize.TheVariants.{Size8, Size16, Size32, Size64, Size128}
use Rattle.a64_base.specs.declared.size.VectorSize.{VectorSize}
use Rattle.a64_base.specs.ScalarSizes.{ftype_of, has_ftype}
use Rattle.a64_base.specs.VectorSizes.{has_float_lanes, lane_of}
use Rattle.a64_imms.specs.declared.asimd_fp.ASIMDFPModImm.{ASIMDFPModImm}
use Rattle.a64_imms.specs.declared.fpu_shift.FPULeftShiftImm.{FPULeftShiftImm}
use Rattle.a64_imms.specs.declared.fpu_shift.FPURightShiftImm.{FPURightShiftImm}
use Rattle.a64_imms.specs.FpuShifts.{IsLane, IsLeftShift, IsRightShift}
use Rattle.a64_ops.specs.declared.float.FPUOp1.{FPUOp1}
use Rattle.a64_ops.specs.declared.float.FPUOp1.TheVariants.{Abs, Cvt32To64, Cvt64To32}
use Rattle.a64_ops.specs.declared.float.FPUOp2.{FPUOp2}
use Rattle.a64_ops.specs.declared.float.FPUOp2.TheVariants.{Add}
use Rattle.a64_ops.specs.declared.float.FPUOp3.{FPUOp3}
use Rattle.a64_ops.specs.declared.float.FpuRoundMode.{FpuRoundMode}
use Rattle.a64_ops.specs.declared.float.FpuRoundMode.TheVariants.{Minus32}
use Rattle.a64_ops.specs.declared.float.FpuToIntOp.{FpuToIntOp}
use Rattle.a64_ops.specs.declared.float.FpuToIntOp.TheVariants.{F32ToU32}
use Rattle.a64_ops.specs.declared.float.IntToFpuOp.{IntToFpuOp}
use Rattle.a64_ops.specs.declared.float.IntToFpuOp.TheVariants.{U32ToF32}
use Rattle.a64_operand.specs.declared.fpu_op.FPUOpRI.{FPUOpRI}
use Rattle.a64_operand.specs.declared.fpu_op.FPUOpRI.TheVariants.{UShr32, UShr64}
use Rattle.a64_operand.specs.declared.fpu_op.FPUOpRIMod.{FPUOpRIMod}
use Rattle.a64_operand.specs.declared.fpu_op.FPUOpRIMod.TheVariants.{Sli32, Sli64}
use Rattle.a64_operand.specs.FloatOperands.{is_float_imm_of, is_float_lane, is_fpu_op1_at, is_kept_shift, is_left_shift, is_left_shift_of, is_right_shift, is_right_shift_of, is_same_scalar}
use Rattle.a64_operand.specs.Operands.{is_lane, is_same_register, lanes_of}
use Rattle.a64_rows.specs.Forms.{IsFormOf}
use Rattle.a64_rows.specs.Limits.{is_float_one, is_float_type}
use Rattle.a64_enc_int.proofs.Registers.{field_below}
use Rattle.a64_cells.specs.FloatForms.{bits_to_float, compare_form, conversion_form, from_int, immediate_form, kept_shift_form, lane_number, left_field, move_form, move_lane_form, move_vector_form, o0_of, o1_of, one_float_form, one_opcode, right_field, right_shift_form, round_form, three_floats_form, to_int, two_floats_form, two_opcode}

-- ---- sizes

ftype_below : (size : ScalarSize) → ftype_of size < 2 ^ 2
ftype_below scalar = grind arith

float_type : (size : ScalarSize) → is_float_type (ftype_of size) ≡ true
float_type Size8 = refl
float_type _ = refl

-- ---- operations by the number of floats

pub move_is_form : (size : ScalarSize) (rd rn : Reg) → IsFormOf (move_form size rd rn)
move_is_form size rd rn = (search (rules, field_below, ftype_below), rw (float_type size) refl)

pub move_vector_is_form : (rd rn : Reg) → IsFormOf (move_vector_form rd rn)
move_vector_is_form rd rn = search (rules, field_below)

-- the size of an operation on one float is one of floats
pub one_float_size : (op : FPUOp1) (size : ScalarSize) → is_fpu_op1_at op size ≡ true → has_ftype size ≡ true
one_float_size Cvt32To64 Size32 e = refl
one_float_size Cvt32To64 _ e = absurd cc
one_float_size Cvt64To32 Size64 e = refl
one_float_size Cvt64To32 _ e = absurd cc
one_float_size _ scalar e = e

one_opcode_below : (op : FPUOp1) → one_opcode op < 2 ^ 6
one_opcode_below op = grind arith

one_opcode_is : (op : FPUOp1) → is_float_one (one_opcode op) ≡ true
one_opcode_is Abs = refl
one_opcode_is _ = refl

pub one_float_is_form : (op : FPUOp1) (size : ScalarSize) (rd rn : Reg) → IsFormOf (one_float_form op size rd rn)
one_float_is_form op size rd rn =
    (search (rules, field_below, ftype_below, one_opcode_below), rw (float_type size, one_opcode_is op) refl)

pub round_is_form : (op : FpuRoundMode) (rd rn : Reg) → IsFormOf (round_form op rd rn)
round_is_form Minus32 rd rn = search (rules, field_below)
round_is_form _ rd rn = search (rules, field_below)

two_opcode_below : (op : FPUOp2) → two_opcode op < 2 ^ 4
two_opcode_below op = grind arith

two_opcode_is : (op : FPUOp2) → nat_le (two_opcode op) 5 ≡ true
two_opcode_is Add = refl
two_opcode_is _ = refl

pub two_floats_is_form : (op : FPUOp2) (size : ScalarSize) (rd rn rm : Reg) → IsFormOf (two_floats_form op size rd rn rm)
two_floats_is_form op size rd rn rm =
    (search (rules, field_below, ftype_below, two_opcode_below), rw (float_type size, two_opcode_is op) refl)

o1_below : (op : FPUOp3) → o1_of op < 2
o1_below op = grind arith

o0_below : (op : FPUOp3) → o0_of op < 2
o0_below op = grind arith

pub three_floats_is_form : (op : FPUOp3) (size : ScalarSize) (rd rn rm ra : Reg) → IsFormOf (three_floats_form op size rd rn rm ra)
three_floats_is_form op size rd rn rm ra = (search (rules, field_below, ftype_below, o1_below, o0_below), rw (float_type size) refl)

pub compare_is_form : (size : ScalarSize) (rn rm : Reg) → IsFormOf (compare_form size rn rm)
compare_is_form size rn rm = (search (rules, field_below, ftype_below), rw (float_type size) refl)

-- ---- conversions

pub to_int_is_form : (op : FpuToIntOp) (rd rn : Reg) → IsFormOf (conversion_form (to_int op) rd rn)
to_int_is_form F32ToU32 rd rn = search (rules, field_below)
to_int_is_form _ rd rn = search (rules, field_below)

pub from_int_is_form : (op : IntToFpuOp) (rd rn : Reg) → IsFormOf (conversion_form (from_int op) rd rn)
from_int_is_form U32ToF32 rd rn = search (rules, field_below)
from_int_is_form _ rd rn = search (rules, field_below)

pub bits_are_form : (size : ScalarSize) (rd rn : Reg) → IsFormOf (conversion_form (bits_to_float size) rd rn)
bits_are_form Size8 rd rn = search (rules, field_below)
bits_are_form _ rd rn = search (rules, field_below)

-- ---- lanes

-- the number of a lane of a register has five bits with the lane's size
pub lane_number_below : (size : ScalarSize) (idx : ℕ) → nat_lt idx (lanes_of size) ≡ true → lane_number size idx < 2 ^ 5
lane_number_below Size8 idx e = let small : idx < 16 = ltb-true idx 16 e in omega (arith, small)
lane_number_below Size16 idx e = let small : idx < 8 = ltb-true idx 8 e in omega (arith, small)
lane_number_below Size32 idx e = let small : idx < 4 = ltb-true idx 4 e in omega (arith, small)
lane_number_below Size64 idx e = let small : idx < 2 = ltb-true idx 2 e in omega (arith, small)
lane_number_below Size128 idx e = lit< tt

pub lane_below : (size : VectorSize) (idx : ℕ) → is_lane size idx ≡ true → lane_number (lane_of size) idx < 2 ^ 5
lane_below size idx e = lane_number_below (lane_of size) idx e

pub float_lane_below : (size : VectorSize) (idx : ℕ) → is_float_lane size idx ≡ true → lane_number (lane_of size) idx < 2 ^ 5
float_lane_below size idx e = lane_below size idx (and_parts (has_float_lanes size) (is_lane size idx) e).1

pub lane_is_form : (size : VectorSize) (idx : ℕ) (rd rn : Reg) → is_float_lane size idx ≡ true → IsFormOf (move_lane_form size idx rd rn)
lane_is_form size idx rd rn good = let below = float_lane_below size idx good in search (rules, field_below, below)

-- ---- shifts

-- what the test of a shift to the right says of its amount
record IsRight (lane : ℕ) (imm : FPURightShiftImm) : Type 0 where
  lane_is : imm.lane_size_in_bits ≡ lane
  some : 0 < imm.amount
  at_most : imm.amount ≤ lane

right_parts : (lane : ℕ) (imm : FPURightShiftImm) → is_right_shift_of lane imm ≡ true → IsRight lane imm
right_parts lane imm e =
    let (same, amount) = and_parts (nat_eq imm.lane_size_in_bits lane) (nat_lt 0 imm.amount && nat_le imm.amount lane) e in
    let (some, most) = and_parts (nat_lt 0 imm.amount) (nat_le imm.amount lane) amount in
    record {
      lane_is = eqb-true imm.lane_size_in_bits lane same;
      some = ltb-true 0 imm.amount some;
      at_most = leb-true imm.amount lane most;
    }

right_at : (lane : ℕ) (imm : FPURightShiftImm) → IsLane lane → is_right_shift_of lane imm ≡ true → IsRightShift imm.lane_size_in_bits imm.amount
right_at lane imm is e =
    let p = right_parts lane imm e in
    rw p.lane_is (record { of_lane = is; positive = p.some; at_most = p.at_most })

-- it is the amount of a shift to the right
pub right_lawful_32 : (imm : FPURightShiftImm) → is_right_shift (UShr32 imm) ≡ true → IsRightShift imm.lane_size_in_bits imm.amount
right_lawful_32 imm e = right_at 32 imm (inl refl) e

pub right_lawful_64 : (imm : FPURightShiftImm) → is_right_shift (UShr64 imm) ≡ true → IsRightShift imm.lane_size_in_bits imm.amount
right_lawful_64 imm e = right_at 64 imm (inr refl) e

-- and its field is one of the lane's
pub right_least : (imm : FPURightShiftImm) → is_right_shift (UShr32 imm) ≡ true → nat_le 8 (right_field imm) ≡ true
right_least imm e =
    let p = right_parts 32 imm e in
    let lane = p.lane_is in
    let most = p.at_most in
    le-leb 8 (right_field imm) (omega (arith, lane, most))

right_below : (lane : ℕ) (imm : FPURightShiftImm) → lane ≤ 64 → is_right_shift_of lane imm ≡ true → right_field imm < 2 ^ 7
right_below lane imm small e =
    let p = right_parts lane imm e in
    let lane_is = p.lane_is in
    let some = p.some in
    omega (arith, lane_is, some, small)

pub right_shift_is_form : (op : FPUOpRI) (rd rn : Reg) → is_right_shift op ≡ true → IsFormOf (right_shift_form op rd rn)
right_shift_is_form (UShr32 imm) rd rn good =
    let below = right_below 32 imm (omega arith) good in
    (search (rules, field_below, below), rw (right_least imm good) refl)
right_shift_is_form (UShr64 imm) rd rn good =
    let below = right_below 64 imm (omega arith) good in
    search (rules, field_below, below)

-- what the test of a shift to the left says of its amount
record IsLeft (lane : ℕ) (imm : FPULeftShiftImm) : Type 0 where
  lane_is : imm.lane_size_in_bits ≡ lane
  below : imm.amount < lane

left_parts : (lane : ℕ) (imm : FPULeftShiftImm) → is_left_shift_of lane imm ≡ true → IsLeft lane imm
left_parts lane imm e =
    let (same, below) = and_parts (nat_eq imm.lane_size_in_bits lane) (nat_lt imm.amount lane) e in
    record { lane_is = eqb-true imm.lane_size_in_bits lane same; below = ltb-true imm.amount lane below }

left_at : (lane : ℕ) (imm : FPULeftShiftImm) → IsLane lane → is_left_shift_of lane imm ≡ true → IsLeftShift imm.lane_size_in_bits imm.amount
left_at lane imm is e =
    let p = left_parts lane imm e in
    rw p.lane_is (record { of_lane = is; below = p.below })

-- it is the amount of a shift to the left
pub left_lawful_32 : (imm : FPULeftShiftImm) → is_left_shift (Sli32 imm) ≡ true → IsLeftShift imm.lane_size_in_bits imm.amount
left_lawful_32 imm e = left_at 32 imm (inl refl) e

pub left_lawful_64 : (imm : FPULeftShiftImm) → is_left_shift (Sli64 imm) ≡ true → IsLeftShift imm.lane_size_in_bits imm.amount
left_lawful_64 imm e = left_at 64 imm (inr refl) e

-- and its field is one of the lane's
pub left_least : (imm : FPULeftShiftImm) → is_left_shift (Sli32 imm) ≡ true → nat_le 8 (left_field imm) ≡ true
left_least imm e = let lane = (left_parts 32 imm e).lane_is in le-leb 8 (left_field imm) (omega (arith, lane))

left_below : (lane : ℕ) (imm : FPULeftShiftImm) → lane ≤ 64 → is_left_shift_of lane imm ≡ true → left_field imm < 2 ^ 7
left_below lane imm small e =
    let p = left_parts lane imm e in
    let lane_is = p.lane_is in
    let below = p.below in
    omega (arith, lane_is, below, small)

pub left_shift_is_form : (op : FPUOpRIMod) (rd rn : Reg) → is_left_shift op ≡ true → IsFormOf (kept_shift_form op rd rn)
left_shift_is_form (Sli32 imm) rd rn good =
    let below = left_below 32 imm (omega arith) good in
    (search (rules, field_below, below), rw (left_least imm good) refl)
left_shift_is_form (Sli64 imm) rd rn good =
    let below = left_below 64 imm (omega arith) good in
    search (rules, field_below, below)

-- of which the register whose bits stay is the result's
pub kept_op : (rd ri : Reg) (op : FPUOpRIMod) → is_kept_shift rd ri op ≡ true → is_left_shift op ≡ true
kept_op rd ri op e = (and_parts (is_same_register rd ri) (is_left_shift op) e).1

-- ---- immediates

pub immediate_is_form : (size : ScalarSize) (imm : ASIMDFPModImm) (rd : Reg) → is_float_imm_of size imm ≡ true → IsFormOf (immediate_form size imm rd)
immediate_is_form size imm rd good =
    let (_, others) = and_parts (has_ftype size) (is_same_scalar imm.size size && nat_lt imm.imm 256) good in
    let bits = ltb-true imm.imm 256 (and_parts (is_same_scalar imm.size size) (nat_lt imm.imm 256) others).1 in
    (search (rules, field_below, ftype_below, bits), rw (float_type size) refl)
