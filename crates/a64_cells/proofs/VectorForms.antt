-- The form of an operation on vectors that has no fault of its own is a form of its row.
use Rattle.std.proofs.Common.{ℕ, ◌≡◌, ◌+◌, ◌-◌, ◌*◌, ◌/◌, ◌<◌, ◌≤◌, ◌^◌, Bool, true, false, refl, lit<, arith, rules}
use Rattle.std.specs.Prelude.{◌&&◌, ◌||◌, not, nat_lt, nat_le, nat_eq, if◌then◌else◌}
use Rattle.std.proofs.lemmas.Bool.{and_parts, eqb-true, leb-true, ltb-true, le-leb}
use Rattle.std.proofs.lemmas.Bool.Decides.{nat_tests}
use Rattle.a64_base.specs.declared.reg.Reg.{Reg}
use Rattle.a64_base.specs.declared.size.OperandSize.{OperandSize}
use Rattle.a64_base.specs.declared.size.ScalarSize.{ScalarSize}
use Rattle.a64_base.specs.declared.size.ScalarSize.TheVariants.{Size8, Size16, Size32, Size64, Size128}
use Rattle.a64_base.specs.declared.size.VectorSize.{VectorSize}
use Rattle.a64_base.specs.declared.size.VectorSize.TheVariants.{Size8x8, Size8x16, Size16x4, Size16x8, Size32x2, Size32x4, Size64x2}
use Rattle.a64_base.specs.OperandSizes.{sf_of}
use Rattle.a64_base.specs.ScalarSizes.{has_ftype, has_operand_size, scalar_operand}
use Rattle.a64_base.specs.VectorSizes.{float_field, has_float_lanes, lane_field, lane_of, q_of}
use Rattle.a64_imms.specs.declared.asimd_fp.ASIMDFPModImm.{ASIMDFPModImm}
use Rattle.a64_imms.specs.declared.asimd_mov.ASIMDMovModImm.{ASIMDMovModImm}
use Rattle.a64_operand.specs.declared.lanes.Lanes.TheVariants.{FullFloats}
use Rattle.a64_operand.specs.FloatOperands.{is_same_scalar}
use Rattle.a64_operand.specs.Operands.{is_lane, is_same_register, lanes_of}
use Rattle.a64_operand.specs.VectorOperands.{are_kept_lanes, has_lanes, is_amount, is_byte_shift, is_elem, is_elem_at, is_elem_op, is_float_imm_in, is_kept_amount, is_kept_lane, is_left_amount, is_mov_imm_in, is_mov_imm_of, is_right_amount, is_scalar_lane, is_signed_lane, is_signed_size, lane_bits, lane_count}
use Rattle.a64_ops.specs.declared.vector.VecALUModOp.{VecALUModOp}
use Rattle.a64_ops.specs.declared.vector.VecALUModOp.TheVariants.{Bsl}
use Rattle.a64_ops.specs.declared.vector.VecALUOp.{VecALUOp}
use Rattle.a64_ops.specs.declared.vector.VecALUOp.TheVariants.{Sqadd}
use Rattle.a64_ops.specs.declared.vector.VecExtendOp.{VecExtendOp}
use Rattle.a64_ops.specs.declared.vector.VecLanesOp.{VecLanesOp}
use Rattle.a64_ops.specs.declared.vector.VecMisc2.{VecMisc2}
use Rattle.a64_ops.specs.declared.vector.VecMisc2.TheVariants.{Not}
use Rattle.a64_ops.specs.declared.vector.VecRRLongOp.{VecRRLongOp}
use Rattle.a64_ops.specs.declared.vector.VecRRNarrowOp.{VecRRNarrowOp}
use Rattle.a64_ops.specs.declared.vector.VecRRPairLongOp.{VecRRPairLongOp}
use Rattle.a64_ops.specs.declared.vector.VecRRRLongModOp.{VecRRRLongModOp}
use Rattle.a64_ops.specs.declared.vector.VecRRRLongOp.{VecRRRLongOp}
use Rattle.a64_ops.specs.declared.vector.VecShiftImmOp.{VecShiftImmOp}
use Rattle.a64_ops.specs.declared.vector.VecShiftImmOp.TheVariants.{Shl, Ushr, Sshr}
use Rattle.a64_rows.specs.Forms.{IsFormOf}
use Rattle.a64_rows.specs.Limits.{is_permute, is_vector_shift}
use Rattle.a64_enc_int.specs.Operators.{bit_of}
use Rattle.a64_enc_int.proofs.Registers.{field_below}
use Rattle.a64_enc_vec.specs.declared.operator.LongFields.{LongFields}
use Rattle.a64_enc_vec.specs.declared.operator.OpFields.{OpFields}
use Rattle.a64_enc_vec.specs.declared.operator.ThreeOp.{ThreeOp}
use Rattle.a64_enc_vec.specs.declared.operator.ThreeOp.TheVariants.{Lanes, Bits, Floats, Permute, Dot}
use Rattle.a64_enc_vec.specs.declared.operator.TwoFields.{TwoFields}
use Rattle.a64_enc_vec.specs.declared.operator.TwoOp.{TwoOp}
use Rattle.a64_enc_vec.specs.declared.operator.TwoOp.TheVariants as two
use Rattle.a64_cells.specs.FloatForms.{lane_number}
use Rattle.a64_cells.specs.VectorForms.{across_form, dup_float_form, dup_form, dup_immediate_form, dup_lane_form, element_form, element_h, element_l, extend_fields, extend_form, extract_form, half_bits, insert_form, kept_shift_form, lane_shift_form, long_product_form, misc_form, mov_cmode, mov_op, move_element_form, pair_form, replicate_form, shift_form, signed_move_form, table_form, three_form, two_fields, two_form, unsigned_move_form}
use Rattle.a64_enc_vec.specs.Shifts.{left_shift_field, right_shift_field, shift_field}
use Rattle.a64_enc_vec.specs.VectorOperators.{across_fields, added_product_fields, element_o2, kept_three_op, long_fields, narrow_fields, pair_long_fields, product_fields, shift_fields, three_op, two_op}
use Rattle.a64_cells.proofs.FloatForms.{lane_below, lane_number_below}
use Rattle.a64_cells.proofs.OneWord.{bit_of_below}
use Rattle.a64_cells.proofs.Operands.{sf_below}

-- ---- sizes

q_below : (size : VectorSize) → q_of size < 2
q_below size = grind arith

lanes_below : (size : VectorSize) → lane_field size < 2 ^ 2
lanes_below size = grind arith

float_below : (size : VectorSize) → float_field size < 2
float_below size = grind arith

-- ---- operators on two vectors

-- what an operator gives is within the widths and the limits of its row
abbrev is_three : ThreeOp → Bool
is_three (Lanes u op) = nat_lt u 2 && nat_lt op 32
is_three (Bits u field) = nat_lt u 2 && nat_lt field 4
is_three (Floats u op base) = nat_lt u 2 && (nat_lt op 32 && nat_lt base 3)
is_three (Permute op) = nat_lt op 8 && is_permute op
is_three (Dot us) = nat_lt us 2

three_within : (op : VecALUOp) → is_three (three_op op) ≡ true
three_within Sqadd = refl
three_within _ = refl

kept_three_within : (op : VecALUModOp) → is_three (kept_three_op op) ≡ true
kept_three_within Bsl = refl
kept_three_within _ = refl

three_form_within : (op : ThreeOp) (size : VectorSize) (rd rn rm : Reg) → is_three op ≡ true → IsFormOf (three_form op size rd rn rm)
three_form_within (Lanes u op) size rd rn rm e =
    let (us, ops) = and_parts (nat_lt u 2) (nat_lt op 32) e in
    ((q_below size, (ltb-true u 2 us, (lanes_below size, (field_below rm, (ltb-true op 32 ops, (field_below rn, (field_below rd, tt))))))), refl)
three_form_within (Bits u field) size rd rn rm e =
    let (us, fields) = and_parts (nat_lt u 2) (nat_lt field 4) e in
    ((q_below size, (ltb-true u 2 us, (ltb-true field 4 fields, (field_below rm, (lit< tt, (field_below rn, (field_below rd, tt))))))), refl)
three_form_within (Floats u op base) size rd rn rm e =
    let (us, others) = and_parts (nat_lt u 2) (nat_lt op 32 && nat_lt base 3) e in
    let (ops, bases) = and_parts (nat_lt op 32) (nat_lt base 3) others in
    let below : base + float_field size < 2 ^ 2 = omega (arith, ltb-true base 3 bases, float_below size) in
    ((q_below size, (ltb-true u 2 us, (below, (field_below rm, (ltb-true op 32 ops, (field_below rn, (field_below rd, tt))))))), refl)
three_form_within (Permute op) size rd rn rm e =
    let (ops, is) = and_parts (nat_lt op 8) (is_permute op) e in
    ((lanes_below size, (field_below rm, (ltb-true op 8 ops, (field_below rn, (field_below rd, tt))))), is)
three_form_within (Dot us) size rd rn rm e =
    ((q_below size, (ltb-true us 2 e, (field_below rm, (field_below rn, (field_below rd, tt))))), refl)

pub three_is_form : (op : VecALUOp) (size : VectorSize) (rd rn rm : Reg) → IsFormOf (three_form (three_op op) size rd rn rm)
three_is_form op size rd rn rm = three_form_within (three_op op) size rd rn rm (three_within op)

pub kept_three_is_form : (op : VecALUModOp) (size : VectorSize) (rd rn rm : Reg) → IsFormOf (three_form (kept_three_op op) size rd rn rm)
kept_three_is_form op size rd rn rm = three_form_within (kept_three_op op) size rd rn rm (kept_three_within op)

-- ---- elements

o2_below : (op : VecALUModOp) → element_o2 op < 2
o2_below op = grind arith

-- the number of an element is below that of the lanes, and so has two bits, or one
h_below : (size : VectorSize) (idx : ℕ) → is_elem size idx ≡ true → element_h size idx < 2
h_below Size32x4 idx e = let small : idx < 4 = ltb-true idx 4 e in omega (arith, small)
h_below Size64x2 idx e = let small : idx < 2 = ltb-true idx 2 e in omega (arith, small)
h_below _ idx e = lit< tt

l_below : (size : VectorSize) (idx : ℕ) → element_l size idx < 2
l_below Size32x4 idx = omega arith
l_below Size64x2 idx = lit< tt
l_below _ idx = lit< tt

pub element_is_form : (op : VecALUModOp) (size : VectorSize) (idx : ℕ) (rd rn rm : Reg) → is_elem size idx ≡ true → IsFormOf (element_form op size idx rd rn rm)
element_is_form op size idx rd rn rm e =
    ((lit< tt, (float_below size, (l_below size idx, (field_below rm, (o2_below op, (h_below size idx e, (field_below rn, (field_below rd, tt)))))))), refl)

-- of which the register of the addends is the result's
pub kept_element : (rd ri : Reg) (op : VecALUModOp) (size : VectorSize) (idx : ℕ) → is_elem_at rd ri op size idx ≡ true → is_elem size idx ≡ true
kept_element rd ri op size idx e =
    (and_parts (is_elem_op op) (is_elem size idx) (and_parts (is_same_register rd ri) (is_elem_op op && is_elem size idx) e).1).1

-- ---- operators whose fields go by nothing else

-- within the widths of the fields
abbrev is_long : LongFields → Bool
is_long f = nat_lt f.u 2 && (nat_lt f.size 4 && nat_lt f.mul 2)

long_form_within : (f : LongFields) (high : Bool) (rd rn rm : Reg) → is_long f ≡ true → IsFormOf (long_product_form f high rd rn rm)
long_form_within f high rd rn rm e =
    let (us, others) = and_parts (nat_lt f.u 2) (nat_lt f.size 4 && nat_lt f.mul 2) e in
    let (sizes, muls) = and_parts (nat_lt f.size 4) (nat_lt f.mul 2) others in
    ((bit_of_below high, (ltb-true f.u 2 us, (ltb-true f.size 4 sizes, (ltb-true f.mul 2 muls, (field_below rm, (field_below rn, (field_below rd, tt))))))), refl)

product_within : (op : VecRRRLongOp) → is_long (product_fields op) ≡ true
product_within op = grind arith

added_product_within : (op : VecRRRLongModOp) → is_long (added_product_fields op) ≡ true
added_product_within op = grind arith

pub product_is_form : (op : VecRRRLongOp) (high : Bool) (rd rn rm : Reg) → IsFormOf (long_product_form (product_fields op) high rd rn rm)
product_is_form op high rd rn rm = long_form_within (product_fields op) high rd rn rm (product_within op)

pub added_product_is_form : (op : VecRRRLongModOp) (high : Bool) (rd rn rm : Reg) → IsFormOf (long_product_form (added_product_fields op) high rd rn rm)
added_product_is_form op high rd rn rm = long_form_within (added_product_fields op) high rd rn rm (added_product_within op)

abbrev is_two : TwoFields → Bool
is_two f = nat_lt f.u 2 && (nat_lt f.size 4 && nat_lt f.op 32)

misc_form_within : (q : ℕ) (f : TwoFields) (rd rn : Reg) → q < 2 → is_two f ≡ true → IsFormOf (misc_form q f rd rn)
misc_form_within q f rd rn small e =
    let (us, others) = and_parts (nat_lt f.u 2) (nat_lt f.size 4 && nat_lt f.op 32) e in
    let (sizes, ops) = and_parts (nat_lt f.size 4) (nat_lt f.op 32) others in
    ((small, (ltb-true f.u 2 us, (ltb-true f.size 4 sizes, (ltb-true f.op 32 ops, (field_below rn, (field_below rd, tt)))))), refl)

long_within : (op : VecRRLongOp) → is_two (long_fields op) ≡ true
long_within op = grind arith

pair_long_within : (op : VecRRPairLongOp) → is_two (pair_long_fields op) ≡ true
pair_long_within op = grind arith

narrow_within : (op : VecRRNarrowOp) (lane : ScalarSize) → is_two (narrow_fields op lane) ≡ true
narrow_within op lane = grind arith

pub long_is_form : (op : VecRRLongOp) (high : Bool) (rd rn : Reg) → IsFormOf (misc_form (bit_of high) (long_fields op) rd rn)
long_is_form op high rd rn = misc_form_within (bit_of high) (long_fields op) rd rn (bit_of_below high) (long_within op)

pub pair_long_is_form : (op : VecRRPairLongOp) (rd rn : Reg) → IsFormOf (misc_form 1 (pair_long_fields op) rd rn)
pair_long_is_form op rd rn = misc_form_within 1 (pair_long_fields op) rd rn (lit< tt) (pair_long_within op)

pub narrow_low_is_form : (op : VecRRNarrowOp) (lane : ScalarSize) (rd rn : Reg) → IsFormOf (misc_form 0 (narrow_fields op lane) rd rn)
narrow_low_is_form op lane rd rn = misc_form_within 0 (narrow_fields op lane) rd rn (lit< tt) (narrow_within op lane)

pub narrow_high_is_form : (op : VecRRNarrowOp) (lane : ScalarSize) (rd rn : Reg) → IsFormOf (misc_form 1 (narrow_fields op lane) rd rn)
narrow_high_is_form op lane rd rn = misc_form_within 1 (narrow_fields op lane) rd rn (lit< tt) (narrow_within op lane)

-- ---- operators on one vector

abbrev is_two_op : TwoOp → Bool
is_two_op (two.Lanes u op) = nat_lt u 2 && nat_lt op 32
is_two_op (two.Bits u op) = nat_lt u 2 && nat_lt op 32
is_two_op (two.Floats u op) = nat_lt u 2 && nat_lt op 32

two_within : (op : VecMisc2) → is_two_op (two_op op) ≡ true
two_within Not = refl
two_within _ = refl

two_form_within : (op : TwoOp) (size : VectorSize) (rd rn : Reg) → is_two_op op ≡ true → IsFormOf (two_form op size rd rn)
two_form_within (two.Lanes u op) size rd rn e =
    let (us, ops) = and_parts (nat_lt u 2) (nat_lt op 32) e in
    ((q_below size, (ltb-true u 2 us, (lanes_below size, (ltb-true op 32 ops, (field_below rn, (field_below rd, tt)))))), refl)
two_form_within (two.Bits u op) size rd rn e =
    let (us, ops) = and_parts (nat_lt u 2) (nat_lt op 32) e in
    ((q_below size, (ltb-true u 2 us, (lit< tt, (ltb-true op 32 ops, (field_below rn, (field_below rd, tt)))))), refl)
two_form_within (two.Floats u op) size rd rn e =
    let (us, ops) = and_parts (nat_lt u 2) (nat_lt op 32) e in
    let below : float_field size < 2 ^ 2 = omega (arith, float_below size) in
    ((q_below size, (ltb-true u 2 us, (below, (ltb-true op 32 ops, (field_below rn, (field_below rd, tt)))))), refl)

pub two_is_form : (op : VecMisc2) (size : VectorSize) (rd rn : Reg) → IsFormOf (two_form (two_op op) size rd rn)
two_is_form op size rd rn = two_form_within (two_op op) size rd rn (two_within op)

across_below : (op : VecLanesOp) → ((across_fields op).u < 2) × ((across_fields op).op < 2 ^ 5)
across_below op = grind arith

pub across_is_form : (op : VecLanesOp) (size : VectorSize) (rd rn : Reg) → IsFormOf (across_form (across_fields op) size rd rn)
across_is_form op size rd rn =
    let (u, code) = across_below op in
    ((q_below size, (u, (lanes_below size, (code, (field_below rn, (field_below rd, tt)))))), refl)

-- ---- shifts

bits_least : (size : VectorSize) → 8 ≤ lane_bits size
bits_least size = grind arith

bits_most : (size : VectorSize) → lane_bits size ≤ 64
bits_most size = grind arith

-- the fields immh and immb of a shift are those of its lanes: from as many as these have bits to less than twice as many
abbrev IsImm7 : ℕ → Type 0
IsImm7 imm7 = (imm7 < 2 ^ 7) × (8 ≤ imm7)

left_field_is : (size : VectorSize) (imm : ℕ) → is_left_amount size imm ≡ true → IsImm7 (left_shift_field size imm)
left_field_is size imm e =
    let small = ltb-true imm (lane_bits size) e in
    (omega (arith, small, bits_most size), omega (arith, bits_least size))

right_field_is : (size : VectorSize) (imm : ℕ) → is_right_amount size imm ≡ true → IsImm7 (right_shift_field size imm)
right_field_is size imm e =
    let (some, most) = and_parts (nat_lt 0 imm) (nat_le imm (lane_bits size)) e in
    let positive = ltb-true 0 imm some in
    let within = leb-true imm (lane_bits size) most in
    (omega (arith, positive, bits_most size), omega (arith, within, bits_least size))

shift_field_is : (op : VecShiftImmOp) (size : VectorSize) (imm : ℕ) → is_amount op size imm ≡ true → IsImm7 (shift_field op size imm)
shift_field_is Shl size imm e = left_field_is size imm e
shift_field_is Ushr size imm e = right_field_is size imm e
shift_field_is Sshr size imm e = right_field_is size imm e

-- an operator's fields
abbrev is_shift_op : OpFields → Bool
is_shift_op f = nat_lt f.u 2 && (nat_lt f.op 32 && is_vector_shift f.op)

shift_form_within : (q : ℕ) (f : OpFields) (imm7 : ℕ) (rd rn : Reg) → q < 2 → is_shift_op f ≡ true → IsImm7 imm7 → IsFormOf (shift_form q f imm7 rd rn)
shift_form_within q f imm7 rd rn small e (below, least) =
    let (us, others) = and_parts (nat_lt f.u 2) (nat_lt f.op 32 && is_vector_shift f.op) e in
    let (ops, is) = and_parts (nat_lt f.op 32) (is_vector_shift f.op) others in
    ((small, (ltb-true f.u 2 us, (below, (ltb-true f.op 32 ops, (field_below rn, (field_below rd, tt)))))), rw (le-leb 8 imm7 least, is) refl)

shift_op_within : (op : VecShiftImmOp) → is_shift_op (shift_fields op) ≡ true
shift_op_within Shl = refl
shift_op_within _ = refl

pub shift_is_form : (op : VecShiftImmOp) (size : VectorSize) (imm : ℕ) (rd rn : Reg) → is_amount op size imm ≡ true → IsFormOf (lane_shift_form op size imm rd rn)
shift_is_form op size imm rd rn e =
    shift_form_within (q_of size) (shift_fields op) (shift_field op size imm) rd rn (q_below size) (shift_op_within op) (shift_field_is op size imm e)

pub kept_shift_is_form : (size : VectorSize) (imm : ℕ) (rd rn : Reg) → is_left_amount size imm ≡ true → IsFormOf (kept_shift_form size imm rd rn)
kept_shift_is_form size imm rd rn e =
    shift_form_within (q_of size) (record { u = 1; op = 10 }) (left_shift_field size imm) rd rn (q_below size) refl (left_field_is size imm e)

-- of which the register whose bits stay is the result's
pub kept_amount : (rd ri : Reg) (size : VectorSize) (imm : ℕ) → is_kept_amount rd ri size imm ≡ true → is_left_amount size imm ≡ true
kept_amount rd ri size imm e = (and_parts (is_same_register rd ri) (is_left_amount size imm) e).1

extend_op_within : (t : VecExtendOp) → is_shift_op (extend_fields t) ≡ true
extend_op_within t = grind arith

half_is : (lane : ScalarSize) → has_ftype lane ≡ true → IsImm7 (half_bits lane)
half_is Size16 e = (lit< tt, omega arith)
half_is Size32 e = (lit< tt, omega arith)
half_is Size64 e = (lit< tt, omega arith)
half_is _ e = absurd cc

pub extend_is_form : (t : VecExtendOp) (high : Bool) (lane : ScalarSize) (rd rn : Reg) → has_ftype lane ≡ true → IsFormOf (extend_form t high lane rd rn)
extend_is_form t high lane rd rn e =
    shift_form_within (bit_of high) (extend_fields t) (half_bits lane) rd rn (bit_of_below high) (extend_op_within t) (half_is lane e)

-- ---- lanes

pub first_lane_below : (size : VectorSize) → lane_number (lane_of size) 0 < 2 ^ 5
first_lane_below size = grind arith

pub scalar_lane_below : (size : ScalarSize) (idx : ℕ) → is_scalar_lane size idx ≡ true → lane_number size idx < 2 ^ 5
scalar_lane_below size idx e = lane_number_below size idx (and_parts (has_operand_size size) (nat_lt idx (lanes_of size)) e).1

-- a lane of a vector of 64 bits is one of a whole register
counted : (size : VectorSize) (idx : ℕ) → nat_lt idx (lane_count size) ≡ true → is_lane size idx ≡ true
counted Size8x8 idx e = grind (arith, nat_tests)
counted Size16x4 idx e = grind (arith, nat_tests)
counted Size32x2 idx e = grind (arith, nat_tests)
counted _ idx e = e

pub signed_lane_below : (size : VectorSize) (idx : ℕ) (to : OperandSize) → is_signed_lane size idx to ≡ true → lane_number (lane_of size) idx < 2 ^ 5
signed_lane_below size idx to e =
    lane_below size idx (counted size idx (and_parts (is_signed_size size to) (nat_lt idx (lane_count size)) e).1)

-- the byte at which a lane begins
pub byte_below : (size : VectorSize) (idx : ℕ) → is_lane size idx ≡ true → idx * lane_bits size / 8 < 2 ^ 4
byte_below Size8x8 idx e = let small : idx < 16 = ltb-true idx 16 e in omega (arith, small)
byte_below Size8x16 idx e = let small : idx < 16 = ltb-true idx 16 e in omega (arith, small)
byte_below Size16x4 idx e = let small : idx < 8 = ltb-true idx 8 e in omega (arith, small)
byte_below Size16x8 idx e = let small : idx < 8 = ltb-true idx 8 e in omega (arith, small)
byte_below Size32x2 idx e = let small : idx < 4 = ltb-true idx 4 e in omega (arith, small)
byte_below Size32x4 idx e = let small : idx < 4 = ltb-true idx 4 e in omega (arith, small)
byte_below Size64x2 idx e = let small : idx < 2 = ltb-true idx 2 e in omega (arith, small)

-- lanes of which the register with the others is the result's
pub kept_lane : (rd ri : Reg) (size : VectorSize) (idx : ℕ) → is_kept_lane rd ri size idx ≡ true → is_lane size idx ≡ true
kept_lane rd ri size idx e = (and_parts (is_same_register rd ri) (is_lane size idx) e).1

pub kept_dest : (rd ri : Reg) (size : VectorSize) (dest_idx src_idx : ℕ) → are_kept_lanes rd ri size dest_idx src_idx ≡ true → is_lane size dest_idx ≡ true
kept_dest rd ri size dest_idx src_idx e =
    kept_lane rd ri size dest_idx (and_parts (is_kept_lane rd ri size dest_idx) (is_lane size src_idx) e).0

pub kept_src : (rd ri : Reg) (size : VectorSize) (dest_idx src_idx : ℕ) → are_kept_lanes rd ri size dest_idx src_idx ≡ true → is_lane size src_idx ≡ true
kept_src rd ri size dest_idx src_idx e = (and_parts (is_kept_lane rd ri size dest_idx) (is_lane size src_idx) e).1

pub insert_is_form : (size : VectorSize) (idx : ℕ) (rd rn : Reg) → is_lane size idx ≡ true → IsFormOf (insert_form size idx rd rn)
insert_is_form size idx rd rn e = ((lit< tt, (lane_below size idx e, (lit< tt, (field_below rn, (field_below rd, tt))))), refl)

pub unsigned_move_is_form : (size : ScalarSize) (idx : ℕ) (rd rn : Reg) → is_scalar_lane size idx ≡ true → IsFormOf (unsigned_move_form size idx rd rn)
unsigned_move_is_form size idx rd rn e =
    ((sf_below (scalar_operand size), (scalar_lane_below size idx e, (lit< tt, (field_below rn, (field_below rd, tt))))), refl)

pub signed_move_is_form : (size : VectorSize) (idx : ℕ) (to : OperandSize) (rd rn : Reg) → is_signed_lane size idx to ≡ true
    → IsFormOf (signed_move_form size idx to rd rn)
signed_move_is_form size idx to rd rn e =
    ((sf_below to, (signed_lane_below size idx to e, (lit< tt, (field_below rn, (field_below rd, tt))))), refl)

pub dup_is_form : (size : VectorSize) (rd rn : Reg) → IsFormOf (dup_form size rd rn)
dup_is_form size rd rn = ((q_below size, (first_lane_below size, (lit< tt, (field_below rn, (field_below rd, tt))))), refl)

pub dup_lane_is_form : (size : VectorSize) (idx : ℕ) (rd rn : Reg) → is_lane size idx ≡ true → IsFormOf (dup_lane_form size idx rd rn)
dup_lane_is_form size idx rd rn e = ((q_below size, (lane_below size idx e, (lit< tt, (field_below rn, (field_below rd, tt))))), refl)

pub move_element_is_form : (size : VectorSize) (dest_idx src_idx : ℕ) (rd rn : Reg) → is_lane size dest_idx ≡ true → is_lane size src_idx ≡ true
    → IsFormOf (move_element_form size dest_idx src_idx rd rn)
move_element_is_form size dest_idx src_idx rd rn e f =
    ((lane_below size dest_idx e, (byte_below size src_idx f, (field_below rn, (field_below rd, tt)))), refl)

-- ---- immediates

pub float_imm_below : (size : VectorSize) (imm : ASIMDFPModImm) → is_float_imm_in size imm ≡ true → imm.imm < 256
float_imm_below size imm e =
    let (_, others) = and_parts (has_float_lanes size) (is_same_scalar imm.size (lane_of size) && nat_lt imm.imm 256) e in
    ltb-true imm.imm 256 (and_parts (is_same_scalar imm.size (lane_of size)) (nat_lt imm.imm 256) others).1

-- the float lanes of an immediate are those of an operation on floats
pub dup_float_is_form : (size : VectorSize) (imm : ASIMDFPModImm) (rd : Reg) → is_float_imm_in size imm ≡ true → IsFormOf (dup_float_form size imm rd)
dup_float_is_form size imm rd e =
    let bits = float_imm_below size imm e in
    let high : imm.imm / 32 < 2 ^ 3 = omega (arith, bits) in
    ((q_below size, (float_below size, (high, (lit< tt, (omega arith, (field_below rd, tt)))))), refl)

mov_op_below : (lane : ScalarSize) (invert : Bool) → mov_op lane invert < 2
mov_op_below Size8 invert = lit< tt
mov_op_below Size16 invert = bit_of_below invert
mov_op_below Size32 invert = bit_of_below invert
mov_op_below Size64 invert = lit< tt
mov_op_below Size128 invert = lit< tt

-- the shift of an immediate is at most that of three bytes
shift_within : (most shift : ℕ) → is_byte_shift most shift ≡ true → shift ≤ most
shift_within most shift e = leb-true shift most (and_parts _ (nat_le shift most) e).1

ones_cmode : (ones : Bool) (shift : ℕ) → (if ones then nat_eq shift 8 || nat_eq shift 16 else is_byte_shift 24 shift) ≡ true
    → (if ones then 12 + shift / 16 else shift / 4) < 2 ^ 4
ones_cmode true shift e = grind (arith, nat_tests)
ones_cmode false shift e = omega (arith, shift_within 24 shift e)

pub cmode_below : (lane : ScalarSize) (imm : ASIMDMovModImm) (invert : Bool) → is_mov_imm_of lane imm invert ≡ true → mov_cmode lane imm < 2 ^ 4
cmode_below Size8 imm invert e = lit< tt
cmode_below Size16 imm invert e =
    let (_, others) = and_parts (not imm.is_64bit) (not imm.shift_ones && is_byte_shift 8 imm.shift) e in
    omega (arith, shift_within 8 imm.shift (and_parts (not imm.shift_ones) (is_byte_shift 8 imm.shift) others).1)
cmode_below Size32 imm invert e = ones_cmode imm.shift_ones imm.shift (and_parts (not imm.is_64bit) _ e).1
cmode_below Size64 imm invert e = lit< tt
cmode_below Size128 imm invert e = lit< tt

pub mov_bits_below : (size : VectorSize) (imm : ASIMDMovModImm) (invert : Bool) → is_mov_imm_in size imm invert ≡ true → imm.imm < 256
mov_bits_below size imm invert e = ltb-true imm.imm 256 (and_parts (nat_lt imm.imm 256) (is_mov_imm_of (lane_of size) imm invert) e).0

pub cmode_within : (size : VectorSize) (imm : ASIMDMovModImm) (invert : Bool) → is_mov_imm_in size imm invert ≡ true → mov_cmode (lane_of size) imm < 2 ^ 4
cmode_within size imm invert e =
    cmode_below (lane_of size) imm invert (and_parts (nat_lt imm.imm 256) (is_mov_imm_of (lane_of size) imm invert) e).1

pub dup_immediate_is_form : (size : VectorSize) (imm : ASIMDMovModImm) (invert : Bool) (rd : Reg) → is_mov_imm_in size imm invert ≡ true
    → IsFormOf (dup_immediate_form size imm invert rd)
dup_immediate_is_form size imm invert rd e =
    let bits = mov_bits_below size imm invert e in
    let high : imm.imm / 32 < 2 ^ 3 = omega (arith, bits) in
    ((q_below size, (mov_op_below (lane_of size) invert, (high, (cmode_within size imm invert e, (omega arith, (field_below rd, tt)))))), refl)

-- ---- extracts, tables and loads

pub extract_is_form : (imm4 : ℕ) (rd rn rm : Reg) → nat_lt imm4 16 ≡ true → IsFormOf (extract_form imm4 rd rn rm)
extract_is_form imm4 rd rn rm e = ((field_below rm, (ltb-true imm4 16 e, (field_below rn, (field_below rd, tt)))), refl)

pub table_is_form : (two_registers kept : Bool) (rd rn rm : Reg) → IsFormOf (table_form two_registers kept rd rn rm)
table_is_form true kept rd rn rm = ((field_below rm, (lit< tt, (bit_of_below kept, (field_below rn, (field_below rd, tt))))), refl)
table_is_form false kept rd rn rm = ((field_below rm, (lit< tt, (bit_of_below kept, (field_below rn, (field_below rd, tt))))), refl)

pub replicate_is_form : (size : VectorSize) (rt rn : Reg) → IsFormOf (replicate_form size rt rn)
replicate_is_form size rt rn = ((q_below size, (lanes_below size, (field_below rn, (field_below rt, tt)))), refl)
