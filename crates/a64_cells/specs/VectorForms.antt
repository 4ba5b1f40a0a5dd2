-- The forms of instructions on vectors, and the fields that sizes and immediates give (Arm
-- Architecture Reference Manual, DDI 0487, C4.1, "Data Processing -- Scalar Floating-Point and
-- Advanced SIMD"). PlainForms says which instruction has which.
use Rattle.std.specs.Prelude.{ℕ, ◌+◌, ◌-◌, ◌*◌, ◌/◌, ◌%◌, Bool, if◌then◌else◌}
use Rattle.a64_base.specs.declared.reg.Reg.{Reg}
use Rattle.a64_base.specs.declared.size.OperandSize.{OperandSize}
use Rattle.a64_base.specs.declared.size.ScalarSize.{ScalarSize}
use Rattle.a64_base.specs.declared.size.ScalarSize.TheVariants.{Size8, Size16, Size32, Size64}
use Rattle.a64_base.specs.declared.size.ScalarSize.TheVariants.{Size128}
use Rattle.a64_base.specs.declared.size.VectorSize.{VectorSize}
use Rattle.a64_base.specs.declared.size.VectorSize.TheVariants.{Size32x4, Size64x2}
use Rattle.a64_base.specs.OperandSizes.{sf_of}
use Rattle.a64_base.specs.ScalarSizes.{scalar_operand}
use Rattle.a64_base.specs.VectorSizes.{float_field, lane_field, lane_of, q_of}
use Rattle.a64_imms.specs.declared.asimd_fp.ASIMDFPModImm.{ASIMDFPModImm}
use Rattle.a64_imms.specs.declared.asimd_mov.ASIMDMovModImm.{ASIMDMovModImm}
use Rattle.a64_operand.specs.VectorOperands.{lane_bits}
use Rattle.a64_ops.specs.declared.vector.VecALUModOp.{VecALUModOp}
use Rattle.a64_ops.specs.declared.vector.VecExtendOp.{VecExtendOp}
use Rattle.a64_ops.specs.declared.vector.VecExtendOp.TheVariants.{Sxtl, Uxtl}
use Rattle.a64_ops.specs.declared.vector.VecShiftImmOp.{VecShiftImmOp}
use Rattle.a64_enc_int.specs.Operators.{bit_of}
use Rattle.a64_enc_int.specs.Registers.{register_field}
use Rattle.a64_enc_vec.specs.declared.operator.LongFields.{LongFields}
use Rattle.a64_enc_vec.specs.declared.operator.OpFields.{OpFields}
use Rattle.a64_enc_vec.specs.declared.operator.ThreeOp.{ThreeOp}
use Rattle.a64_enc_vec.specs.declared.operator.ThreeOp.TheVariants.{Lanes, Bits, Floats, Permute}
use Rattle.a64_enc_vec.specs.declared.operator.ThreeOp.TheVariants.{Dot}
use Rattle.a64_enc_vec.specs.declared.operator.TwoFields.{TwoFields}
use Rattle.a64_enc_vec.specs.declared.operator.TwoOp.{TwoOp}
use Rattle.a64_enc_vec.specs.declared.operator.TwoOp.TheVariants as two
use Rattle.a64_cells.specs.FloatForms.{lane_number}
use Rattle.a64_enc_vec.specs.Shifts.{left_shift_field, shift_field}
use Rattle.a64_enc_vec.specs.VectorOperators.{element_o2, shift_fields}
use Rattle.a64_rows.specs.Forms.{Form}
use Rattle.a64_rows.specs.Memory.{ld_replicate}
use Rattle.a64_rows.specs.Vectors.{vec_across, vec_copy, vec_dot, vec_elem, vec_ext, vec_imm}
use Rattle.a64_rows.specs.Vectors.{vec_ins_elem, vec_long3, vec_permute, vec_scalar_pair, vec_shift}
use Rattle.a64_rows.specs.Vectors.{vec_table, vec_three, vec_two}

-- ---- operations on two vectors

-- Advanced SIMD three same, with these fields U, size and opcode, and the vector's Q
abbrev pub same_form : ℕ → ℕ → ℕ → VectorSize → Reg → Reg → Reg → Form
same_form u field op size rd rn rm =
    vec_three (record {
      q = q_of size;
      u = u;
      size = field;
      rm = register_field rm;
      op = op;
      rn = register_field rn;
      rd = register_field rd;
    })

-- Advanced SIMD three same, permute, or three-register extension
abbrev pub three_form : ThreeOp → VectorSize → Reg → Reg → Reg → Form
three_form (Lanes u op) size rd rn rm = same_form u (lane_field size) op size rd rn rm
three_form (Bits u field) size rd rn rm = same_form u field 3 size rd rn rm
three_form (Floats u op base) size rd rn rm = same_form u (base + float_field size) op size rd rn rm
three_form (Permute op) size rd rn rm =
    vec_permute (record {
      size = lane_field size;
      rm = register_field rm;
      op = op;
      rn = register_field rn;
      rd = register_field rd;
    })
three_form (Dot us) size rd rn rm =
    vec_dot (record {
      q = q_of size;
      us = us;
      rm = register_field rm;
      rn = register_field rn;
      rd = register_field rd;
    })

-- the number of an element: H is its upper bit, or its only one, and L its lower one. Rows for
-- lanes that have none are not read
abbrev pub element_h : VectorSize → ℕ → ℕ
element_h Size32x4 idx = idx / 2
element_h Size64x2 idx = idx
element_h _ idx = 0

abbrev pub element_l : VectorSize → ℕ → ℕ
element_l Size32x4 idx = idx % 2
element_l Size64x2 idx = 0
element_l _ idx = 0

-- Advanced SIMD vector x indexed element, FMLA, FMLS (by element) of 128 bits
abbrev pub element_form : VecALUModOp → VectorSize → ℕ → Reg → Reg → Reg → Form
element_form op size idx rd rn rm =
    vec_elem (record {
      q = 1;
      sz = float_field size;
      l = element_l size idx;
      rm = register_field rm;
      o2 = element_o2 op;
      h = element_h size idx;
      rn = register_field rn;
      rd = register_field rd;
    })

-- Advanced SIMD three different
abbrev pub long_product_form : LongFields → Bool → Reg → Reg → Reg → Form
long_product_form fields high rd rn rm =
    vec_long3 (record {
      q = bit_of high;
      u = fields.u;
      size = fields.size;
      mul = fields.mul;
      rm = register_field rm;
      rn = register_field rn;
      rd = register_field rd;
    })

-- Advanced SIMD extract, EXT
abbrev pub extract_form : ℕ → Reg → Reg → Reg → Form
extract_form imm4 rd rn rm =
    vec_ext (record {
      rm = register_field rm;
      imm4 = imm4;
      rn = register_field rn;
      rd = register_field rd;
    })

-- Advanced SIMD table lookup, in one register or two: TBL, and TBX, which keeps the bytes that it
-- does not find
abbrev pub table_form : Bool → Bool → Reg → Reg → Reg → Form
table_form two_registers kept rd rn rm =
    vec_table (record {
      rm = register_field rm;
      len = bit_of two_registers;
      ext = bit_of kept;
      rn = register_field rn;
      rd = register_field rd;
    })

-- ---- operations on one vector

-- Advanced SIMD two-register miscellaneous, with Q and the fields that an operator and lanes give
abbrev pub misc_form : ℕ → TwoFields → Reg → Reg → Form
misc_form q fields rd rn =
    vec_two (record {
      q = q;
      u = fields.u;
      size = fields.size;
      op = fields.op;
      rn = register_field rn;
      rd = register_field rd;
    })

abbrev pub two_fields : TwoOp → VectorSize → TwoFields
two_fields (two.Lanes u op) size = record { u = u; size = lane_field size; op = op }
two_fields (two.Bits u op) size = record { u = u; size = 0; op = op }
two_fields (two.Floats u op) size = record { u = u; size = float_field size; op = op }

abbrev pub two_form : TwoOp → VectorSize → Reg → Reg → Form
two_form op size rd rn = misc_form (q_of size) (two_fields op size) rd rn

-- Advanced SIMD scalar pairwise, ADDP
abbrev pub pair_form : Reg → Reg → Form
pair_form rd rn = vec_scalar_pair (record { rn = register_field rn; rd = register_field rd })

-- Advanced SIMD across lanes
abbrev pub across_form : OpFields → VectorSize → Reg → Reg → Form
across_form fields size rd rn =
    vec_across (record {
      q = q_of size;
      u = fields.u;
      size = lane_field size;
      op = fields.op;
      rn = register_field rn;
      rd = register_field rd;
    })

-- ---- shifts

-- Advanced SIMD shift by immediate, with the fields immh and immb as one
abbrev pub shift_form : ℕ → OpFields → ℕ → Reg → Reg → Form
shift_form q fields imm7 rd rn =
    vec_shift (record {
      q = q;
      u = fields.u;
      imm7 = imm7;
      op = fields.op;
      rn = register_field rn;
      rd = register_field rd;
    })

-- SHL, USHR and SSHR
abbrev pub lane_shift_form : VecShiftImmOp → VectorSize → ℕ → Reg → Reg → Form
lane_shift_form op size imm rd rn =
    shift_form (q_of size) (shift_fields op) (shift_field op size imm) rd rn

-- SLI
abbrev pub kept_shift_form : VectorSize → ℕ → Reg → Reg → Form
kept_shift_form size imm rd rn =
    shift_form (q_of size) (record { u = 1; op = 10 }) (left_shift_field size imm) rd rn

-- SXTL and UXTL are SSHLL and USHLL by 0
abbrev pub extend_fields : VecExtendOp → OpFields
extend_fields Sxtl = record { u = 0; op = 20 }
extend_fields Uxtl = record { u = 1; op = 20 }

-- the bits of a lane that is extended to one of this size. Its rows for sizes to which none is are
-- not read
abbrev pub half_bits : ScalarSize → ℕ
half_bits Size8 = 0
half_bits Size16 = 8
half_bits Size32 = 16
half_bits Size64 = 32
half_bits Size128 = 0

abbrev pub extend_form : VecExtendOp → Bool → ScalarSize → Reg → Reg → Form
extend_form t high lane rd rn = shift_form (bit_of high) (extend_fields t) (half_bits lane) rd rn

-- ---- moves of lanes

-- Advanced SIMD copy, INS (general)
abbrev pub insert_form : VectorSize → ℕ → Reg → Reg → Form
insert_form size idx rd rn =
    vec_copy (record {
      q = 1;
      imm5 = lane_number (lane_of size) idx;
      op = 3;
      rn = register_field rn;
      rd = register_field rd;
    })

-- UMOV: of 64 bits to 64, of fewer to 32
abbrev pub unsigned_move_form : ScalarSize → ℕ → Reg → Reg → Form
unsigned_move_form size idx rd rn =
    vec_copy (record {
      q = sf_of (scalar_operand size);
      imm5 = lane_number size idx;
      op = 7;
      rn = register_field rn;
      rd = register_field rd;
    })

-- SMOV
abbrev pub signed_move_form : VectorSize → ℕ → OperandSize → Reg → Reg → Form
signed_move_form size idx to rd rn =
    vec_copy (record {
      q = sf_of to;
      imm5 = lane_number (lane_of size) idx;
      op = 5;
      rn = register_field rn;
      rd = register_field rd;
    })

-- DUP (general), whose imm5 says the lanes' size alone
abbrev pub dup_form : VectorSize → Reg → Reg → Form
dup_form size rd rn =
    vec_copy (record {
      q = q_of size;
      imm5 = lane_number (lane_of size) 0;
      op = 1;
      rn = register_field rn;
      rd = register_field rd;
    })

-- DUP (element)
abbrev pub dup_lane_form : VectorSize → ℕ → Reg → Reg → Form
dup_lane_form size idx rd rn =
    vec_copy (record {
      q = q_of size;
      imm5 = lane_number (lane_of size) idx;
      op = 0;
      rn = register_field rn;
      rd = register_field rd;
    })

-- INS (element), whose imm4 is the byte at which the lane stands that is read
abbrev pub move_element_form : VectorSize → ℕ → ℕ → Reg → Reg → Form
move_element_form size dest_idx src_idx rd rn =
    vec_ins_elem (record {
      imm5 = lane_number (lane_of size) dest_idx;
      imm4 = src_idx * lane_bits size / 8;
      rn = register_field rn;
      rd = register_field rd;
    })

-- ---- immediates

-- Advanced SIMD modified immediate, whose fields abc and defgh are the immediate's bits
abbrev pub modified_form : ℕ → ℕ → ℕ → ℕ → Reg → Form
modified_form q op cmode imm rd =
    vec_imm (record {
      q = q;
      op = op;
      abc = imm / 32;
      cmode = cmode;
      defgh = imm % 32;
      rd = register_field rd;
    })

-- FMOV (vector, immediate)
abbrev pub dup_float_form : VectorSize → ASIMDFPModImm → Reg → Form
dup_float_form size imm rd = modified_form (q_of size) (float_field size) 15 imm.imm rd

-- MOVI and MVNI, by the size of a lane: the field op, which is 1 for MVNI and for lanes of 64 bits.
-- Its row for a lane of 128 bits is not read, nor is that of cmode
abbrev pub mov_op : ScalarSize → Bool → ℕ
mov_op Size8 invert = 0
mov_op Size16 invert = bit_of invert
mov_op Size32 invert = bit_of invert
mov_op Size64 invert = 1
mov_op Size128 invert = 0

-- the field cmode, which says by how much the bits are shifted, and whether ones are shifted in
abbrev pub mov_cmode : ScalarSize → ASIMDMovModImm → ℕ
mov_cmode Size8 imm = 14
mov_cmode Size16 imm = 8 + imm.shift / 4
mov_cmode Size32 imm = if imm.shift_ones then 12 + imm.shift / 16 else imm.shift / 4
mov_cmode Size64 imm = 14
mov_cmode Size128 imm = 0

abbrev pub dup_immediate_form : VectorSize → ASIMDMovModImm → Bool → Reg → Form
dup_immediate_form size imm invert rd =
    modified_form (q_of size) (mov_op (lane_of size) invert) (mov_cmode (lane_of size) imm)
    imm.imm rd

-- ---- loads

-- Advanced SIMD load/store single structure, LD1R
abbrev pub replicate_form : VectorSize → Reg → Reg → Form
replicate_form size rt rn =
    ld_replicate (record {
      q = q_of size;
      sz = lane_field size;
      rn = register_field rn;
      rt = register_field rt;
    })
