-- The forms that the parameters of encoders name.
use Rattle.std.specs.Prelude.{ℕ, ◌/◌, ◌%◌, Bool}
use Rattle.a64_base.specs.declared.cond.Cond.{Cond}
use Rattle.a64_base.specs.declared.reg.Reg.{Reg}
use Rattle.a64_base.specs.declared.size.ScalarSize.{ScalarSize}
use Rattle.a64_base.specs.Conditions.{condition_bits}
use Rattle.a64_base.specs.ScalarSizes.{ftype_of}
use Rattle.a64_imms.specs.declared.offset.SImm7Scaled.{SImm7Scaled}
use Rattle.a64_rows.specs.Floats.{fp_compare, fp_select}
use Rattle.a64_rows.specs.Forms.{Form}
use Rattle.a64_rows.specs.Memory.{ld_replicate, ld_st_pair}
use Rattle.a64_rows.specs.Vectors.{vec_across, vec_imm, vec_long3, vec_scalar_pair, vec_table}
use Rattle.a64_rows.specs.Vectors.{vec_three, vec_two}
use Rattle.a64_enc_int.specs.Named.{rrr_number}
use Rattle.a64_enc_int.specs.Operators.{bit_of, simm7_field}
use Rattle.a64_enc_int.specs.Registers.{register_field}
use Rattle.a64_enc_vec.specs.Named.{fp_rrr_number, vec_rr_number}
use Rattle.a64_enc_vec.specs.RawBits.{fp_int_of, fp_three_of}

-- the numbers of raw bits and two or three vector registers
abbrev pub vector_two_number : ℕ → Reg → Reg → ℕ
vector_two_number top22 rd rn = vec_rr_number top22 (register_field rd) (register_field rn)

abbrev pub vector_number : ℕ → Reg → ℕ → Reg → Reg → ℕ
vector_number top11 rm bit15_10 rn rd =
    rrr_number top11 bit15_10 (register_field rd) (register_field rn) (register_field rm)

abbrev pub float_number : ℕ → Reg → Reg → Reg → ℕ
float_number top22 rd rn rm =
    fp_rrr_number top22 (register_field rd) (register_field rn) (register_field rm)

abbrev pub fp_three_form : ℕ → Reg → Reg → Reg → Reg → Form
fp_three_form top17 rd rn rm ra =
    fp_three_of top17 (register_field rd) (register_field rn) (register_field rm)
    (register_field ra)

abbrev pub fp_int_form : ℕ → Reg → Reg → Form
fp_int_form top16 rd rn = fp_int_of top16 (register_field rd) (register_field rn)

abbrev pub fp_compare_form : ScalarSize → Reg → Reg → Form
fp_compare_form size rn rm =
    fp_compare (record { ftype = ftype_of size; rm = register_field rm; rn = register_field rn })

abbrev pub fp_select_form : Reg → Reg → Reg → Cond → ScalarSize → Form
fp_select_form rd rn rm cond size =
    fp_select (record {
      ftype = ftype_of size;
      rm = register_field rm;
      cond = condition_bits cond;
      rn = register_field rn;
      rd = register_field rd;
    })

-- a load of one element into each lane
abbrev pub replicate_form : ℕ → ℕ → Reg → Reg → Form
replicate_form q size rn rt =
    ld_replicate (record { q = q; sz = size; rn = register_field rn; rt = register_field rt })

-- a load or store of two vector registers
abbrev pub vector_pair_form : ℕ → ℕ → Bool → SImm7Scaled → Reg → Reg → Reg → Form
vector_pair_form opc amode is_load simm7 rn rt rt2 =
    ld_st_pair (record {
      opc = opc;
      v = 1;
      idx = amode;
      load = bit_of is_load;
      imm7 = simm7_field simm7;
      rt2 = register_field rt2;
      rn = register_field rn;
      rt = register_field rt;
    })

-- a modified immediate
abbrev pub mod_imm_form : Reg → ℕ → ℕ → ℕ → Form
mod_imm_form rd q_op cmode imm =
    vec_imm (record {
      q = q_op / 2;
      op = q_op % 2;
      abc = imm / 32;
      cmode = cmode;
      defgh = imm % 32;
      rd = register_field rd;
    })

-- lanes twice as long as those of two vectors
abbrev pub long_form : ℕ → ℕ → ℕ → ℕ → Reg → Reg → Reg → Form
long_form q u size bit14 rm rn rd =
    vec_long3 (record {
      q = q;
      u = u;
      size = size;
      mul = bit14;
      rm = register_field rm;
      rn = register_field rn;
      rd = register_field rd;
    })

-- the or of a vector with itself
abbrev pub vector_mov_form : Bool → Reg → Reg → Form
vector_mov_form is_16b rd rn =
    vec_three (record {
      q = bit_of is_16b;
      u = 0;
      size = 2;
      rm = register_field rn;
      op = 3;
      rn = register_field rn;
      rd = register_field rd;
    })

-- an operation on one vector
abbrev pub vector_misc_form : ℕ → ℕ → ℕ → Reg → Reg → Form
vector_misc_form qu size bits_12_16 rd rn =
    vec_two (record {
      q = qu / 2;
      u = qu % 2;
      size = size;
      op = bits_12_16;
      rn = register_field rn;
      rd = register_field rd;
    })

-- the sum of the two lanes of a vector
abbrev pub vector_pair_sum_form : Reg → Reg → Form
vector_pair_sum_form rd rn =
    vec_scalar_pair (record { rn = register_field rn; rd = register_field rd })

-- the sums of neighbouring lanes, each twice as long
abbrev pub vector_pair_long_form : ℕ → ℕ → Reg → Reg → Form
vector_pair_long_form u enc_size rd rn =
    vec_two (record {
      q = 1;
      u = u;
      size = enc_size;
      op = 2;
      rn = register_field rn;
      rd = register_field rd;
    })

-- an operation over the lanes of a vector
abbrev pub vector_lanes_form : ℕ → ℕ → ℕ → ℕ → Reg → Reg → Form
vector_lanes_form q u size opcode rd rn =
    vec_across (record {
      q = q;
      u = u;
      size = size;
      op = opcode;
      rn = register_field rn;
      rd = register_field rd;
    })

-- a lookup in a table of one vector or two
abbrev pub table_form : Bool → ℕ → Reg → Reg → Reg → Form
table_form is_extension len rd rn rm =
    vec_table (record {
      rm = register_field rm;
      len = len;
      ext = bit_of is_extension;
      rn = register_field rn;
      rd = register_field rd;
    })
