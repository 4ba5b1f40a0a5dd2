-- The forms of encoders to which raw bits of the word give some fields, and operands the others.
use Rattle.std.specs.Prelude.{ℕ, ◌/◌, ◌%◌, ◌^◌}
use Rattle.a64_rows.specs.Forms.{Form}
use Rattle.a64_rows.specs.DataProcessing.{add_sub_imm, logic_imm}
use Rattle.a64_rows.specs.Control.{CompareBranchFields}
use Rattle.a64_rows.specs.Memory.{ld_st_imm9, ld_st_unsigned, ld_st_reg, ld_st_pair}

-- ---- arithmetic and logic

pub record AddSubImmOperands : Type 0 where
  pub sh : ℕ
  pub imm12 : ℕ
  pub rn : ℕ
  pub rd : ℕ

-- an addition or subtraction of an immediate: the word's bits 31 to 24 give sf, op and S
abbrev pub add_sub_imm_of : ℕ → AddSubImmOperands → Form
add_sub_imm_of bits_31_24 f =
    add_sub_imm (record {
      sf = bits_31_24 / 2 ^ 7;
      op = bits_31_24 / 2 ^ 6 % 2;
      s = bits_31_24 / 2 ^ 5 % 2;
      sh = f.sh;
      imm12 = f.imm12;
      rn = f.rn;
      rd = f.rd;
    })

-- the immediate is N, immr and imms in one
pub record LogicImmOperands : Type 0 where
  pub imm_bits : ℕ
  pub rn : ℕ
  pub rd : ℕ

-- a logical operation with an immediate: the word's bits 31 to 23 give sf and opc
abbrev pub logic_imm_of : ℕ → LogicImmOperands → Form
logic_imm_of bits_31_23 f =
    logic_imm (record {
      sf = bits_31_23 / 2 ^ 8;
      opc = bits_31_23 / 2 ^ 6 % 2 ^ 2;
      n = f.imm_bits / 2 ^ 12;
      immr = f.imm_bits / 2 ^ 6 % 2 ^ 6;
      imms = f.imm_bits % 2 ^ 6;
      rn = f.rn;
      rd = f.rd;
    })

-- ---- branches

-- what the word of a compare and branch has in its fields
abbrev pub compare_word_fields : ℕ → CompareBranchFields
compare_word_fields op = record {
  sf = op / 2 ^ 31;
  nz = op / 2 ^ 24 % 2;
  imm19 = op / 2 ^ 5 % 2 ^ 19;
  rt = op % 2 ^ 5;
}

-- ---- loads and stores

-- V of a load or store, by the word's bits 31 to 22
abbrev pub vector_bit : ℕ → ℕ
vector_bit op_31_22 = op_31_22 / 2 ^ 4 % 2

pub record Imm9Operands : Type 0 where
  pub imm9 : ℕ
  pub mode : ℕ
  pub rn : ℕ
  pub rt : ℕ

-- a load or store with an offset of nine bits: the word's bits 31 to 22 give size, V and opc
abbrev pub imm9_access_of : ℕ → Imm9Operands → Form
imm9_access_of op_31_22 f =
    ld_st_imm9 (record {
      sz = op_31_22 / 2 ^ 8;
      v = vector_bit op_31_22;
      opc = op_31_22 % 2 ^ 2;
      imm9 = f.imm9;
      mode = f.mode;
      rn = f.rn;
      rt = f.rt;
    })

pub record UnsignedOperands : Type 0 where
  pub imm12 : ℕ
  pub rn : ℕ
  pub rt : ℕ

-- a load or store with an unsigned offset: the word's bits 31 to 22 give size, V and opc
abbrev pub unsigned_access_of : ℕ → UnsignedOperands → Form
unsigned_access_of op_31_22 f =
    ld_st_unsigned (record {
      sz = op_31_22 / 2 ^ 8;
      v = vector_bit op_31_22;
      opc = op_31_22 % 2 ^ 2;
      imm12 = f.imm12;
      rn = f.rn;
      rt = f.rt;
    })

pub record IndexOperands : Type 0 where
  pub rm : ℕ
  pub ext : ℕ
  pub s : ℕ
  pub rn : ℕ
  pub rt : ℕ

-- a load or store with an index: the word's bits 31 to 22 give size, V and opc
abbrev pub indexed_access_of : ℕ → IndexOperands → Form
indexed_access_of op_31_22 f =
    ld_st_reg (record {
      sz = op_31_22 / 2 ^ 8;
      v = vector_bit op_31_22;
      opc = op_31_22 % 2 ^ 2;
      rm = f.rm;
      ext = f.ext;
      s = f.s;
      rn = f.rn;
      rt = f.rt;
    })

-- V of a load from a place near the code, by the word's bits 31 to 24
abbrev pub literal_vector_bit : ℕ → ℕ
literal_vector_bit op_31_24 = op_31_24 / 2 ^ 2 % 2

pub record PairOperands : Type 0 where
  pub imm7 : ℕ
  pub rt2 : ℕ
  pub rn : ℕ
  pub rt : ℕ

-- a load or store of two general registers: the word's bits 31 to 22 give opc, index and L
abbrev pub pair_access_of : ℕ → PairOperands → Form
pair_access_of op_31_22 f =
    ld_st_pair (record {
      opc = op_31_22 / 2 ^ 8;
      v = 0;
      idx = op_31_22 / 2 % 2 ^ 2;
      load = op_31_22 % 2;
      imm7 = f.imm7;
      rt2 = f.rt2;
      rn = f.rn;
      rt = f.rt;
    })
