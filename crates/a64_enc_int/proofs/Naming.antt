-- What names a form: raw bits that are the word of a row with zeros for the registers, and the registers.
use Rattle.std.proofs.Common.{ℕ, ◌≡◌, ◌+◌, ◌*◌, ◌/◌, ◌%◌, ◌^◌, ◌<◌, refl, lit<, arith}
use Rattle.a64_rows.specs.Forms.{form_word, IsFormOf}
use Rattle.a64_rows.specs.DataProcessing.{AddSubRegFields, add_sub_reg, LogicRegFields, logic_reg, AddSubExtFields, add_sub_ext, AddSubCarryFields, add_sub_carry, DataProc2Fields, data_proc2, MulHighFields, mul_high, MulAddFields, mul_add, MulAddLongFields, mul_add_long, LogicImmFields, logic_imm, ExtractFields, extract, CondSelectFields, cond_select}
use Rattle.a64_enc_int.specs.Named.{rows_of_rrr, rows_of_rrrr, rrr_number, rrrr_number, NamedForm}
use Rattle.a64_enc_int.specs.RawBits.{logic_imm_of}

-- ---- operations on two registers, by the word's bits 31 to 21 and 15 to 10

pub add_sub_named : (bits_31_21 bits_15_10 : ℕ) (f : AddSubRegFields) → bits_31_21 * 2 ^ 21 + bits_15_10 * 2 ^ 10 ≡ form_word (add_sub_reg (record f { rm = 0; rn = 0; rd = 0 }))
    → IsFormOf (add_sub_reg f) → NamedForm rows_of_rrr (rrr_number bits_31_21 bits_15_10 f.rd f.rn f.rm)
add_sub_named bits_31_21 bits_15_10 f e is = record { form = add_sub_reg f; listed = (0, lit< tt, refl); within = is; word = omega arith }

pub logic_named : (bits_31_21 bits_15_10 : ℕ) (f : LogicRegFields) → bits_31_21 * 2 ^ 21 + bits_15_10 * 2 ^ 10 ≡ form_word (logic_reg (record f { rm = 0; rn = 0; rd = 0 }))
    → IsFormOf (logic_reg f) → NamedForm rows_of_rrr (rrr_number bits_31_21 bits_15_10 f.rd f.rn f.rm)
logic_named bits_31_21 bits_15_10 f e is = record { form = logic_reg f; listed = (1, lit< tt, refl); within = is; word = omega arith }

pub add_sub_extended_named : (bits_31_21 bits_15_10 : ℕ) (f : AddSubExtFields) → bits_31_21 * 2 ^ 21 + bits_15_10 * 2 ^ 10 ≡ form_word (add_sub_ext (record f { rm = 0; rn = 0; rd = 0 }))
    → IsFormOf (add_sub_ext f) → NamedForm rows_of_rrr (rrr_number bits_31_21 bits_15_10 f.rd f.rn f.rm)
add_sub_extended_named bits_31_21 bits_15_10 f e is = record { form = add_sub_ext f; listed = (2, lit< tt, refl); within = is; word = omega arith }

pub add_sub_carry_named : (bits_31_21 bits_15_10 : ℕ) (f : AddSubCarryFields) → bits_31_21 * 2 ^ 21 + bits_15_10 * 2 ^ 10 ≡ form_word (add_sub_carry (record f { rm = 0; rn = 0; rd = 0 }))
    → IsFormOf (add_sub_carry f) → NamedForm rows_of_rrr (rrr_number bits_31_21 bits_15_10 f.rd f.rn f.rm)
add_sub_carry_named bits_31_21 bits_15_10 f e is = record { form = add_sub_carry f; listed = (3, lit< tt, refl); within = is; word = omega arith }

pub two_sources_named : (bits_31_21 bits_15_10 : ℕ) (f : DataProc2Fields) → bits_31_21 * 2 ^ 21 + bits_15_10 * 2 ^ 10 ≡ form_word (data_proc2 (record f { rm = 0; rn = 0; rd = 0 }))
    → IsFormOf (data_proc2 f) → NamedForm rows_of_rrr (rrr_number bits_31_21 bits_15_10 f.rd f.rn f.rm)
two_sources_named bits_31_21 bits_15_10 f e is = record { form = data_proc2 f; listed = (4, lit< tt, refl); within = is; word = omega arith }

pub mul_high_named : (bits_31_21 bits_15_10 : ℕ) (f : MulHighFields) → bits_31_21 * 2 ^ 21 + bits_15_10 * 2 ^ 10 ≡ form_word (mul_high (record f { rm = 0; rn = 0; rd = 0 }))
    → IsFormOf (mul_high f) → NamedForm rows_of_rrr (rrr_number bits_31_21 bits_15_10 f.rd f.rn f.rm)
mul_high_named bits_31_21 bits_15_10 f e is = record { form = mul_high f; listed = (5, lit< tt, refl); within = is; word = omega arith }

pub extract_named : (bits_31_21 bits_15_10 : ℕ) (f : ExtractFields) → bits_31_21 * 2 ^ 21 + bits_15_10 * 2 ^ 10 ≡ form_word (extract (record f { rm = 0; rn = 0; rd = 0 }))
    → IsFormOf (extract f) → NamedForm rows_of_rrr (rrr_number bits_31_21 bits_15_10 f.rd f.rn f.rm)
extract_named bits_31_21 bits_15_10 f e is = record { form = extract f; listed = (6, lit< tt, refl); within = is; word = omega arith }

pub select_named : (bits_31_21 bits_15_10 : ℕ) (f : CondSelectFields) → bits_31_21 * 2 ^ 21 + bits_15_10 * 2 ^ 10 ≡ form_word (cond_select (record f { rm = 0; rn = 0; rd = 0 }))
    → IsFormOf (cond_select f) → NamedForm rows_of_rrr (rrr_number bits_31_21 bits_15_10 f.rd f.rn f.rm)
select_named bits_31_21 bits_15_10 f e is = record { form = cond_select f; listed = (7, lit< tt, refl); within = is; word = omega arith }

-- ---- multiplications, by the word's bits 31 to 21 and its bit 15

pub mul_add_named : (top11 : ℕ) (f : MulAddFields) → top11 * 2 ^ 21 ≡ form_word (mul_add (record f { sub = 0; rm = 0; ra = 0; rn = 0; rd = 0 }))
    → IsFormOf (mul_add f) → NamedForm rows_of_rrrr (rrrr_number top11 f.sub f.rd f.rn f.ra f.rm)
mul_add_named top11 f e is = record { form = mul_add f; listed = (0, lit< tt, refl); within = is; word = omega arith }

pub mul_add_long_named : (top11 : ℕ) (f : MulAddLongFields) → top11 * 2 ^ 21 ≡ form_word (mul_add_long (record f { rm = 0; ra = 0; rn = 0; rd = 0 }))
    → IsFormOf (mul_add_long f) → NamedForm rows_of_rrrr (rrrr_number top11 0 f.rd f.rn f.ra f.rm)
mul_add_long_named top11 f e is = record { form = mul_add_long f; listed = (1, lit< tt, refl); within = is; word = omega arith }

-- ---- logical operations with an immediate

logic_bits : (sf opc : ℕ) → opc < 4 → ((36 + sf * 2 ^ 8 + opc * 2 ^ 6) / 2 ^ 8 ≡ sf) × ((36 + sf * 2 ^ 8 + opc * 2 ^ 6) / 2 ^ 6 % 2 ^ 2 ≡ opc)
logic_bits sf opc h = (omega arith, omega arith)

triple_bits : (n immr imms : ℕ) → immr < 2 ^ 6 → imms < 2 ^ 6 → ((n * 2 ^ 12 + immr * 2 ^ 6 + imms) / 2 ^ 12 ≡ n) × ((n * 2 ^ 12 + immr * 2 ^ 6 + imms) / 2 ^ 6 % 2 ^ 6 ≡ immr) × ((n * 2 ^ 12 + immr * 2 ^ 6 + imms) % 2 ^ 6 ≡ imms)
triple_bits n immr imms r s = (omega arith, omega arith, omega arith)

-- raw bits that were put together of fields give these fields
pub logic_imm_named : (bits_31_23 imm_bits : ℕ) (f : LogicImmFields) → bits_31_23 ≡ 36 + f.sf * 2 ^ 8 + f.opc * 2 ^ 6 → imm_bits ≡ f.n * 2 ^ 12 + f.immr * 2 ^ 6 + f.imms
    → f.opc < 4 → f.immr < 2 ^ 6 → f.imms < 2 ^ 6 → logic_imm_of bits_31_23 (record { imm_bits = imm_bits; rn = f.rn; rd = f.rd }) ≡ logic_imm f
logic_imm_named bits_31_23 imm_bits f top_is low_is o r s =
    let top = logic_bits f.sf f.opc o in
    let low = triple_bits f.n f.immr f.imms r s in
    rw (top_is, low_is, top.0, top.1, low.0, low.1, low.2) refl
