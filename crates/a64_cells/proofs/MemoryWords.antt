-- The words of loads and stores, by the bits that encoders are given.
use Rattle.std.proofs.Common.{ℕ, ◌≡◌, ◌+◌, ◌*◌, ◌/◌, ◌%◌, ◌<◌, ◌^◌, ap, ◌∙◌, arith}
use Rattle.a64_base.specs.declared.reg.Reg.{Reg}
use Rattle.a64_imms.specs.declared.offset.SImm7Scaled.{SImm7Scaled}
use Rattle.a64_ops.specs.declared.access.AccessOp.{AccessOp}
use Rattle.a64_ops.specs.AccessFields.{size_of, vector_of, opc_of}
use Rattle.a64_ops.specs.Accesses.{literal_of}
use Rattle.a64_rows.specs.Forms.{form_word}
use Rattle.a64_rows.specs.Memory.{ld_st_pair}
use Rattle.a64_enc_int.specs.Operators.{simm7_field}
use Rattle.a64_enc_int.specs.RawBits.{pair_access_of}
use Rattle.a64_enc_int.specs.Registers.{register_field}
use Rattle.a64_cells.specs.MemoryForms.{option_or_zero, pair_word_form}

pub fields_below : (op : AccessOp) → (size_of op < 4) × (vector_of op < 2) × (opc_of op < 4)
fields_below op = grind arith

pub literal_below : (op : AccessOp) → option_or_zero (literal_of op) < 4
literal_below op = grind arith

-- the bits 31 to 22 of pairs give opc, the index of the mode, and L
pub pair_is : (load index : ℕ) (rn : Reg) (simm7 : SImm7Scaled) (rt rt2 : Reg) (bits : ℕ) → bits ≡ 672 + index * 2 + load → load < 2 → index < 4
    → form_word (pair_access_of bits (record { imm7 = simm7_field simm7; rt2 = register_field rt2; rn = register_field rn; rt = register_field rt })) ≡ form_word (pair_word_form load index rn simm7 rt rt2)
unfolding pair_word_form
pair_is load index rn simm7 rt rt2 bits e l i =
    let opc : bits / 2 ^ 8 ≡ 2 = omega (arith, e, l, i) in
    let idx : bits / 2 % 2 ^ 2 ≡ index = omega (arith, e, l, i) in
    let ld : bits % 2 ≡ load = omega (arith, e, l, i) in
    ap (λ n. form_word (ld_st_pair (record { opc = n; v = 0; idx = bits / 2 % 2 ^ 2; load = bits % 2; imm7 = simm7_field simm7; rt2 = register_field rt2; rn = register_field rn; rt = register_field rt }))) opc
    ∙ ap (λ n. form_word (ld_st_pair (record { opc = 2; v = 0; idx = n; load = bits % 2; imm7 = simm7_field simm7; rt2 = register_field rt2; rn = register_field rn; rt = register_field rt }))) idx
    ∙ ap (λ n. form_word (ld_st_pair (record { opc = 2; v = 0; idx = index; load = n; imm7 = simm7_field simm7; rt2 = register_field rt2; rn = register_field rn; rt = register_field rt }))) ld
