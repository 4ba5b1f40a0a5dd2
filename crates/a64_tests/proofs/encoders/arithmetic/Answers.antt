use Rattle.std.proofs.Common.{rules, refl}
use Rattle.a64_enc_int.proofs.Naming.{add_sub_named, mul_add_named}
use Rattle.a64_tests.proofs.encoders.arithmetic.Goals as goal

-- add x1, x2, x3
pub enc_arith_rrr-add-requires-clause-form : goal.enc_arith_rrr-add-requires-clause-form
enc_arith_rrr-add-requires-clause-form g c =
    rw (c.writable_xreg.ensures, c.xreg.ensures, c.xreg-2.ensures)
    (add_sub_named 0x458 0 (record { sf = 1; op = 0; s = 0; sh = 0; rm = 3; imm6 = 0; rn = 2; rd = 1 }) refl (search rules))

-- msub x27, x9, xzr, x30
pub enc_arith_rrrr-product-requires-clause-form : goal.enc_arith_rrrr-product-requires-clause-form
enc_arith_rrrr-product-requires-clause-form g c =
    rw (c.writable_xreg-2.ensures, c.xreg-4.ensures, c.xreg-3.ensures, c.zero_reg.ensures)
    (mul_add_named 0x4d8 (record { sf = 1; rm = 31; sub = 1; ra = 30; rn = 9; rd = 27 }) refl (search rules))
