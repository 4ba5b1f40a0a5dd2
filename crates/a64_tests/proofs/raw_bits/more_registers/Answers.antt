use Rattle.std.proofs.Common.{rules, refl, lit<}
use Rattle.a64_rows.specs.Floats.{fp_select, fp_two}
use Rattle.a64_rows.specs.Vectors.{vec_elem, vec_three}
use Rattle.a64_tests.proofs.raw_bits.more_registers.Goals as goal

-- fadd s1, s2, s3
pub enc_fpurrr-sum-requires-clause-form : goal.enc_fpurrr-sum-requires-clause-form
enc_fpurrr-sum-requires-clause-form g c =
    rw (c.writable_vreg.ensures, c.vreg.ensures, c.vreg-2.ensures)
    (record { form = fp_two (record { ftype = 0; rm = 3; op = 2; rn = 2; rd = 1 }); listed = (7, lit< tt, refl); within = search rules; word = refl })

-- add v1.4s, v2.4s, v3.4s
pub enc_fpurrr-lanes-requires-clause-form : goal.enc_fpurrr-lanes-requires-clause-form
enc_fpurrr-lanes-requires-clause-form g c =
    rw (c.writable_vreg-2.ensures, c.vreg-3.ensures, c.vreg-4.ensures)
    (record { form = vec_three (record { q = 1; u = 0; size = 2; rm = 3; op = 16; rn = 2; rd = 1 }); listed = (0, lit< tt, refl); within = search rules; word = refl })

-- fmla v1.4s, v2.4s, v3.s[2]
pub enc_vec_rrr-element-requires-clause-form : goal.enc_vec_rrr-element-requires-clause-form
enc_vec_rrr-element-requires-clause-form g c =
    rw (c.vreg-8.ensures, c.vreg-9.ensures, c.writable_vreg-4.ensures)
    (record { form = vec_elem (record { q = 1; sz = 0; l = 0; rm = 3; o2 = 0; h = 1; rn = 2; rd = 1 }); listed = (3, lit< tt, refl); within = search rules; word = refl })

-- fcsel d5, d6, d7, gt
pub enc_vec_rrr-selection-requires-clause-form : goal.enc_vec_rrr-selection-requires-clause-form
enc_vec_rrr-selection-requires-clause-form g c =
    rw (c.vreg-10.ensures, c.vreg-11.ensures, c.writable_vreg-5.ensures)
    (record { form = fp_select (record { ftype = 1; rm = 7; cond = 12; rn = 6; rd = 5 }); listed = (8, lit< tt, refl); within = search rules; word = refl })
