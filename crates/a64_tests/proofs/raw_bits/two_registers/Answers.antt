use Rattle.std.proofs.Common.{rules, refl, lit<}
use Rattle.a64_rows.specs.Floats.{fp_one}
use Rattle.a64_rows.specs.Vectors.{scalar_copy, vec_shift}
use Rattle.a64_tests.proofs.raw_bits.two_registers.Goals as goal

-- fabs d3, d31
pub enc_fpurr-absolute-requires-clause-form : goal.enc_fpurr-absolute-requires-clause-form
enc_fpurr-absolute-requires-clause-form g c =
    rw (c.writable_vreg.ensures, c.vreg.ensures)
    (record { form = fp_one (record { ftype = 1; op = 1; rn = 31; rd = 3 }); listed = (0, lit< tt, refl); within = search rules; word = refl })

-- ushr v1.4s, v2.4s, #3
pub enc_fpurr-shift-requires-clause-form : goal.enc_fpurr-shift-requires-clause-form
enc_fpurr-shift-requires-clause-form g c =
    rw (c.writable_vreg-2.ensures, c.vreg-2.ensures)
    (record { form = vec_shift (record { q = 1; u = 1; imm7 = 61; op = 0; rn = 2; rd = 1 }); listed = (3, lit< tt, refl); within = search rules; word = refl })

-- frintm d9, d10
pub enc_fround-floor-requires-clause-form : goal.enc_fround-floor-requires-clause-form
enc_fround-floor-requires-clause-form g c =
    rw (c.writable_vreg-3.ensures, c.vreg-3.ensures)
    (record { form = fp_one (record { ftype = 1; op = 10; rn = 10; rd = 9 }); listed = (0, lit< tt, refl); within = search rules; word = refl })

-- mov d3, v4.d[1]
pub enc_fround-lane-requires-clause-form : goal.enc_fround-lane-requires-clause-form
enc_fround-lane-requires-clause-form g c =
    rw (c.writable_vreg-4.ensures, c.vreg-4.ensures)
    (record { form = scalar_copy (record { imm5 = 24; rn = 4; rd = 3 }); listed = (6, lit< tt, refl); within = search rules; word = refl })
