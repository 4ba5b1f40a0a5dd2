-- The laws of the classes of immediates: a field has one value, and the values lie in their sets.
use Rattle.std.specs.Prelude.{◌≡◌, ℕ, ℤ, pos, negsuc, ◌*ℤ◌, ◌≤ℤ◌, ◌+◌, ◌-◌, ◌*◌, ◌%◌, ◌^◌, ◌<◌}
use Rattle.std.specs.Prelude.{refl}
use Rattle.std.proofs.Common.{sym, ap₂, subst, inl, inr, arith}
use Rattle.std.specs.Int.RustNames.{unsigned_abs}
use Rattle.std.proofs.lemmas.Int.{ints}
use Rattle.a64_imms.specs.declared.flags.NZCV.{NZCV}
use Rattle.a64_imms.specs.declared.imm12.Imm12.{Imm12}
use Rattle.a64_imms.specs.declared.move_wide.MoveWideConst.{MoveWideConst}
use Rattle.a64_imms.specs.Flags.{flags_of, nzcv_bits}
use Rattle.a64_imms.specs.Imm12s.{IsImm12Value, imm12_value, imm12_field}
use Rattle.a64_imms.specs.FpuShifts.{IsLeftShift, IsRightShift}
use Rattle.a64_base.specs.declared.ir_type.IrType.{IrType}
use Rattle.a64_base.specs.declared.ir_type.IrType.TheVariants.{I64, I32, F64, I8X16}
use Rattle.a64_imms.specs.Scales.{type_bytes, IsPairScale}
use Rattle.a64_imms.specs.Offsets.{residue, floor_div, IsOffset9, IsPairOffset}
use Rattle.a64_imms.specs.MoveWides.{IsWideValue, IsWide, wide_value, wide_field}

pub same_flags : (x y : NZCV) → nzcv_bits (flags_of x) ≡ nzcv_bits (flags_of y) → x ≡ y
same_flags x y same = grind arith

pub imm12_within : (imm : Imm12) → imm.bits < 4096 → IsImm12Value (imm12_value imm)
imm12_within imm low = grind arith

pub one_imm12 : (x y : Imm12) → x.bits < 4096 → y.bits < 4096 → imm12_field x ≡ imm12_field y
    → imm12_value x ≡ imm12_value y
one_imm12 x y low_x low_y same = grind arith

pub one_left : (lane x y : ℕ) → IsLeftShift lane x → IsLeftShift lane y → lane + x ≡ lane + y
    → x ≡ y
one_left lane x y of_x of_y same = omega arith

pub one_right : (lane x y : ℕ) → IsRightShift lane x → IsRightShift lane y
    → 2 * lane - x ≡ 2 * lane - y → x ≡ y
one_right lane x y of_x of_y same =
    let low_x = of_x.at_most in
    let low_y = of_y.at_most in
    omega arith

pub wide_within : (imm : MoveWideConst) → IsWide imm → IsWideValue (wide_value imm)
wide_within imm lawful = (imm.bits, imm.shift, lawful.bits_fit, lawful.shift_fits, refl)

pub one_wide : (x y : MoveWideConst) → IsWide x → IsWide y → wide_field x ≡ wide_field y
    → wide_value x ≡ wide_value y
one_wide x y of_x of_y same =
    let fits_x = of_x.bits_fit in
    let fits_y = of_y.bits_fit in
    let bits : x.bits ≡ y.bits = omega arith in
    let shift : x.shift ≡ y.shift = omega arith in
    ap₂ (λ (b s : ℕ). b * 2 ^ (16 * s)) bits shift

pub one_offset9 : (x y : ℤ) → IsOffset9 x → IsOffset9 y → residue 512 x ≡ residue 512 y → x ≡ y
one_offset9 (pos m) (pos n) in_x in_y same =
    let high_x = in_x.high in let high_y = in_y.high in omega (arith, ints)
one_offset9 (pos m) (negsuc n) in_x in_y same =
    let high_x = in_x.high in let low_y = in_y.low in omega (arith, ints)
one_offset9 (negsuc m) (pos n) in_x in_y same =
    let low_x = in_x.low in let high_y = in_y.high in omega (arith, ints)
one_offset9 (negsuc m) (negsuc n) in_x in_y same =
    let low_x = in_x.low in let low_y = in_y.low in omega (arith, ints)

-- offsets in units of a scale that have one field are one
HasOneUnit : ℕ → Type 0
HasOneUnit scale =
    (x y : ℤ) → (negsuc 63 *ℤ pos scale) ≤ℤ x → x ≤ℤ pos (63 * scale) → unsigned_abs x % scale ≡ 0
    → (negsuc 63 *ℤ pos scale) ≤ℤ y → y ≤ℤ pos (63 * scale) → unsigned_abs y % scale ≡ 0
    → residue 128 (floor_div x scale) ≡ residue 128 (floor_div y scale) → x ≡ y

units_of_4 : HasOneUnit 4
unfolding HasOneUnit
units_of_4 (pos m) (pos n) low_x high_x by_x low_y high_y by_y same = omega (arith, ints)
units_of_4 (pos m) (negsuc n) low_x high_x by_x low_y high_y by_y same = omega (arith, ints)
units_of_4 (negsuc m) (pos n) low_x high_x by_x low_y high_y by_y same = omega (arith, ints)
units_of_4 (negsuc m) (negsuc n) low_x high_x by_x low_y high_y by_y same = omega (arith, ints)

units_of_8 : HasOneUnit 8
unfolding HasOneUnit
units_of_8 (pos m) (pos n) low_x high_x by_x low_y high_y by_y same = omega (arith, ints)
units_of_8 (pos m) (negsuc n) low_x high_x by_x low_y high_y by_y same = omega (arith, ints)
units_of_8 (negsuc m) (pos n) low_x high_x by_x low_y high_y by_y same = omega (arith, ints)
units_of_8 (negsuc m) (negsuc n) low_x high_x by_x low_y high_y by_y same = omega (arith, ints)

units_of_16 : HasOneUnit 16
unfolding HasOneUnit
units_of_16 (pos m) (pos n) low_x high_x by_x low_y high_y by_y same = omega (arith, ints)
units_of_16 (pos m) (negsuc n) low_x high_x by_x low_y high_y by_y same = omega (arith, ints)
units_of_16 (negsuc m) (pos n) low_x high_x by_x low_y high_y by_y same = omega (arith, ints)
units_of_16 (negsuc m) (negsuc n) low_x high_x by_x low_y high_y by_y same = omega (arith, ints)

units_of : (ty : IrType) → IsPairScale ty → HasOneUnit (type_bytes ty)
units_of ty scale = elim scale [
  | inl is ↦ at I64 (sym is) units_of_8
  | inr (inl is) ↦ at I32 (sym is) units_of_4
  | inr (inr (inl is)) ↦ at F64 (sym is) units_of_8
  | inr (inr (inr is)) ↦ at I8X16 (sym is) units_of_16
]
  where
    at : (known : IrType) → known ≡ ty → HasOneUnit (type_bytes known) → HasOneUnit (type_bytes ty)
    at known is law = subst (λ t. HasOneUnit (type_bytes t)) is law

pub one_pair_offset : (scale_ty : IrType) (x y : ℤ) → IsPairOffset scale_ty x
    → IsPairOffset scale_ty y
    → residue 128 (floor_div x (type_bytes scale_ty))
    ≡ residue 128 (floor_div y (type_bytes scale_ty)) → x ≡ y
unfolding HasOneUnit
one_pair_offset scale_ty x y in_x in_y same =
    units_of scale_ty in_x.scale x y in_x.low in_x.high in_x.multiple in_y.low in_y.high
    in_y.multiple same
