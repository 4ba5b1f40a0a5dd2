-- A size and a field of a vector move have one number.
use Rattle.std.specs.Prelude.{ℕ, ◌≡◌, ◌<◌, ◌+◌, ◌*◌, ◌^◌, Bool, true, false, if◌then◌else◌, List}
use Rattle.std.specs.Prelude.{[], ◌∷◌}
use Rattle.std.proofs.Common.{refl, sym, ◌∙◌, inl, inr, arith}
use Rattle.a64_base.specs.declared.size.ScalarSize.{ScalarSize}
use Rattle.a64_base.specs.declared.size.ScalarSize.TheVariants.{Size8, Size16, Size32, Size64}
use Rattle.a64_base.specs.declared.size.ScalarSize.TheVariants.{Size128}
use Rattle.a64_imms.specs.declared.asimd_mov.ASIMDMovModImm.{ASIMDMovModImm}
use Rattle.a64_imms.specs.MovImms.{spread, Form, pattern, forms_of, is_64, mov_value, mov_field}
use Rattle.a64_imms.specs.MovImms.{SomeFits, IsOfForm, IsOfSome, IsOfBytes, IsMovValue, IsMovLawful}

-- the number of an immediate of a form
pub number_of_form : (form : Form) (imm : ASIMDMovModImm) → IsOfForm form imm
    → pattern form imm.imm ≡ mov_value imm
number_of_form form imm held =
    let narrow = held.narrow in
    let shift_is = held.shift_is in
    let ones_is = held.ones_is in
    cc

-- the number of an immediate of 64 bits
pub number_of_bytes : (imm : ASIMDMovModImm) → IsOfBytes imm → spread imm.imm ≡ mov_value imm
number_of_bytes imm held = let wide = held.wide in cc

fits_some : (forms : List Form) (imm : ASIMDMovModImm) → IsOfSome forms imm
    → SomeFits forms (mov_value imm)
fits_some [] imm held = elim held [ ]
fits_some (form ∷ forms) imm (inl held) = inl (imm.imm, held.bits_fit, number_of_form form imm held)
fits_some (form ∷ forms) imm (inr held) = inr (fits_some forms imm held)

pub mov_within : (size : ScalarSize) (imm : ASIMDMovModImm) → IsMovLawful size imm
    → IsMovValue size (mov_value imm)
mov_within Size8 imm lawful = fits_some (forms_of Size8) imm lawful
mov_within Size16 imm lawful = fits_some (forms_of Size16) imm lawful
mov_within Size32 imm lawful = fits_some (forms_of Size32) imm lawful
mov_within Size64 imm lawful = (imm.imm, lawful.bits_fit, number_of_bytes imm lawful)
mov_within Size128 imm lawful = elim lawful [ ]

-- an immediate of a form is narrow, and its bits fit
of_some : (forms : List Form) (imm : ASIMDMovModImm) → IsOfSome forms imm
    → (imm.is_64bit ≡ false) × (imm.imm < 256)
of_some [] imm held = elim held [ ]
of_some (form ∷ forms) imm (inl held) = (held.narrow, held.bits_fit)
of_some (form ∷ forms) imm (inr held) = of_some forms imm held

of_size : (size : ScalarSize) (imm : ASIMDMovModImm) → IsMovLawful size imm
    → (imm.is_64bit ≡ is_64 size) × (imm.imm < 256)
of_size Size8 imm lawful = of_some (forms_of Size8) imm lawful
of_size Size16 imm lawful = of_some (forms_of Size16) imm lawful
of_size Size32 imm lawful = of_some (forms_of Size32) imm lawful
of_size Size64 imm lawful = (lawful.wide, lawful.bits_fit)
of_size Size128 imm lawful = elim lawful [ ]

-- a field is read in one way
same_parts : (m n : Bool) (b c s t : ℕ) → b < 256 → c < 256
    → b + 2 ^ 8 * ((if m then 1 else 0) + 2 * s) ≡ c + 2 ^ 8 * ((if n then 1 else 0) + 2 * t)
    → (m ≡ n) × (b ≡ c) × (s ≡ t)
same_parts true true b c s t fits_b fits_c same = (refl, omega arith, omega arith)
same_parts true false b c s t fits_b fits_c same = absurd (omega arith)
same_parts false true b c s t fits_b fits_c same = absurd (omega arith)
same_parts false false b c s t fits_b fits_c same = (refl, omega arith, omega arith)

pub one_mov : (size : ScalarSize) (x y : ASIMDMovModImm) → IsMovLawful size x → IsMovLawful size y
    → mov_field x ≡ mov_field y
    → mov_value x ≡ mov_value y
one_mov size x y of_x of_y same =
    let (wide_x, fits_x) = of_size size x of_x in
    let (wide_y, fits_y) = of_size size y of_y in
    let wide : x.is_64bit ≡ y.is_64bit = wide_x ∙ sym wide_y in
    let (ones, bits, shift) =
    same_parts x.shift_ones y.shift_ones x.imm y.imm x.shift y.shift fits_x fits_y same in
    cc
