-- Immediates of vector moves.
use Rattle.std.specs.Prelude.{ℕ, ◌≡◌, ◌<◌, ◌+◌, ◌-◌, ◌*◌, ◌/◌, ◌%◌, ◌^◌, ◌==◌, ◌⊎◌, Bool, true}
use Rattle.std.specs.Prelude.{false, IsTrue, if◌then◌else◌, List, [], ◌∷◌, ◌++◌, codes}
use Rattle.std.specs.Int.{w64, from_le_bytes}
use Rattle.a64_base.specs.declared.size.ScalarSize.{ScalarSize}
use Rattle.a64_base.specs.declared.size.ScalarSize.TheVariants.{Size8, Size16, Size32, Size64}
use Rattle.a64_base.specs.declared.size.ScalarSize.TheVariants.{Size128}
use Rattle.a64_imms.specs.declared.asimd_mov.ASIMDMovModImm.{ASIMDMovModImm}
use Rattle.a64_imms.specs.Texts.{number_text}

-- ---- 64 bits

-- ff where this bit is set, and 00 elsewhere
abbrev pub byte_of : ℕ → ℕ → ℕ
byte_of bits place = if bits / 2 ^ place % 2 == 1 then 0xff else 0

-- the number whose byte i is ff where bit i is set, and 00 elsewhere
unfoldable pub spread : ℕ → ℕ
spread bits =
    from_le_bytes w64
    (byte_of bits 0 ∷ byte_of bits 1 ∷ byte_of bits 2 ∷ byte_of bits 3 ∷ byte_of bits 4
    ∷ byte_of bits 5 ∷ byte_of bits 6 ∷ byte_of bits 7 ∷ [])

-- ---- up to 32 bits

-- eight bits shifted left, with ones or zeros behind them
pub record Form : Type 0 where
  pub shift : ℕ
  pub ones : Bool

abbrev pub pattern : Form → ℕ → ℕ
pattern form bits = bits * 2 ^ form.shift + (if form.ones then 2 ^ form.shift - 1 else 0)

abbrev pub with_ones : ℕ → Form
with_ones shift = record { shift = shift; ones = true }

abbrev pub with_zeros : ℕ → Form
with_zeros shift = record { shift = shift; ones = false }

-- the forms of a size, in the order in which they are tried
abbrev pub forms_of : ScalarSize → List Form
forms_of Size8 = with_zeros 0 ∷ []
forms_of Size16 = with_zeros 0 ∷ with_zeros 8 ∷ []
forms_of Size32 =
    with_ones 16 ∷ with_ones 8 ∷ with_zeros 0 ∷ with_zeros 8 ∷ with_zeros 16 ∷ with_zeros 24 ∷ []
forms_of Size64 = []
forms_of Size128 = []

-- the bits that a size looks at
abbrev pub looked_at : ScalarSize → ℕ → ℕ
looked_at Size8 value = value % 2 ^ 8
looked_at Size16 value = value % 2 ^ 16
looked_at Size32 value = value % 2 ^ 32
looked_at Size64 value = value
looked_at Size128 value = value

-- the number has the form, with some eight bits
abbrev pub HasForm : Form → ℕ → Type 0
HasForm form number = (bits : ℕ) × (bits < 256) × (pattern form bits ≡ number)

-- the immediate has the form, and its number is this
pub record HoldsForm (form : Form) (number : ℕ) (imm : ASIMDMovModImm) : Type 0 where
  pub narrow : imm.is_64bit ≡ false
  pub shift_is : imm.shift ≡ form.shift
  pub ones_is : imm.shift_ones ≡ form.ones
  pub bits_fit : imm.imm < 256
  pub number_is : pattern form imm.imm ≡ number

-- the immediate has the first of the forms that the number has
abbrev pub IsFirst : List Form → ℕ → ASIMDMovModImm → Type 0
IsFirst [] number imm = ⊥
IsFirst (form ∷ forms) number imm =
    HoldsForm form number imm ⊎ ((¬ HasForm form number) × IsFirst forms number imm)

-- ---- all sizes

-- the immediate of 64 bits
pub record HoldsBytes (value : ℕ) (imm : ASIMDMovModImm) : Type 0 where
  pub wide : imm.is_64bit ≡ true
  pub shift_is : imm.shift ≡ 0
  pub ones_is : imm.shift_ones ≡ false
  pub bits_fit : imm.imm < 256
  pub number_is : spread imm.imm ≡ value

-- the immediate of the value at the size
abbrev pub IsMovImm : ScalarSize → ℕ → ASIMDMovModImm → Type 0
IsMovImm Size8 value imm = IsFirst (forms_of Size8) (looked_at Size8 value) imm
IsMovImm Size16 value imm = IsFirst (forms_of Size16) (looked_at Size16 value) imm
IsMovImm Size32 value imm = IsFirst (forms_of Size32) (looked_at Size32 value) imm
IsMovImm Size64 value imm = HoldsBytes value imm
IsMovImm Size128 value imm = ⊥

abbrev pub is_64 : ScalarSize → Bool
is_64 Size8 = false
is_64 Size16 = false
is_64 Size32 = false
is_64 Size64 = true
is_64 Size128 = false

-- ---- the class

-- the number that an immediate stands for
abbrev pub mov_value : ASIMDMovModImm → ℕ
mov_value imm =
    if imm.is_64bit then spread imm.imm
    else pattern (record { shift = imm.shift; ones = imm.shift_ones }) imm.imm

-- the bits, and above them whether ones are shifted in, and the shift
abbrev pub mov_field : ASIMDMovModImm → ℕ
mov_field imm = imm.imm + 2 ^ 8 * ((if imm.shift_ones then 1 else 0) + 2 * imm.shift)

-- the number has one of the forms
abbrev pub SomeFits : List Form → ℕ → Type 0
SomeFits [] number = ⊥
SomeFits (form ∷ forms) number = HasForm form number ⊎ SomeFits forms number

-- the numbers of a size's immediates
abbrev pub IsMovValue : ScalarSize → ℕ → Type 0
IsMovValue Size8 number = SomeFits (forms_of Size8) number
IsMovValue Size16 number = SomeFits (forms_of Size16) number
IsMovValue Size32 number = SomeFits (forms_of Size32) number
IsMovValue Size64 number = (bits : ℕ) × (bits < 256) × (spread bits ≡ number)
IsMovValue Size128 number = ⊥

-- the immediate's fields have the form
pub record IsOfForm (form : Form) (imm : ASIMDMovModImm) : Type 0 where
  pub narrow : imm.is_64bit ≡ false
  pub shift_is : imm.shift ≡ form.shift
  pub ones_is : imm.shift_ones ≡ form.ones
  pub bits_fit : imm.imm < 256

-- the immediate's fields have one of the forms
abbrev pub IsOfSome : List Form → ASIMDMovModImm → Type 0
IsOfSome [] imm = ⊥
IsOfSome (form ∷ forms) imm = IsOfForm form imm ⊎ IsOfSome forms imm

-- the immediate's fields are those of 64 bits
pub record IsOfBytes (imm : ASIMDMovModImm) : Type 0 where
  pub wide : imm.is_64bit ≡ true
  pub shift_is : imm.shift ≡ 0
  pub ones_is : imm.shift_ones ≡ false
  pub bits_fit : imm.imm < 256

-- the immediate is one of the size
abbrev pub IsMovLawful : ScalarSize → ASIMDMovModImm → Type 0
IsMovLawful Size8 imm = IsOfSome (forms_of Size8) imm
IsMovLawful Size16 imm = IsOfSome (forms_of Size16) imm
IsMovLawful Size32 imm = IsOfSome (forms_of Size32) imm
IsMovLawful Size64 imm = IsOfBytes imm
IsMovLawful Size128 imm = ⊥

-- the fields of any immediate: one of 64 bits has no shift
abbrev pub HasMovFields : ASIMDMovModImm → Type 0
HasMovFields imm = IsTrue imm.is_64bit → imm.shift ≡ 0

-- `#` and the number of 64 bits; else `#` and the bits, and the shift where it is not 0
abbrev pub mov_text : ASIMDMovModImm → List ℕ
mov_text imm =
    if imm.is_64bit then number_text (spread imm.imm)
    else number_text imm.imm
    ++ (if imm.shift == 0 then []
    else (if imm.shift_ones then codes ", MSL " else codes ", LSL ") ++ number_text imm.shift)
