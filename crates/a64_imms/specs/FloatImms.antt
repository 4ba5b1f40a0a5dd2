-- Immediates that are floats.
use Rattle.std.specs.Prelude.{ℕ, ◌≡◌, ◌<◌, ◌+◌, ◌-◌, ◌*◌, ◌/◌, ◌%◌, ◌^◌, List}
use Rattle.a64_base.specs.declared.size.ScalarSize.{ScalarSize}
use Rattle.a64_base.specs.declared.size.ScalarSize.TheVariants.{Size8, Size16, Size32, Size64}
use Rattle.a64_base.specs.declared.size.ScalarSize.TheVariants.{Size128}
use Rattle.a64_imms.specs.declared.asimd_fp.ASIMDFPModImm.{ASIMDFPModImm}
use Rattle.a64_imms.specs.Texts.{pattern_text}

-- the sizes of floats that have immediates
abbrev pub IsFloatSize : ScalarSize → Type 0
IsFloatSize Size8 = ⊥
IsFloatSize Size16 = Unit {0}
IsFloatSize Size32 = Unit {0}
IsFloatSize Size64 = Unit {0}
IsFloatSize Size128 = ⊥

-- the number of bits
abbrev pub bits_of : ScalarSize → ℕ
bits_of Size8 = 8
bits_of Size16 = 16
bits_of Size32 = 32
bits_of Size64 = 64
bits_of Size128 = 128

-- how many times b is repeated
abbrev pub repeats_of : ScalarSize → ℕ
repeats_of Size8 = 0
repeats_of Size16 = 2
repeats_of Size32 = 5
repeats_of Size64 = 8
repeats_of Size128 = 0

-- from the highest bit: a, the complement of b, b repeated, the six bits c to h, and zeros
abbrev pub pattern_in : ℕ → ℕ → ℕ → ℕ → ℕ → ℕ
pattern_in width repeats a b rest =
    a * 2 ^ (width - 1) + (1 - b) * 2 ^ (width - 2) + b * (2 ^ repeats - 1) * 2 ^
    (width - 2 - repeats)
    + rest * 2 ^ (width - 2 - repeats - 6)

-- the bits of a float, of the eight bits a to h
abbrev pub float_pattern : ScalarSize → ℕ → ℕ
float_pattern size bits =
    pattern_in (bits_of size) (repeats_of size) (bits / 128) (bits / 64 % 2) (bits % 64)

-- the bits of a value that count
abbrev pub pattern_at : ScalarSize → ℕ → ℕ
pattern_at size value = value % 2 ^ bits_of size

-- the immediate of the value at the size
pub record IsFloatImm (size : ScalarSize) (value : ℕ) (made : ASIMDFPModImm) : Type 0 where
  pub of_size : IsFloatSize size
  pub fits : made.imm < 256
  pub size_is : made.size ≡ size
  pub pattern_is : float_pattern size made.imm ≡ pattern_at size value

-- the floats of a size that have an immediate: their bits are those of some eight bits
pub record IsFloatValue (size : ScalarSize) (value : ℕ) : Type 0 where
  pub of_size : IsFloatSize size
  pub bits : ℕ
  pub fits : bits < 256
  pub pattern_is : float_pattern size bits ≡ value

-- the immediate is one of the size
pub record IsFloatLawful (size : ScalarSize) (made : ASIMDFPModImm) : Type 0 where
  pub of_size : IsFloatSize size
  pub size_is : made.size ≡ size
  pub fits : made.imm < 256

-- `#0x` and the bits, four to a digit
abbrev pub float_text : ASIMDFPModImm → List ℕ
float_text made = pattern_text (bits_of made.size / 4) (float_pattern made.size made.imm)
