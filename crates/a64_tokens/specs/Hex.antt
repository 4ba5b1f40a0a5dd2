-- The texts of bytes: hexadecimal digits, in order.
use Rattle.std.specs.Prelude.{ℕ, ◌<◌, ◌/◌, ◌%◌, ◌^◌, List, [], ◌∷◌, map}
use Rattle.std.specs.List.{AllByRecursion}
pub use Rattle.a64_imms.specs.Texts.{hex_digit}
use Rattle.a64_tokens.specs.Reads.{IsU8}

-- a digit has four bits
abbrev pub IsDigit : ℕ → Type 0
IsDigit n = n < 16

-- the two digits of a byte
abbrev pub byte_digits : ℕ → ℕ × ℕ
byte_digits byte = (hex_digit (byte / 16), hex_digit (byte % 16))

-- these as a text
abbrev pub hex_pair : ℕ → List ℕ
hex_pair byte = hex_digit (byte / 16) ∷ hex_digit (byte % 16) ∷ []

-- the bytes one behind another
abbrev pub hex_text : List ℕ → List ℕ
hex_text [] = []
hex_text (byte ∷ bytes) = hex_digit (byte / 16) ∷ hex_digit (byte % 16) ∷ hex_text bytes

abbrev pub AreBytes : List ℕ → Type 0
AreBytes bytes = AllByRecursion IsU8 bytes

-- a word as eight hexadecimal digits, the highest first
abbrev pub hex_word : ℕ → List ℕ
hex_word word = map (λ k. hex_digit (word / 16 ^ k % 16)) (7 ∷ 6 ∷ 5 ∷ 4 ∷ 3 ∷ 2 ∷ 1 ∷ 0 ∷ [])
