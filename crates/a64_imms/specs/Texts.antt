-- Texts of numbers.
use Rattle.std.specs.Prelude.{ℕ, zero, suc, ℤ, ◌+◌, ◌/◌, ◌%◌, nat_lt, if◌then◌else◌, List, [], ◌∷◌}
use Rattle.std.specs.Prelude.{◌++◌, codes}
use Rattle.std.specs.Fmt.{decimal, signed_decimal}

-- `#` and a number in decimal
abbrev pub number_text : ℕ → List ℕ
number_text n = codes "#" ++ decimal n

abbrev pub signed_text : ℤ → List ℕ
signed_text z = codes "#" ++ signed_decimal z

-- a hexadecimal digit, in lower case
abbrev pub hex_digit : ℕ → ℕ
hex_digit digit = if nat_lt digit 10 then 48 + digit else 87 + digit

-- the lowest digits of a number in hexadecimal, so many of them
abbrev pub hex_text : ℕ → ℕ → List ℕ
hex_text zero number = []
hex_text (suc digits) number = hex_text digits (number / 16) ++ (hex_digit (number % 16) ∷ [])

-- `#0x` and so many hexadecimal digits
abbrev pub pattern_text : ℕ → ℕ → List ℕ
pattern_text digits number = codes "#0x" ++ hex_text digits number
