-- The texts of constants: their bytes in hexadecimal digits, in order.
use Rattle.std.specs.Prelude.{ℕ, Bool, ◌||◌, nat_eq, List}
use Rattle.a64_buffer.specs.Constants.{IsConstant}
use Rattle.a64_tokens.specs.Hex.{AreBytes}

-- a constant is written in 8, 16 or 32 digits
abbrev pub has_digits : ℕ → Bool
has_digits count = nat_eq count 8 || nat_eq count 16 || nat_eq count 32

-- the bytes of a constant
abbrev pub HasHex : List ℕ → Type 0
HasHex bytes = IsConstant bytes × AreBytes bytes
