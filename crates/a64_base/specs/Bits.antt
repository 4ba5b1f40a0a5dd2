-- Single bits of numbers.
use Rattle.std.specs.Prelude.{ℕ, ◌==◌, Bool}
use Rattle.std.specs.Int.{bit_at}

-- whether a bit of a number is set
abbrev pub has_bit : ℕ → ℕ → Bool
has_bit bits n = bit_at bits n == 1
