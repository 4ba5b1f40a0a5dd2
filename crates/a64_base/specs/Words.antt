-- Distances in words.
use Rattle.std.specs.Prelude.{ℤ, pos}
use Rattle.std.specs.Int.{int_div_euclid}

-- the words of four bytes in a distance in bytes, rounded down
abbrev pub words_of : ℤ → ℤ
words_of offset = int_div_euclid offset (pos 4)
