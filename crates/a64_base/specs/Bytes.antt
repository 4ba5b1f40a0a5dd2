-- The bytes of a number of 32 bits.
use Rattle.std.specs.Prelude.{ℕ, List, ◌≡◌, ◌<◌, length, get_or}

-- four numbers, each of eight bits
pub record AreFourBytes (bytes : List ℕ) : Type 0 where
  pub length : length bytes ≡ 4
  pub small : (at : ℕ) → get_or bytes at 0 < 256
