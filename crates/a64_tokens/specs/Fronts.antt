-- Where the first token of a text ends.
use Rattle.std.specs.Prelude.{ℕ, ◌≡◌, ◌==◌, ◌<◌, ◌≤◌, ◌⊎◌, if◌then◌else◌, List, length, slice_index}
use Rattle.std.specs.Prelude.{take}
use Rattle.std.specs.Int.{w64, trailing_zeros}
use Rattle.a64_tokens.specs.Fields.{HasNo}

-- the lowest of 16 bits that is set, or 16
abbrev pub first_set : ℕ → ℕ
first_set mask = if mask == 0 then 16 else trailing_zeros w64 mask

-- no space and no line feed stands before this place of the text
pub record IsPlainTo (text : List ℕ) (place : ℕ) : Type 0 where
  pub inside : place ≤ length text
  pub no_space : HasNo 32 (take place text)
  pub no_feed : HasNo 10 (take place text)

-- and one stands there, or the text ends
pub record EndsAt (text : List ℕ) (place : ℕ) : Type 0 where
  pub plain : IsPlainTo text place
  pub ends : place < length text → (slice_index text place ≡ 32) ⊎ (slice_index text place ≡ 10)
