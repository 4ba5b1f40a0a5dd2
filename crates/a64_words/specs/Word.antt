-- Words of 32 bits, the fields in them, and signed numbers in those.
use Rattle.std.specs.Prelude.{ℕ, ℤ, pos, negsuc, suc, ◌+◌, ◌-◌, ◌/◌, ◌%◌, ◌^◌, nat_lt}
use Rattle.std.specs.Prelude.{if◌then◌else◌, bit_and, ◌≡◌, List, [], ◌∷◌, take, drop}
use Rattle.std.specs.Int.{w32, from_le_bytes}

-- the number that n says as two's complement of so many bits
abbrev pub signed : ℕ → ℕ → ℤ
signed bits n = if nat_lt n (2 ^ (bits - 1)) then pos n else negsuc (2 ^ bits - suc n)

-- what a word has in the field of so many bits from bit `low` up
abbrev pub field_bits : ℕ → ℕ → ℕ → ℕ
field_bits low bits word = word / 2 ^ low % 2 ^ bits

-- the mask of that field
abbrev pub mask_of : ℕ → ℕ → ℕ
mask_of low bits = 2 ^ (low + bits) - 2 ^ low

-- the bits of a word outside of a mask
abbrev pub outside : ℕ → ℕ → ℕ
outside mask word = bit_and word (2 ^ 32 - 1 - mask)

-- the word at a place of code, its least byte first
abbrev pub word_at : List ℕ → ℕ → ℕ
word_at bytes place = from_le_bytes w32 (take 4 (drop place bytes))

-- the words stand in the bytes from a place on
abbrev pub StandAt : List ℕ → ℕ → List ℕ → Type 0
StandAt bytes place [] = Unit {0}
StandAt bytes place (word ∷ words) = (word_at bytes place ≡ word) × StandAt bytes (place + 4) words

-- bytes as words, each of four bytes, the least first
abbrev pub words_of : List ℕ → List ℕ
words_of (a ∷ b ∷ c ∷ d ∷ bytes) = from_le_bytes w32 (a ∷ b ∷ c ∷ d ∷ []) ∷ words_of bytes
words_of bytes = []
