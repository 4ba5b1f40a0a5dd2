-- The first word of bytes.
use Rattle.std.proofs.Common.{ℕ, ◌≡◌, ◌+◌, ◌≤◌, List, [], ◌∷◌, length, drop, arith}
use Rattle.a64_words.specs.Word.{words_of}

-- four bytes less are one word less
pub one_word_less : (bytes : List ℕ) → 4 ≤ length bytes → length (words_of (drop 4 bytes)) + 1 ≡ length (words_of bytes)
one_word_less [] h = absurd (omega arith)
one_word_less (a ∷ []) h = absurd (omega arith)
one_word_less (a ∷ b ∷ []) h = absurd (omega arith)
one_word_less (a ∷ b ∷ c ∷ []) h = absurd (omega arith)
one_word_less (a ∷ b ∷ c ∷ d ∷ bytes) h = omega arith
