-- The digits of a word.
use Rattle.std.proofs.Common.{◌≡◌, ℕ, ◌+◌, ◌/◌, ◌%◌, ◌^◌, Bool, true, false, eqb, nat_lt, List, ◌++◌, refl, append_assoc, arith}
use Rattle.std.specs.Prelude.{if◌then◌else◌}
use Rattle.std.proofs.lemmas.Bool.{ne_eqb}
use Rattle.a64_tokens.specs.Fields.{HasNo}
use Rattle.a64_tokens.specs.Hex.{hex_digit, hex_word}

-- four texts, appended one after another
pub four : (text a b c d : List ℕ) → (((text ++ a) ++ b) ++ c) ++ d ≡ text ++ (a ++ (b ++ (c ++ d)))
four text a b c d = simp append_assoc

digit_no_feed : (n : ℕ) (below : Bool) → eqb (if below then 48 + n else 87 + n) 10 ≡ false
digit_no_feed n true = ne_eqb (48 + n) 10 (λ e. omega arith)
digit_no_feed n false = ne_eqb (87 + n) 10 (λ e. omega arith)

no_feed : (n : ℕ) → eqb (hex_digit n) 10 ≡ false
no_feed n = digit_no_feed n (nat_lt n 10)

-- they have no line feed
pub word_no_feed : (word : ℕ) → HasNo 10 (hex_word word)
word_no_feed word = rw (no_feed (word / 16 ^ 7 % 16), no_feed (word / 16 ^ 6 % 16), no_feed (word / 16 ^ 5 % 16), no_feed (word / 16 ^ 4 % 16), no_feed (word / 16 ^ 3 % 16), no_feed (word / 16 ^ 2 % 16), no_feed (word / 16 ^ 1 % 16), no_feed (word / 16 ^ 0 % 16)) refl
