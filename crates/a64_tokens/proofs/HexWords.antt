-- The digits of a word.
use Rattle.std.proofs.Common.{◌≡◌, ℕ, ◌/◌, ◌%◌, ◌^◌, ◌<◌, ◌++◌, refl, arith}
use Rattle.a64_tokens.specs.Hex.{hex_pair, hex_word}

-- they are those of its bytes, the highest first
pub hex_word_pairs : (word : ℕ) → word < 2 ^ 32
    → hex_word word ≡ hex_pair (word / 16777216) ++ hex_pair (word / 65536 % 256) ++ hex_pair (word / 256 % 256) ++ hex_pair (word % 256)
hex_word_pairs word h =
    let a : word / 16777216 / 16 ≡ word / 16 ^ 7 % 16 = omega arith in
    let b : word / 16777216 % 16 ≡ word / 16 ^ 6 % 16 = omega arith in
    let c : word / 65536 % 256 / 16 ≡ word / 16 ^ 5 % 16 = omega arith in
    let d : word / 65536 % 256 % 16 ≡ word / 16 ^ 4 % 16 = omega arith in
    let e : word / 256 % 256 / 16 ≡ word / 16 ^ 3 % 16 = omega arith in
    let f : word / 256 % 256 % 16 ≡ word / 16 ^ 2 % 16 = omega arith in
    let g : word % 256 / 16 ≡ word / 16 ^ 1 % 16 = omega arith in
    let i : word % 256 % 16 ≡ word / 16 ^ 0 % 16 = omega arith in
    rw (a, b, c, d, e, f, g, i) refl
