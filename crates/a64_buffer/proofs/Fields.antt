-- Lemmas on a field of a word.
use Rattle.std.proofs.Common.{ℕ, ◌≡◌, ◌+◌, ◌-◌, ◌*◌, ◌/◌, ◌%◌, ◌^◌, ◌<◌, ◌≤◌, bit_and, bit_or, sym, ◌∙◌, ap, arith}
use Rattle.std.specs.Int.Bits.{and_self, or_zero_l, and_zero_r}
use Rattle.std.proofs.lemmas.Nat.{and_comm, and_or_apart, and_assoc, or_shr, or_mod, and_shr, and_mod, mod_below, shl-shr, pow-add, shr_high, mod_low, pow_pos, and-not, shl_whole, and_mask, shl_below}
use Rattle.std.proofs.lemmas.Nat.Bits.{ones_shr, and_high}
use Rattle.std.proofs.Math.Nat.{mod-eq_of_lt, mul_comm, le-mul_of_pos_right, add-zero, pow-le-pow_right}
use Rattle.a64_words.specs.Word.{outside, field_bits, mask_of}

-- the ones of a field, as the code computes them
pub ones_are : (bits : ℕ) → 0 < bits → bits ≤ 32 → 4294967295 / 2 ^ (32 - bits) ≡ 2 ^ bits - 1
ones_are bits some fits = ones_shr 32 (32 - bits) (omega arith) ∙ ap (λ k. 2 ^ k - 1) (omega arith)

-- to take a remainder twice
mod_twice : (value bits : ℕ) → value % 2 ^ bits % 2 ^ bits ≡ value % 2 ^ bits
mod_twice value bits = mod-eq_of_lt (mod_below value (2 ^ bits) (pow_pos bits))

-- a field that is moved into place lies in the mask
pub in_mask : (low bits value : ℕ) → bit_and (value % 2 ^ bits * 2 ^ low) (mask_of low bits) ≡ value % 2 ^ bits * 2 ^ low
in_mask low bits value =
    ap (λ k. bit_and (value % 2 ^ bits * 2 ^ low) (2 ^ k - 2 ^ low)) (omega arith)
    ∙ (and_high (value % 2 ^ bits * 2 ^ low) bits low
    ∙ (ap (λ n. n % 2 ^ bits * 2 ^ low) (shl-shr (value % 2 ^ bits) low) ∙ ap (λ n. n * 2 ^ low) (mod_twice value bits)))

-- what a mask has is not outside it
pub apart : (mask n : ℕ) → mask < 2 ^ 32 → n < 2 ^ 32 → bit_and n mask ≡ n → bit_and n (4294967295 - mask) ≡ 0
apart mask n m l e = omega (arith, and-not 32 mask n m l, and_comm mask n, and_comm n (4294967295 - mask))

-- the rest of the word stays
pub rest_stays : (mask n word : ℕ) → bit_and n (4294967295 - mask) ≡ 0 → outside mask (bit_or (bit_and word (4294967295 - mask)) n) ≡ outside mask word
rest_stays mask n word e = and_or_apart (4294967295 - mask) (bit_and word (4294967295 - mask)) n e ∙ (and_assoc (4294967295 - mask) word (4294967295 - mask) ∙ ap (bit_and word) (and_self (4294967295 - mask)))

-- the ones above a field and those below it
split : (a b c : ℕ) → 0 < a → a ≤ b * a → (c + 1) * (b * a) - 1 - (b * a - a) ≡ c * b * a + (a - 1)
split a b c p q = omega arith

-- 2 ^ 32 by the parts of a word
parts : (low bits : ℕ) → low + bits ≤ 32 → (c : ℕ) × ((c + 1) * (2 ^ bits * 2 ^ low) ≡ 2 ^ 32)
parts low bits h =
    let p : 0 < 2 ^ (32 - (low + bits)) = pow_pos (32 - (low + bits)) in
    let e : 2 ^ (32 - (low + bits)) - 1 + 1 ≡ 2 ^ (32 - (low + bits)) = omega arith in
    let whole : 32 - (low + bits) + (bits + low) ≡ 32 = omega arith in
    (2 ^ (32 - (low + bits)) - 1, ap (λ k. k * (2 ^ bits * 2 ^ low)) e ∙ (ap (λ k. 2 ^ (32 - (low + bits)) * k) (sym (pow-add 2 bits low)) ∙ (sym (pow-add 2 (32 - (low + bits)) (bits + low)) ∙ ap (λ k. 2 ^ k) whole)))

-- the field of the rest is zero
pub rest_is_zero : (low bits : ℕ) → low + bits ≤ 32 → field_bits low bits (4294967295 - mask_of low bits) ≡ 0
rest_is_zero low bits h =
    let (c, e) = parts low bits h in
    let p : 0 < 2 ^ low = pow_pos low in
    let q : 0 < 2 ^ bits = pow_pos bits in
    let le : 2 ^ low ≤ 2 ^ bits * 2 ^ low = (rw mul_comm (le-mul_of_pos_right (2 ^ low) q)) in
    let m : 4294967295 - mask_of low bits ≡ c * 2 ^ bits * 2 ^ low + (2 ^ low - 1) =
    ap (λ k. 4294967295 - (k - 2 ^ low)) (pow-add 2 low bits ∙ mul_comm (2 ^ low) (2 ^ bits))
    ∙ (ap (λ k. k - 1 - (2 ^ bits * 2 ^ low - 2 ^ low)) (sym e) ∙ split (2 ^ low) (2 ^ bits) c p le) in
    ap (field_bits low bits) m ∙ (ap (λ k. k % 2 ^ bits) (shr_high (c * 2 ^ bits) low (2 ^ low - 1) (omega arith))
    ∙ (ap (λ k. k % 2 ^ bits) (sym (add-zero (c * 2 ^ bits))) ∙ mod_low c bits 0 q))

times_more : (a b : ℕ) → a * b ≡ (a + 1) * b - b
times_more a b = omega arith

times_less : (a b : ℕ) → 0 < a → (a - 1) * b ≡ a * b - b
times_less a b p = let e : a - 1 + 1 ≡ a = omega arith in times_more (a - 1) b ∙ ap (λ n. n * b - b) e

-- the mask, as the code computes it
pub mask_is : (low bits : ℕ) → low + bits ≤ 32 → (2 ^ bits - 1) * 2 ^ low % 4294967296 ≡ mask_of low bits
mask_is low bits h =
    let q : 0 < 2 ^ bits = pow_pos bits in
    let l : 2 ^ bits - 1 < 2 ^ bits = omega arith in
    shl_whole (2 ^ bits - 1) bits low 32 l (omega arith) ∙ (times_less (2 ^ bits) (2 ^ low) q ∙ ap (λ k. k - 2 ^ low) (sym (pow-add 2 bits low) ∙ ap (λ k. 2 ^ k) (omega arith)))

-- the field is the number
pub field_is : (low bits value word : ℕ) → low + bits ≤ 32 → field_bits low bits (bit_or (bit_and word (4294967295 - mask_of low bits)) (value % 2 ^ bits * 2 ^ low)) ≡ value % 2 ^ bits
field_is low bits value word h =
    let m : ℕ = 4294967295 - mask_of low bits in
    let n : ℕ = value % 2 ^ bits * 2 ^ low in
    ap (λ k. k % 2 ^ bits) (or_shr (bit_and word m) n low)
    ∙ (or_mod (bit_and word m / 2 ^ low) (n / 2 ^ low) bits
    ∙ (ap (λ k. bit_or (k % 2 ^ bits) (n / 2 ^ low % 2 ^ bits)) (and_shr word m low)
    ∙ (ap (λ k. bit_or k (n / 2 ^ low % 2 ^ bits)) (and_mod (word / 2 ^ low) (m / 2 ^ low) bits ∙ (ap (bit_and (word / 2 ^ low % 2 ^ bits)) (rest_is_zero low bits h) ∙ and_zero_r (word / 2 ^ low % 2 ^ bits)))
    ∙ (or_zero_l (n / 2 ^ low % 2 ^ bits) ∙ (ap (λ k. k % 2 ^ bits) (shl-shr (value % 2 ^ bits) low) ∙ mod_twice value bits)))))

-- what the code makes of a word
abbrev pub made : ℕ → ℕ → ℕ → ℕ → ℕ
made word low bits value = bit_or (bit_and word (4294967295 - 4294967295 / 2 ^ (32 - bits) * 2 ^ low % 4294967296)) (bit_and value (4294967295 / 2 ^ (32 - bits)) * 2 ^ low % 4294967296)

made_is : (word low bits value : ℕ) → 0 < bits → low + bits ≤ 32 → made word low bits value ≡ bit_or (bit_and word (4294967295 - mask_of low bits)) (value % 2 ^ bits * 2 ^ low)
made_is word low bits value p h =
    let e : 4294967295 / 2 ^ (32 - bits) * 2 ^ low % 4294967296 ≡ mask_of low bits = ap (λ k. k * 2 ^ low % 4294967296) (ones_are bits p (omega arith)) ∙ mask_is low bits h in
    let f : bit_and value (4294967295 / 2 ^ (32 - bits)) * 2 ^ low % 4294967296 ≡ value % 2 ^ bits * 2 ^ low =
    ap (λ k. bit_and value k * 2 ^ low % 4294967296) (ones_are bits p (omega arith)) ∙ (ap (λ k. k * 2 ^ low % 4294967296) (and_mask value bits) ∙ shl_whole (value % 2 ^ bits) bits low 32 (mod_below value (2 ^ bits) (pow_pos bits)) (omega arith)) in
    ap (λ k. bit_or (bit_and word (4294967295 - k)) (bit_and value (4294967295 / 2 ^ (32 - bits)) * 2 ^ low % 4294967296)) e ∙ ap (bit_or (bit_and word (4294967295 - mask_of low bits))) f

-- a mask and what is in it fit
mask_fits : (low bits : ℕ) → low + bits ≤ 32 → mask_of low bits < 2 ^ 32
mask_fits low bits h = let l : 2 ^ (low + bits) ≤ 2 ^ 32 = pow-le-pow_right (omega arith) h in omega (arith, pow_pos low)

moved_fits : (low bits value : ℕ) → low + bits ≤ 32 → value % 2 ^ bits * 2 ^ low < 2 ^ 32
moved_fits low bits value h =
    let l : 2 ^ (bits + low) ≤ 2 ^ 32 = pow-le-pow_right (omega arith) {i = bits + low} {j = 32} (omega arith) in
    omega (arith, shl_below (value % 2 ^ bits) bits low (mod_below value (2 ^ bits) (pow_pos bits)))

pub with_field_outside : (word low bits value : ℕ) → 0 < bits → low + bits ≤ 32 → outside (mask_of low bits) (made word low bits value) ≡ outside (mask_of low bits) word
with_field_outside word low bits value p h = ap (outside (mask_of low bits)) (made_is word low bits value p h)
    ∙ rest_stays (mask_of low bits) (value % 2 ^ bits * 2 ^ low) word (apart (mask_of low bits) (value % 2 ^ bits * 2 ^ low) (mask_fits low bits h) (moved_fits low bits value h) (in_mask low bits value))

pub with_field_field : (word low bits value : ℕ) → 0 < bits → low + bits ≤ 32 → field_bits low bits (made word low bits value) ≡ value % 2 ^ bits
with_field_field word low bits value p h = ap (field_bits low bits) (made_is word low bits value p h) ∙ field_is low bits value word h
