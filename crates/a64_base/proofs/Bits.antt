-- Setting and clearing one bit, and joining numbers bit by bit.
use Rattle.std.proofs.Common.{◌≡◌, ◌≢◌, ◌<◌, ◌^◌, ◌*◌, ◌%◌, ◌-◌, ◌||◌, ℕ, true, false, inl, inr, arith, bit_and, bit_or, w32, refl}
use Rattle.std.proofs.lemmas.Bool.{cases_lt}
use Rattle.std.proofs.lemmas.Bool.Decides.{nat_tests}
use Rattle.std.proofs.lemmas.Nat.{and_le_l}
use Rattle.std.proofs.lemmas.Nat.Bits.{bit_at-lt, bit_at_or, bit_at_set_same, bit_at_set_other, bit_at_clear_same, bit_at_clear_other, bit_at_above}
use Rattle.a64_base.specs.Bits.{has_bit}

pub bit_set : (bits at : ℕ) → at < 32 → has_bit (bit_or bits (1 * 2 ^ at % 2 ^ 32)) at ≡ true
bit_set bits at h = rw (bit_at_set_same w32 bits at h) refl

pub other_bit_set : (bits at n : ℕ) → at < 32 → n ≢ at
    → has_bit (bit_or bits (1 * 2 ^ at % 2 ^ 32)) n ≡ has_bit bits n
other_bit_set bits at n h d = rw (bit_at_set_other w32 bits at h n d) refl

pub bit_cleared : (bits at : ℕ) → at < 32
    → has_bit (bit_and bits (2 ^ 32 - 1 - 1 * 2 ^ at % 2 ^ 32)) at ≡ false
bit_cleared bits at h = rw (bit_at_clear_same w32 bits at h) refl

pub other_bit_cleared : (bits at n : ℕ) → bits < 2 ^ 32 → at < 32 → n ≢ at
    → has_bit (bit_and bits (2 ^ 32 - 1 - 1 * 2 ^ at % 2 ^ 32)) n ≡ has_bit bits n
other_bit_cleared bits at n b h d =
    elim (cases_lt n 32) [
      | inl below ↦ rw (bit_at_clear_other w32 bits at h n below d) refl
      | inr above ↦
          let kept : bit_and bits (2 ^ 32 - 1 - 1 * 2 ^ at % 2 ^ 32) < 2 ^ 32 =
          omega (arith, and_le_l bits (2 ^ 32 - 1 - 1 * 2 ^ at % 2 ^ 32)) in
          rw (bit_at_above _ 32 n kept above, bit_at_above bits 32 n b above) refl
    ]

pub joined_bits : (a b n : ℕ) → has_bit (bit_or a b) n ≡ (has_bit a n || has_bit b n)
joined_bits a b n =
    rw (bit_at_or a b n) (grind (arith, nat_tests, bit_at-lt a n, bit_at-lt b n))
