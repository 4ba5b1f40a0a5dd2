-- Two fields of a word that one number is written into.
use Rattle.std.proofs.Common.{ℕ, ◌≡◌, ◌+◌, ◌-◌, ◌/◌, ◌%◌, ◌^◌, bit_and, sym, ◌∙◌, ap}
use Rattle.std.proofs.lemmas.Nat.{and_assoc, and_shr, and_mod, and_mask, mod_below, pow_pos}
use Rattle.std.proofs.Math.Nat.{mod-eq_of_lt}
use Rattle.a64_words.specs.Word.{outside, field_bits, mask_of}

-- what is outside of both fields stays where each in its turn is written
pub both_outside : (a b c : ℕ) → outside (mask_of 5 19) b ≡ outside (mask_of 5 19) a → outside (mask_of 29 2) c ≡ outside (mask_of 29 2) b → outside (mask_of 5 19 + mask_of 29 2) c ≡ outside (mask_of 5 19 + mask_of 29 2) a
both_outside a b c first second =
    sym (and_assoc (2 ^ 32 - 1 - (mask_of 5 19 + mask_of 29 2)) c (2 ^ 32 - 1 - mask_of 29 2)) ∙ ap (λ n. bit_and n (2 ^ 32 - 1 - (mask_of 5 19 + mask_of 29 2))) second
    ∙ and_assoc (2 ^ 32 - 1 - (mask_of 5 19 + mask_of 29 2)) b (2 ^ 32 - 1 - mask_of 29 2)
    ∙ sym (and_assoc (2 ^ 32 - 1 - (mask_of 5 19 + mask_of 29 2)) b (2 ^ 32 - 1 - mask_of 5 19)) ∙ ap (λ n. bit_and n (2 ^ 32 - 1 - (mask_of 5 19 + mask_of 29 2))) first
    ∙ and_assoc (2 ^ 32 - 1 - (mask_of 5 19 + mask_of 29 2)) a (2 ^ 32 - 1 - mask_of 5 19)

-- the one field stays where the other is written
pub high_kept : (a b : ℕ) → outside (mask_of 29 2) b ≡ outside (mask_of 29 2) a → field_bits 5 19 b ≡ field_bits 5 19 a
high_kept a b e = sym (seen b) ∙ ap (field_bits 5 19) e ∙ seen a
  where
    seen : (w : ℕ) → field_bits 5 19 (outside (mask_of 29 2) w) ≡ field_bits 5 19 w
    seen w =
        ap (λ n. n % 2 ^ 19) (and_shr w (2 ^ 32 - 1 - mask_of 29 2) 5) ∙ and_mod (w / 2 ^ 5) ((2 ^ 32 - 1 - mask_of 29 2) / 2 ^ 5) 19
        ∙ and_mask (w / 2 ^ 5 % 2 ^ 19) 19 ∙ mod-eq_of_lt (mod_below (w / 2 ^ 5) (2 ^ 19) (pow_pos 19))
