-- From the bits of bytes that were looked at together to where a token ends.
use Rattle.std.proofs.Common.{◌≡◌, ℕ, zero, suc, ◌+◌, ◌%◌, ◌^◌, ◌<◌, ◌≤◌, leb, eqb, cond, Bool, true, false, not, ◌||◌, List, [], ◌∷◌, map, length, take, replicate, w8, refl, sym, ap, subst, ◌∙◌, arith, inl, inr}
use Rattle.std.specs.List.{prefix_len, list_any}
use Rattle.std.proofs.lemmas.Bool.{cases_eq, ne_eqb, leb-false}
use Rattle.std.proofs.lemmas.Simd.{bitmask_splat, first_set_mask_l, length-chunk}
use Rattle.std.proofs.lemmas.List.Sums.{prefix_len-le-length}
use lib.Lanes.{chunk, zip2, mask_l, top}
use Rattle.a64_tokens.specs.Fields.{HasNo}
use Rattle.a64_tokens.specs.Fronts.{first_set, IsPlainTo}

-- a byte that is no more than a space
abbrev is_low : ℕ → Bool
is_low b = leb b 32

abbrev is_high : ℕ → Bool
is_high b = not (is_low b)

other_byte : (c b : ℕ) → c ≤ 32 → leb b 32 ≡ false → eqb b c ≡ false
other_byte c b low high =
    let above : 32 < b = leb-false b 32 high in
    elim (cases_eq b c) [ inl same ↦ absurd (omega (arith, low, above, same)) | inr other ↦ ne_eqb b c other ]

-- one more byte in front
one_more : (c b : ℕ) (xs : List ℕ) (n : ℕ) → c ≤ 32 → (low : Bool) → leb b 32 ≡ low → HasNo c (take n xs) → HasNo c (take (cond (not low) (1 + n) 0) (b ∷ xs))
one_more c b xs n few true is rest = refl
one_more c b xs n few false is rest =
    let next : suc n ≡ 1 + n = omega arith in
    subst (λ (m : ℕ). HasNo c (take m (b ∷ xs))) next (ap (λ (t : Bool). t || list_any (λ x. eqb x c) (take n xs)) (other_byte c b few is) ∙ rest)

-- before the first byte that is no more than a space stands none
none_before : (c n : ℕ) (xs : List ℕ) → c ≤ 32 → HasNo c (take (prefix_len is_high (take n xs)) xs)
none_before c zero [] few = refl
none_before c (suc n) [] few = refl
none_before c zero (b ∷ xs) few = refl
none_before c (suc n) (b ∷ xs) few = one_more c b xs (prefix_len is_high (take n xs)) few (leb b 32) refl (none_before c n xs few)

-- what the bits of the first 16 bytes tell
pub plain_to : (text : List ℕ) (r : ℕ) → 16 ≤ length text → r ≡ first_set (mask_l (map (top 7) (zip2 (λ a b. cond (leb a b) 255 0) (chunk 0 16 text) (replicate 16 32))) % 2 ^ 64) → IsPlainTo text r
plain_to text r room found =
    let long = length-chunk 0 16 text room in
    let counted : r ≡ prefix_len is_high (take 16 text) = found ∙ ap (λ m. first_set m) (bitmask_splat w8 leb (chunk 0 16 text) 16 32 long (omega arith)) ∙ first_set_mask_l is_low (chunk 0 16 text) 16 long (omega arith) in
    record {
      inside = omega (arith, counted, long, prefix_len-le-length is_high (take 16 text));
      no_space = subst (λ (n : ℕ). HasNo 32 (take n text)) (sym counted) (none_before 32 16 text (omega arith));
      no_feed = subst (λ (n : ℕ). HasNo 10 (take n text)) (sym counted) (none_before 10 16 text (omega arith));
    }

pub plain_at_start : (text : List ℕ) → IsPlainTo text 0
plain_at_start text = record { inside = omega arith; no_space = refl; no_feed = refl }
