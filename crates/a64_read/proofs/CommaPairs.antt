-- Texts that have one comma each, cut from a list.
use Rattle.std.proofs.Common.{Bor, ◌≡◌, ℕ, ◌+◌, List, [], ◌∷◌, ◌++◌, length, take, Option, Some, None, refl, sym, ap, ◌∙◌, append_assoc, append-nil, length-append, arith}
use Rattle.std.specs.List.{join_with_byte}
use Rattle.std.proofs.Math.Seq.{take-append_seam}
use Rattle.a64_tokens.specs.SplitLaws.{comma_joined}
use Rattle.a64_tokens.specs.Splitting.{by_twos, comma_pairs, comma_tokens, of_text}

-- one that is left over
pub last_alone : (text front : List ℕ) (more : Option (Bor (List ℕ))) → more ≡ None → comma_tokens text ≡ front ∷ of_text comma_tokens more → comma_pairs text ≡ text ∷ []
last_alone text front (Some rest) is one = absurd cc
last_alone text front None is one =
    let same : front ≡ text = sym (ap (λ (ts : List (List ℕ)). join_with_byte 44 ts) one) ∙ comma_joined text in
    ap by_twos one ∙ ap (λ (t : List ℕ). t ∷ []) same

their_pairs : (rest : Option (Bor (List ℕ))) → by_twos (of_text comma_tokens rest) ≡ of_text comma_pairs rest
their_pairs None = refl
their_pairs (Some rest) = refl

module _ (text front more back : List ℕ) (rest : Option (Bor (List ℕ))) (one : comma_tokens text ≡ front ∷ comma_tokens more) (two : comma_tokens more ≡ back ∷ of_text comma_tokens rest) where
  abbrev pair : List ℕ
  pair = front ++ 44 ∷ back

  behind_back : (ts : List (List ℕ)) → (tail : List ℕ) × (join_with_byte 44 (back ∷ ts) ≡ back ++ tail)
  behind_back [] = ([], sym (append-nil back))
  behind_back (t ∷ ts) = (44 ∷ join_with_byte 44 (t ∷ ts), refl)

  whole : (tail : List ℕ) × (text ≡ pair ++ tail)
  whole =
      let behind = behind_back (of_text comma_tokens rest) in (
        behind.0,
        sym (comma_joined text) ∙ ap (λ (ts : List (List ℕ)). join_with_byte 44 ts) (one ∙ ap (λ (ts : List (List ℕ)). front ∷ ts) two)
            ∙ ap (λ (t : List ℕ). front ++ 44 ∷ t) behind.1 ∙ sym (append_assoc front (44 ∷ back) behind.0),
      )

  pub pair_taken : take (length front + 1 + length back) text ≡ pair
  pair_taken =
      let size : length front + 1 + length back ≡ length pair = omega (arith, length-append front (44 ∷ back)) in
      ap (λ (n : ℕ). take n text) size ∙ ap (λ (t : List ℕ). take (length pair) t) whole.1 ∙ take-append_seam pair whole.0

  pub pair_size : length front + 1 + length back ≡ length (take (length front + 1 + length back) text)
  pair_size = omega (arith, length-append front (44 ∷ back), ap (λ (t : List ℕ). length t) pair_taken)

  pub pair_first : comma_pairs text ≡ take (length front + 1 + length back) text ∷ of_text comma_pairs rest
  pair_first =
      ap by_twos (one ∙ ap (λ (ts : List (List ℕ)). front ∷ ts) two)
      ∙ ap (λ (ts : List (List ℕ)). pair ∷ ts) (their_pairs rest)
      ∙ ap (λ (t : List ℕ). t ∷ of_text comma_pairs rest) (sym pair_taken)

-- the tokens of what stands behind a comma
pub some_more : (text front : List ℕ) (more : Option (Bor (List ℕ))) (behind : Bor (List ℕ)) → more ≡ Some behind → comma_tokens text ≡ front ∷ of_text comma_tokens more → comma_tokens text ≡ front ∷ comma_tokens behind.now
some_more text front more behind is one = one ∙ ap (λ (m : Option (Bor (List ℕ))). front ∷ of_text comma_tokens m) is
