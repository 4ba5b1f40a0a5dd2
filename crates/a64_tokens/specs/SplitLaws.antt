-- Texts that are cut at a byte, and joined by it.
use Rattle.std.proofs.Common.{◌≡◌, ℕ, ◌<◌, Bool, true, false, eqb, List, [], ◌∷◌, ◌++◌, length, map}
use Rattle.std.proofs.Common.{refl, sym, ap, ◌∙◌, append_assoc, arith}
use Rattle.std.specs.Prelude.{◌||◌}
use Rattle.std.specs.List.{slice_split, join_with_byte, list_any, AllByRecursion}
use Rattle.std.proofs.lemmas.Bool.{eq-eqb}
use Rattle.std.proofs.lemmas.List.Elements.{All-from_recursion}
use Rattle.std.proofs.lemmas.List.Splits.{slice_split_none, slice_split_at}
use Rattle.std.proofs.lemmas.List.Splits.{join_with_byte-slice_split}
use Rattle.a64_tokens.specs.Fields.{HasNo}
use Rattle.a64_tokens.specs.Splitting.{by_twos, comma_pairs, comma_tokens}
use Rattle.a64_tokens.specs.TokenLaws.{some_token}

pub neither : (a b : Bool) → (a || b) ≡ false → (a ≡ false) × (b ≡ false)
neither true b h = absurd cc
neither false b h = (refl, h)

apart : (c : ℕ) (xs : List ℕ) → HasNo c xs → AllByRecursion (λ b. eqb b c ≡ false) xs
apart c [] h = tt
apart c (x ∷ xs) h =
    let n = neither (eqb x c) (list_any (λ b. eqb b c) xs) h in (n.0, apart c xs n.1)

pub split_none : (c : ℕ) (xs : List ℕ) → HasNo c xs → slice_split (λ b. eqb b c) xs ≡ xs ∷ []
split_none c xs h =
    slice_split_none (λ b. eqb b c) xs (All-from_recursion (λ b. eqb b c ≡ false) xs (apart c xs h))

pub split_at : (c : ℕ) (xs ys : List ℕ) → HasNo c xs
    → slice_split (λ b. eqb b c) (xs ++ c ∷ ys) ≡ xs ∷ slice_split (λ b. eqb b c) ys
split_at c xs ys h =
    slice_split_at (λ b. eqb b c) xs c ys (All-from_recursion (λ b. eqb b c
    ≡ false) xs (apart c xs h)) (eq-eqb c c refl)

-- what was joined is split again
pub split-join : (c : ℕ) (w : List ℕ) (ws : List (List ℕ)) → AllByRecursion (HasNo c) (w ∷ ws)
    → slice_split (λ b. eqb b c) (join_with_byte c (w ∷ ws)) ≡ w ∷ ws
split-join c w [] h = split_none c w h.0
split-join c w (v ∷ ws) h =
    split_at c w (join_with_byte c (v ∷ ws)) h.0
    ∙ ap (λ (t : List (List ℕ)). w ∷ t) (split-join c v ws h.1)

-- ---- at commas

pub comma_joined : (list : List ℕ) → join_with_byte 44 (comma_tokens list) ≡ list
comma_joined list = join_with_byte-slice_split 44 list

pub comma_apart : {X : Type 0} (text : X → List ℕ) (fits : X → Type 0)
    → ((x : X) → fits x → HasNo 44 (text x)) → (x : X) (xs : List X) → AllByRecursion fits (x ∷ xs)
    → comma_tokens (join_with_byte 44 (map text (x ∷ xs))) ≡ map text (x ∷ xs)
comma_apart {X} text fits plain x xs are = split-join 44 (text x) (map text xs) (all (x ∷ xs) are)
  where
    all : (ys : List X) → AllByRecursion fits ys → AllByRecursion (HasNo 44) (map text ys)
    all [] are = tt
    all (y ∷ ys) are = (plain y are.0, all ys are.1)

-- ---- and at each second one

by_twos_joined : (ts : List (List ℕ)) → join_with_byte 44 (by_twos ts) ≡ join_with_byte 44 ts
by_twos_joined [] = refl
by_twos_joined (a ∷ []) = refl
by_twos_joined (a ∷ b ∷ []) = refl
by_twos_joined (a ∷ b ∷ t ∷ []) = append_assoc a (44 ∷ b) (44 ∷ t)
by_twos_joined (a ∷ b ∷ t ∷ u ∷ ts) =
    append_assoc a (44 ∷ b) (44 ∷ join_with_byte 44 (by_twos (t ∷ u ∷ ts)))
    ∙ ap (λ (l : List ℕ). a ++ 44 ∷ (b ++ 44 ∷ l)) (by_twos_joined (t ∷ u ∷ ts))

pub pairs_joined : (list : List ℕ) → join_with_byte 44 (comma_pairs list) ≡ list
pairs_joined list = by_twos_joined (comma_tokens list) ∙ comma_joined list

some_two : (ts : List (List ℕ)) → 0 < length ts → 0 < length (by_twos ts)
some_two [] some = some
some_two (a ∷ []) some = some
some_two (a ∷ b ∷ ts) some = omega arith

pub some_pair : (list : List ℕ) → 0 < length (comma_pairs list)
some_pair list = some_two (comma_tokens list) (some_token 44 list)

-- texts that have one comma each
module _ {X : Type 0} (text : X → List ℕ) (fits : X → Type 0) (front back : X
    → List ℕ) (same : (x : X) → text x ≡ front x ++ 44 ∷ back x) (plain : (x : X) → fits x
    → HasNo 44 (front x) × HasNo 44 (back x)) where
  abbrev halves : List X → List (List ℕ)
  halves [] = []
  halves (x ∷ xs) = front x ∷ back x ∷ halves xs

  halves_twos : (xs : List X) → by_twos (halves xs) ≡ map text xs
  halves_twos [] = refl
  halves_twos (x ∷ xs) =
      ap (λ (t : List ℕ). t ∷ by_twos (halves xs)) (sym (same x))
      ∙ ap (λ (ts : List (List ℕ)). text x ∷ ts) (halves_twos xs)

  halves_plain : (xs : List X) → AllByRecursion fits xs → AllByRecursion (HasNo 44) (halves xs)
  halves_plain [] are = tt
  halves_plain (x ∷ xs) are = let both = plain x are.0 in (both.0, (both.1, halves_plain xs are.1))

  pub pairs_apart : (x : X) (xs : List X) → AllByRecursion fits (x ∷ xs)
      → comma_pairs (join_with_byte 44 (map text (x ∷ xs))) ≡ map text (x ∷ xs)
  pairs_apart x xs are =
      let whole : join_with_byte 44 (map text (x ∷ xs)) ≡ join_with_byte 44 (halves (x ∷ xs)) =
      ap (λ (ts : List (List ℕ)). join_with_byte 44 ts) (sym (halves_twos (x ∷ xs)))
      ∙ by_twos_joined (halves (x ∷ xs)) in
      ap comma_pairs whole
      ∙ ap by_twos (split-join 44 (front x) (back x ∷ halves xs) (halves_plain (x ∷ xs) are))
      ∙ halves_twos (x ∷ xs)
