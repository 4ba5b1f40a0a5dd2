-- Texts that are cut at their first space.
use Rattle.std.proofs.Common.{◌≡◌, ℕ, ◌<◌, List, [], ◌∷◌, ◌++◌, length, Option, Some, None, refl, sym, ap, ◌∙◌, arith}
use Rattle.std.specs.List.{slice_split, join_with_byte}
use Rattle.std.specs.Prelude.{◌==◌}
use Rattle.std.proofs.lemmas.List.Splits.{join_with_byte-slice_split}
use Rattle.a64_tokens.specs.Fields.{HasNo}
use Rattle.a64_tokens.specs.Reads.{Reads}
use Rattle.a64_tokens.specs.SplitLaws.{split_at}
use Rattle.a64_tokens.specs.TokenLaws.{some_token}
use Rattle.a64_tokens.proofs.Splits.{first_plain}
use Rattle.a64_reloc.specs.Halves.{AreBoth, IsPlainFirst, halves_text, pair_text}

abbrev pub cuts : List ℕ → List (List ℕ)
cuts text = slice_split (λ b. b == 32) text

join : (text : List ℕ) → join_with_byte 32 (cuts text) ≡ text
join text = join_with_byte-slice_split 32 text

more_joined : (front : List ℕ) (ws : List (List ℕ)) → 0 < length ws → join_with_byte 32 (front ∷ ws) ≡ front ++ 32 ∷ join_with_byte 32 ws
more_joined front [] some = absurd (omega arith)
more_joined front (w ∷ ws) some = refl

-- a text without a space
pub not_cut : (text first : List ℕ) → cuts text ≡ first ∷ [] → Reads IsPlainFirst halves_text text None
not_cut text first whole = record {
  some = tt;
  only = λ halves plain is.
      let same : text ≡ halves.0 ++ 32 ∷ halves.1 = is in
      let at : cuts text ≡ halves.0 ∷ cuts halves.1 = ap cuts same ∙ split_at 32 halves.0 halves.1 plain in
      let none : cuts halves.1 ≡ [] = cc in
      absurd (omega (arith, some_token 32 halves.1, ap (λ (ws : List (List ℕ)). length ws) none));
}

more_cut : (text first second : List ℕ) → cuts text ≡ first ∷ cuts second → text ≡ first ++ 32 ∷ second
more_cut text first second whole =
    sym (join text) ∙ ap (λ (ws : List (List ℕ)). join_with_byte 32 ws) whole ∙ more_joined first (cuts second) (some_token 32 second) ∙ ap (λ (t : List ℕ). first ++ 32 ∷ t) (join second)

same_cuts : (one two : List ℕ) → cuts one ≡ cuts two → one ≡ two
same_cuts one two same = sym (join one) ∙ ap (λ (ws : List (List ℕ)). join_with_byte 32 ws) same ∙ join two

-- a text with one
pub is_cut : (text first second : List ℕ) → cuts text ≡ first ∷ cuts second → Reads IsPlainFirst halves_text text (Some (first, second))
is_cut text first second whole = record {
  some = (first_plain 32 text first (cuts second) whole, more_cut text first second whole);
  only = λ halves plain is.
      let same : text ≡ halves.0 ++ 32 ∷ halves.1 = is in
      let at : cuts text ≡ halves.0 ∷ cuts halves.1 = ap cuts same ∙ split_at 32 halves.0 halves.1 plain in
      let fronts : first ≡ halves.0 = cc in
      let cut : cuts second ≡ cuts halves.1 = cc in
      let rests : second ≡ halves.1 = same_cuts second halves.1 cut in
      ap (λ (f : List ℕ). Some (f, second)) fronts ∙ ap (λ (r : List ℕ). Some (halves.0, r)) rests;
}

first_of : Option (List ℕ × List ℕ) → List ℕ
first_of None = []
first_of (Some halves) = halves.0

second_of : Option (List ℕ × List ℕ) → List ℕ
second_of None = []
second_of (Some halves) = halves.1

-- two values, the text of the first without a space
module _ {A B : Type 0} (fits_first : A → Type 0) (text_first : A → List ℕ) (fits_second : B → Type 0) (text_second : B → List ℕ)
    (plain : (a : A) → fits_first a → HasNo 32 (text_first a)) (text : List ℕ) where
  abbrev IsRead : Option (A × B) → Type 0
  IsRead result = Reads (AreBoth fits_first fits_second) (pair_text text_first text_second) text result

  -- there is no space
  pub no_space : Reads IsPlainFirst halves_text text None → IsRead None
  no_space cut = record { some = tt; only = λ pair fits is. let e = cut.only (text_first pair.0, text_second pair.1) (plain pair.0 fits.0) is in absurd cc }

  module _ (first second : List ℕ) (cut : Reads IsPlainFirst halves_text text (Some (first, second))) where
    parts : (pair : A × B) → fits_first pair.0 → text ≡ pair_text text_first text_second pair → (first ≡ text_first pair.0) × (second ≡ text_second pair.1)
    unfolding first_of second_of
    parts pair fits is =
        let e = cut.only (text_first pair.0, text_second pair.1) (plain pair.0 fits) is in
        (ap first_of e, ap second_of e)

    pub no_first : Reads fits_first text_first first None → IsRead None
    no_first read = record {
      some = tt;
      only = λ pair fits is. let e = read.only pair.0 fits.0 (parts pair fits.0 is).0 in absurd cc;
    }

    pub no_second : Reads fits_second text_second second None → IsRead None
    no_second read = record {
      some = tt;
      only = λ pair fits is. let e = read.only pair.1 fits.1 (parts pair fits.0 is).1 in absurd cc;
    }

    pub both : (a : A) (b : B) → Reads fits_first text_first first (Some a) → Reads fits_second text_second second (Some b) → IsRead (Some (a, b))
    both a b one two = record {
      some = ((one.some.0, two.some.0), let x = one.some.1 in let y = two.some.1 in let z = cut.some.1 in cc);
      only = λ pair fits is.
          let x = one.only pair.0 fits.0 (parts pair fits.0 is).0 in
          let y = two.only pair.1 fits.1 (parts pair fits.0 is).1 in
          let fronts : a ≡ pair.0 = cc in
          let backs : b ≡ pair.1 = cc in
          ap (λ (v : A). Some (v, b)) fronts ∙ ap (λ (w : B). Some (pair.0, w)) backs;
    }
