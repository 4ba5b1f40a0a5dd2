-- Lines that are cut at their spaces.
use Rattle.std.proofs.Common.{◌≡◌, ℕ, ◌<◌, List, [], ◌∷◌, ◌++◌, length, Some, None, refl, sym, ap, ◌∙◌, append_assoc, arith}
use Rattle.std.specs.List.{slice_split, join_with_byte}
use Rattle.std.specs.Prelude.{◌==◌}
use Rattle.std.proofs.lemmas.List.Splits.{join_with_byte-slice_split}
use Rattle.a64_audit.specs.declared.reading.LineParts.{LineParts}
use Rattle.a64_audit.specs.Entries.{line_of_two}
use Rattle.a64_audit.specs.LineParts.{AreParts}
use Rattle.a64_tokens.specs.Fields.{HasNo}
use Rattle.a64_tokens.specs.SplitLaws.{split_at}
use Rattle.a64_tokens.specs.TokenLaws.{some_token}

abbrev pub cuts : List ℕ → List (List ℕ)
cuts text = slice_split (λ b. b == 32) text

join : (text : List ℕ) → join_with_byte 32 (cuts text) ≡ text
join text = join_with_byte-slice_split 32 text

more_joined : (front : List ℕ) (ws : List (List ℕ)) → 0 < length ws → join_with_byte 32 (front ∷ ws) ≡ front ++ 32 ∷ join_with_byte 32 ws
more_joined front [] some = absurd (omega arith)
more_joined front (w ∷ ws) some = refl

-- the part before a space, and the rest
pub cut_whole : (text front rest : List ℕ) → cuts text ≡ front ∷ cuts rest → text ≡ front ++ 32 ∷ rest
cut_whole text front rest e =
    sym (join text) ∙ ap (λ (ws : List (List ℕ)). join_with_byte 32 ws) e ∙ more_joined front (cuts rest) (some_token 32 rest) ∙ ap (λ (t : List ℕ). front ++ 32 ∷ t) (join rest)

-- a text that is cut so is cut in no other way
pub cut_same : (text front rest other behind : List ℕ) → cuts text ≡ front ∷ cuts rest → HasNo 32 other → text ≡ other ++ 32 ∷ behind → (front ≡ other) × (rest ≡ behind)
cut_same text front rest other behind e plain is =
    let at : cuts text ≡ other ∷ cuts behind = ap cuts is ∙ split_at 32 other behind plain in
    let fronts : front ≡ other = cc in
    let rests : cuts rest ≡ cuts behind = cc in
    (fronts, sym (join rest) ∙ ap (λ (ws : List (List ℕ)). join_with_byte 32 ws) rests ∙ join behind)

-- a text that is not cut has no space
pub not_cut : (text front other behind : List ℕ) → cuts text ≡ front ∷ [] → HasNo 32 other → text ≡ other ++ 32 ∷ behind → ⊥
not_cut text front other behind e plain is =
    let at : cuts text ≡ other ∷ cuts behind = ap cuts is ∙ split_at 32 other behind plain in
    let none : cuts behind ≡ [] = cc in
    omega (arith, some_token 32 behind, ap (λ (ws : List (List ℕ)). length ws) none)

-- ---- at the first two spaces

joined : (name first second : List ℕ) → line_of_two name first second ≡ name ++ 32 ∷ (first ++ 32 ∷ second)
joined name first second = simp append_assoc

pub no_name : (line name : List ℕ) → cuts line ≡ name ∷ [] → AreParts line None
no_name line name e = record { some = tt; only = λ n f s plain _ is. not_cut line name n (f ++ 32 ∷ s) e plain (is ∙ joined n f s) }

pub no_first : (line name fields first : List ℕ) → cuts line ≡ name ∷ cuts fields → cuts fields ≡ first ∷ [] → AreParts line None
no_first line name fields first e d = record {
  some = tt;
  only = λ n f s plain plain' is.
      let same = cut_same line name fields n (f ++ 32 ∷ s) e plain (is ∙ joined n f s) in
      not_cut fields first f s d plain' same.1;
}

pub three : (line fields : List ℕ) (parts : LineParts) → cuts line ≡ parts.name.now ∷ cuts fields → cuts fields ≡ parts.first.now ∷ cuts parts.second.now → AreParts line (Some parts)
three line fields parts e d =
    let name = parts.name.now in
    let first = parts.first.now in
    let second = parts.second.now in
    record {
      some = cut_whole line name fields e ∙ ap (λ (t : List ℕ). name ++ 32 ∷ t) (cut_whole fields first second d) ∙ sym (joined name first second);
      only = λ n f s plain plain' is.
          let same = cut_same line name fields n (f ++ 32 ∷ s) e plain (is ∙ joined n f s) in
          let again = cut_same fields first second f s d plain' same.1 in
          (same.0, again.0, again.1);
    }
