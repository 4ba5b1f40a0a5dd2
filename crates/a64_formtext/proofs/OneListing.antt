-- The lines of a file that mean something are the one listing of the words that it says.
use Rattle.std.proofs.Common.{◌≡◌, ℕ, inl, inr, List, [], ◌∷◌, ◌++◌, refl, sym, ap, ap₂, ◌∙◌, subst, append_assoc, append-nil}
use Rattle.std.specs.Prelude.{codes, not}
use Rattle.std.specs.List.{AllZip, filter}
use Rattle.a64_formtext.specs.Shown.{IsListing, IsOneLine, IsOneListing, meant_lines, says, with_feeds}
use Rattle.a64_formtext.proofs.OneLine.{is_one}
use Rattle.a64_lines.specs.Lines.{IsFile, LeadAll}
use Rattle.a64_tokens.specs.Splitting.{is_blank, lines_of}

abbrev pub meant : List (List ℕ) → List (List ℕ)
meant lines = filter (λ line. not (is_blank line)) lines

-- lines say some more words, each by its one line
record SaysMore (old new : List ℕ) (lines : List (List ℕ)) : Type 0 where
  words : List ℕ
  parts : new ≡ old ++ words
  each : AllZip IsOneLine words (meant lines)

lines_say : (lines : List (List ℕ)) (old new : List ℕ) → LeadAll says lines old new → SaysMore old new lines
lines_say [] old new is = record { words = []; parts = is ∙ sym (append-nil old); each = tt }
lines_say (line ∷ lines) old new (mid, inl (blank, same), more) =
    let left = lines_say lines mid new more in
    record {
      words = left.words;
      parts = left.parts ∙ ap (λ (l : List ℕ). l ++ left.words) same;
      each = rw blank left.each;
    }
lines_say (line ∷ lines) old new (mid, inr (full, (word, fits, shown, added)), more) =
    let left = lines_say lines mid new more in
    record {
      words = word ∷ left.words;
      parts = left.parts ∙ ap (λ (l : List ℕ). l ++ left.words) added ∙ append_assoc old (word ∷ []) left.words;
      each = rw full (is_one word line fits shown, left.each);
    }

-- with their line feeds they are a listing
is_listing : (words : List ℕ) (lines : List (List ℕ)) → AllZip IsOneLine words lines → IsListing words (with_feeds lines)
is_listing [] [] each = refl
is_listing [] (line ∷ lines) each = absurd each
is_listing (word ∷ words) [] each = absurd each
is_listing (word ∷ words) (line ∷ lines) each = (line, with_feeds lines, each.0.shown, refl, is_listing words lines each.1)

-- and there is no other
only_listing : (words : List ℕ) (lines : List (List ℕ)) → AllZip IsOneLine words lines → (text : List ℕ) → IsListing words text → text ≡ with_feeds lines
only_listing [] [] each text is = is
only_listing [] (line ∷ lines) each text is = absurd each
only_listing (word ∷ words) [] each text is = absurd each
only_listing (word ∷ words) (line ∷ lines) each text (other, rest, shown, parts, more) =
    parts ∙ ap₂ (λ (l r : List ℕ). l ++ codes "\n" ++ r) (each.0.one_line other shown) (only_listing words lines each.1 rest more)

pub one_listing : (bytes words : List ℕ) → IsFile says [] bytes words → IsOneListing words (meant_lines bytes)
one_listing bytes words is =
    let said = lines_say (lines_of bytes) [] words is in
    let each = subst (λ (ws : List ℕ). AllZip IsOneLine ws (meant_lines bytes)) (sym said.parts) said.each in
    record {
      each = each;
      listing = is_listing words (meant_lines bytes) each;
      one = only_listing words (meant_lines bytes) each;
    }
