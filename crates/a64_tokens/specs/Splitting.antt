-- Texts, cut into lines and tokens.
use Rattle.std.specs.Prelude.{ℕ, ◌≡◌, ◌==◌, Bool, true, List, [], ◌∷◌, ◌++◌, Option, Some, None}
use Rattle.std.specs.List.{slice_split}
use Rattle.std.proofs.Common.{Bor}

-- the bytes, cut at each line feed. Where the last byte is one, an empty line follows it, which
-- means nothing
abbrev pub lines_of : List ℕ → List (List ℕ)
lines_of bytes = slice_split (λ b. b == 10) bytes

-- an empty line, and one that begins with a semicolon, mean nothing
abbrev pub is_blank : List ℕ → Bool
is_blank [] = true
is_blank (b ∷ bytes) = b == 59

-- the first of some lines, and the others. There always is one
abbrev pub first : List (List ℕ) → List ℕ
first [] = []
first (line ∷ lines) = line

abbrev pub others : List (List ℕ) → List (List ℕ)
others [] = []
others (line ∷ lines) = lines

abbrev pub first_line : List ℕ → List ℕ
first_line text = first (lines_of text)

-- the tokens of the first line, and the lines behind it
abbrev pub line_tokens : List ℕ → List (List ℕ)
line_tokens text = slice_split (λ b. b == 32) (first_line text)

abbrev pub lines_behind : List ℕ → List (List ℕ)
lines_behind text = others (lines_of text)

-- the fields that a text has, with commas between
abbrev pub comma_tokens : List ℕ → List (List ℕ)
comma_tokens text = slice_split (λ b. b == 44) text

-- texts by twos, with the comma between. One that is left over stands alone
abbrev pub by_twos : List (List ℕ) → List (List ℕ)
by_twos [] = []
by_twos (a ∷ []) = a ∷ []
by_twos (a ∷ b ∷ ts) = (a ++ 44 ∷ b) ∷ by_twos ts

-- the fields that a text has, where each has a comma of its own
abbrev pub comma_pairs : List ℕ → List (List ℕ)
comma_pairs text = by_twos (comma_tokens text)

-- what some text has, where there is one
abbrev pub of_text : (List ℕ → List (List ℕ)) → Option (Bor (List ℕ)) → List (List ℕ)
of_text part None = []
of_text part (Some text) = part text.now

-- the lines behind those of which some text is left, or else these
abbrev pub behind_text : (List ℕ → List (List ℕ)) → Option (Bor (List ℕ)) → Option (Bor (List ℕ))
    → List (List ℕ)
behind_text behind None lines = of_text lines_of lines
behind_text behind (Some text) lines = behind text.now

-- a token was cut from the text; what is left has the other tokens, and the lines behind them
pub record IsCut (tokens behind : List ℕ
    → List (List ℕ)) (text token : List ℕ) (more lines : Option (Bor (List ℕ))) : Type 0 where
  pub token_first : tokens text ≡ token ∷ of_text tokens more
  pub same_lines : behind text ≡ behind_text behind more lines
