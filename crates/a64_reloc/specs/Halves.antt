-- Texts in two parts, with a space between.
use Rattle.std.specs.Prelude.{ℕ, List, ◌++◌, codes}
use Rattle.std.specs.Borrow.{Bor}
use Rattle.a64_tokens.specs.Fields.{HasNo}

-- the texts of two values, with a space between
abbrev pub pair_text : {A B : Type 0} → (A → List ℕ) → (B → List ℕ) → A × B → List ℕ
pair_text first second pair = first pair.0 ++ (codes " " ++ second pair.1)

-- two values, each of its kind
abbrev pub AreBoth : {A B : Type 0} → (A → Type 0) → (B → Type 0) → A × B → Type 0
AreBoth first second pair = first pair.0 × second pair.1

-- two parts of a text
abbrev pub halves_text : List ℕ × List ℕ → List ℕ
halves_text halves = halves.0 ++ (codes " " ++ halves.1)

-- the space between them is the first
abbrev pub IsPlainFirst : List ℕ × List ℕ → Type 0
IsPlainFirst halves = HasNo 32 halves.0

abbrev pub texts_of : Bor (List ℕ) × Bor (List ℕ) → List ℕ × List ℕ
texts_of halves = (halves.0.now, halves.1.now)
