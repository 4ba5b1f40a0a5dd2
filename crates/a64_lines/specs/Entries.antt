-- Files whose lines are entries. Lines that begin with certain words mean nothing.
use Rattle.std.specs.Prelude.{ℕ, ◌≡◌, ◌⊎◌, List, ◌++◌}
use Rattle.std.specs.List.{Contains}

-- the line begins with one of these words
abbrev pub BeginsWith : List ℕ → List (List ℕ) → Type 0
BeginsWith line words =
    (word : List ℕ) × Contains words word × ((rest : List ℕ) × (line ≡ word ++ rest))

-- entries of a kind, with the line of each; which may stand behind what was said before, and what
-- is then said
module _ {E T : Type 0} (fits : E → Type 0) (line_of : E → List ℕ)
    (stands_behind : T → E → Type 0) (said : E → T → T) where
  -- the line is this entry, which may stand there
  pub record SaysEntry (line : List ℕ) (old new : T) : Type 0 where
    pub entry : E
    pub fits_in : fits entry
    pub text : line ≡ line_of entry
    pub stands : stands_behind old entry
    pub is : new ≡ said entry old

  -- what a line says, where those that begin with one of these words say nothing
  abbrev pub SaysBut : List (List ℕ) → List ℕ → T → T → Type 0
  SaysBut passed line old new = (BeginsWith line passed × (new ≡ old)) ⊎ SaysEntry line old new
