-- Files whose lines say something, one after another.
use Rattle.std.specs.Prelude.{ℕ, ◌≡◌, ◌+◌, ◌⊎◌, Bool, true, false, List, [], ◌∷◌, ◌++◌, length}
use Rattle.std.specs.Prelude.{Result, Ok, Err, IfOk, IfErr, ⊤}
use Rattle.a64_lines.specs.declared.error.LinesError.{LinesError}
use Rattle.a64_lines.specs.declared.error.LinesError.TheVariants.{BadLine, OutOfMemory}
use Rattle.a64_tokens.specs.Splitting.{is_blank, lines_of}

module _ {T : Type 0} (says : List ℕ → T → T → Type 0) where
  -- a line leads from what was said before it to what is said behind it: one that means nothing
  -- leaves it as it was
  abbrev pub Leads : List ℕ → T → T → Type 0
  Leads line old new =
      ((is_blank line ≡ true) × (new ≡ old)) ⊎ ((is_blank line ≡ false) × says line old new)

  -- lines lead there one after another
  abbrev pub LeadAll : List (List ℕ) → T → T → Type 0
  LeadAll [] old new = new ≡ old
  LeadAll (line ∷ lines) old new = (mid : T) × Leads line old mid × LeadAll lines mid new

  -- the bytes are a file that says this, where `start` was said before it
  abbrev pub IsFile : T → List ℕ → T → Type 0
  IsFile start bytes told = LeadAll (lines_of bytes) start told

  -- line n, counted from 1, is the first that is no entry which may stand there
  pub record IsFirstBad (start : T) (bytes : List ℕ) (n : ℕ) : Type 0 where
    pub before : List (List ℕ)
    pub line : List ℕ
    pub after : List (List ℕ)
    pub told : T
    pub parts : lines_of bytes ≡ before ++ line ∷ after
    pub number : n ≡ length before + 1
    pub good : LeadAll before start told
    pub meant : is_blank line ≡ false
    pub bad : (new : T) → says line told new → ⊥

  -- true: the line says this, and nothing else. False: it says nothing
  abbrev pub Takes : List ℕ → T → T → Bool → Type 0
  Takes line old new true = says line old new × ((other : T) → says line old other → other ≡ new)
  Takes line old new false = (other : T) → says line old other → ⊥

  -- the same of any line: one that means nothing is taken, and says nothing
  abbrev pub TakesAny : List ℕ → T → T → Bool → Type 0
  TakesAny line old new true =
      Leads line old new × ((other : T) → Leads line old other → other ≡ new)
  TakesAny line old new false = (is_blank line ≡ false) × ((other : T) → says line old other → ⊥)

  -- the answer is a file that says this, unless memory ran out
  abbrev pub Gives : T → Result T LinesError → Type 0
  Gives told (Ok answer) = answer ≡ told
  Gives told (Err (BadLine n)) = ⊥
  Gives told (Err OutOfMemory) = ⊤

  -- the answer is that line n is bad, unless memory ran out
  abbrev pub GivesBad : ℕ → Result T LinesError → Type 0
  GivesBad n (Ok answer) = ⊥
  GivesBad n (Err (BadLine m)) = m ≡ n
  GivesBad n (Err OutOfMemory) = ⊤

-- a fact about the number of a bad line
abbrev pub IfBadLine : (ℕ → Type 0) → LinesError → Type 0
IfBadLine P (BadLine n) = P n
IfBadLine P OutOfMemory = ⊤

-- what reading answers, in both directions
pub record Answers {T : Type 0} (says : List ℕ → T → T
    → Type 0) (bytes : List ℕ) (start : T) (result : Result T LinesError) : Type 0 where
  pub ok : IfOk result (IsFile says start bytes)
  pub bad : IfErr result (IfBadLine (IsFirstBad says start bytes))
  pub only_ok : (told : T) → IsFile says start bytes told → Gives says told result
  pub only_bad : (n : ℕ) → IsFirstBad says start bytes n → GivesBad says n result

-- an answer, by what it tells where it is Ok
abbrev pub told_by : {T X : Type 0} → (X → T) → Result X LinesError → Result T LinesError
told_by told (Ok x) = Ok (told x)
told_by told (Err error) = Err error
