-- What reading a file answers.
use Rattle.std.specs.Prelude.{◌≡◌, ℕ, List, Result, Ok, Err, IfOk, IfErr}
use Rattle.a64_text.specs.declared.entry.Entry.{Entry}
use Rattle.a64_text.specs.declared.file.File.{File}
use Rattle.a64_text.specs.declared.file.FileError.{FileError}
use Rattle.a64_text.specs.declared.file.FileError.TheVariants.{BadLine, OutOfMemory}
use Rattle.a64_text.specs.States.{contents_of, State, start, Chain}
use Rattle.a64_text.specs.FileText.{AreEntries, IsFile, IsFirstBad}
use Rattle.a64_tokens.specs.Splitting.{lines_of}

-- a fact about the line of a bad line
abbrev pub IfBadLine : (ℕ → Type 0) → FileError → Type 0
IfBadLine P (BadLine n) = P n
IfBadLine P OutOfMemory = Unit {0}

-- the answer is a file that says what was said, unless memory ran out
abbrev pub Gives : State → Result File FileError → Type 0
Gives state (Ok file) = contents_of file ≡ state.file
Gives state (Err (BadLine n)) = ⊥
Gives state (Err OutOfMemory) = Unit {0}

-- the answer is that line n is bad, unless memory ran out
abbrev pub GivesBad : ℕ → Result File FileError → Type 0
GivesBad n (Ok file) = ⊥
GivesBad n (Err (BadLine m)) = m ≡ n
GivesBad n (Err OutOfMemory) = Unit {0}

-- what reading answers, in both directions
pub record Answers (bytes : List ℕ) (result : Result File FileError) : Type 0 where
  pub ok : IfOk result (λ file. IsFile bytes file)
  pub bad : IfErr result (IfBadLine (IsFirstBad bytes))
  pub only_ok : (es : List Entry) (state : State) → AreEntries (lines_of bytes) es
      → Chain start es state → Gives state result
  pub only_bad : (n : ℕ) → IsFirstBad bytes n → GivesBad n result
