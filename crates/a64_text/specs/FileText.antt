-- When bytes are a file, and which line is the first that is no entry.
use Rattle.std.specs.Prelude.{◌≡◌, ℕ, ◌+◌, false, not, List, ◌∷◌, ◌++◌, length, map, filter}
use Rattle.std.specs.List.{AllByRecursion}
use Rattle.a64_text.specs.declared.entry.Entry.{Entry}
use Rattle.a64_text.specs.declared.file.File.{File}
use Rattle.a64_text.specs.States.{contents_of, State, start, MayStand, Chain}
use Rattle.a64_tokens.specs.Splitting.{is_blank, lines_of}
use Rattle.a64_text.specs.Tokens.{line_of, IsEntry}

abbrev pub meaningful : List (List ℕ) → List (List ℕ)
meaningful lines = filter (λ line. not (is_blank line)) lines

-- the lines are these entries, and lines that mean nothing
pub record AreEntries (lines : List (List ℕ)) (es : List Entry) : Type 0 where
  pub each : AllByRecursion IsEntry es
  pub texts : map line_of es ≡ meaningful lines

-- the bytes are this file: its lines are entries that may stand there, and it holds what they say
pub record IsFile (bytes : List ℕ) (file : File) : Type 0 where
  pub es : List Entry
  pub state : State
  pub written : AreEntries (lines_of bytes) es
  pub chain : Chain start es state
  pub holds : contents_of file ≡ state.file

-- line n, counted from 1, is the first that is no entry which may stand there
pub record IsFirstBad (bytes : List ℕ) (n : ℕ) : Type 0 where
  pub before : List (List ℕ)
  pub line : List ℕ
  pub after : List (List ℕ)
  pub es : List Entry
  pub state : State
  pub parts : lines_of bytes ≡ before ++ line ∷ after
  pub number : n ≡ length before + 1
  pub good : AreEntries before es
  pub chain : Chain start es state
  pub meant : is_blank line ≡ false
  pub bad : (e : Entry) → IsEntry e → line ≡ line_of e → ¬ MayStand state e
