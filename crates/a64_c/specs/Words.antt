-- What is answered of one word, and of a line.
use Rattle.std.specs.Prelude.{ℕ, ◌≡◌, ◌⊎◌, List, pos}
use Rattle.a64_formtext.specs.Shown.{IsShown}
use Rattle.a64_tokens.specs.Reads.{IsU32}
use Rattle.a64_c.specs.declared.answer.Answer.{Answer}
use Rattle.a64_c.specs.declared.word.ReadWord.{ReadWord}
use Rattle.a64_c.specs.Answers.{IsCopy, refused}

-- the word is shown as a line, which is copied
pub record IsShownIn (word : ℕ) (room room' : List ℕ) (answer : Answer) : Type 0 where
  pub line : List ℕ
  pub shown : IsShown word line
  pub copied : IsCopy line room room' answer

-- memory is missing, and the buffer is as it was
abbrev pub WantsMemory : List ℕ → List ℕ → Answer → Type 0
WantsMemory room room' answer = (answer ≡ refused 11 0) × (room' ≡ room)

abbrev pub IsShownWord : ℕ → List ℕ → List ℕ → Answer → Type 0
IsShownWord word room room' answer =
    IsShownIn word room room' answer ⊎ WantsMemory room room' answer

abbrev pub read_word : ℕ → ℕ → ReadWord
read_word status word = record { status = pos status; word = word }

-- the line is that of a word
abbrev pub IsLineOf : List ℕ → ReadWord → Type 0
IsLineOf line read = (word : ℕ) × IsShown word line × (read ≡ read_word 0 word)

-- no word has this line
abbrev pub IsNoLine : List ℕ → ReadWord → Type 0
IsNoLine line read =
    ((word : ℕ) → IsU32 word → IsShown word line → ⊥) × (read ≡ read_word 2 0)

abbrev pub IsReadWord : List ℕ → ReadWord → Type 0
IsReadWord line read = IsLineOf line read ⊎ IsNoLine line read
