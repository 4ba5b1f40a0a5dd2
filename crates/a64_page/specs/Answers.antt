-- What is answered of a command over a text.
use Rattle.std.specs.Prelude.{ℕ, ◌≡◌, ◌⊎◌, List, [], ◌∷◌, ◌++◌, Bool, true, false, Some, codes}
use Rattle.std.specs.Prelude.{◌==◌, if◌then◌else◌, drop, length, pos, take}
use Rattle.a64_page.specs.declared.answer.Answer.{Answer}
use Rattle.a64_run.specs.Commands.{IsCommand}
use Rattle.a64_run.specs.Process.{EndsFor}

-- the word of each command, by its number; the empty word of another number is no command
abbrev pub name_of : ℕ → List ℕ
name_of command =
    if command == 0 then codes "asm"
    else if command == 1 then codes "list"
    else if command == 2 then codes "roles"
    else if command == 3 then codes "audit"
    else if command == 4 then codes "dis"
    else if command == 5 then codes "undis"
    else if command == 6 then codes "link"
    else if command == 7 then codes "stubs"
    else []

-- the words of a command
abbrev pub words_of : ℕ → Bool → List (List ℕ)
words_of command false = name_of command ∷ []
words_of command true = name_of command ∷ codes "force" ∷ []

-- what a sink has taken that keeps all, and how many writes to it failed
pub record Taken : Type 0 where
  pub bytes : List ℕ
  pub faults : ℕ

abbrev pub nothing_taken : Taken
nothing_taken = record { bytes = []; faults = 0 }

-- the program ended for these words, with this status: it read a text, of which no read failed,
-- and wrote these bytes to its standard output, and this line to its standard error
pub record IsRun (words : List (List ℕ)) (text output line : List ℕ) (status : ℕ) : Type 0 where
  pub rest : List ℕ
  pub failed : ℕ
  pub line_failed : ℕ
  pub ends : EndsFor Some (λ text. 0) (λ taken. Some taken.bytes) (λ taken. taken.faults)
      (λ taken. Some taken.bytes) (λ taken. taken.faults) text rest nothing_taken
      (record { bytes = output; faults = failed }) nothing_taken
      (record { bytes = line; faults = line_failed }) (IsCommand words) status

-- what is shown of a run: its output where all was done, and else its line
abbrev pub shown_of : ℕ → List ℕ → List ℕ → List ℕ
shown_of status output line = if status == 0 then output else line

-- a buffer with bytes at its front, the first of them where it has no room for all
abbrev pub over : List ℕ → List ℕ → List ℕ
over bytes room = take (length room) bytes ++ drop (length bytes) room

-- what is shown stands in the buffer, and the answer speaks of it
abbrev pub IsPut : ℕ → List ℕ → List ℕ → List ℕ → List ℕ → Answer → Type 0
IsPut status output line room room' answer =
    (room' ≡ over (shown_of status output line) room)
    × (answer ≡ record { status = pos status; length = length (shown_of status output line) })

-- the program ended for the command
pub record IsDone (command : ℕ) (force : Bool) (text room room' : List ℕ) (answer : Answer)
    : Type 0 where
  pub output : List ℕ
  pub line : List ℕ
  pub status : ℕ
  pub ran : IsRun (words_of command force) text output line status
  pub put : IsPut status output line room room' answer

-- there is no memory for the text, and the buffer is as it was
abbrev pub LacksText : List ℕ → List ℕ → Answer → Type 0
LacksText room room' answer = (answer ≡ record { status = pos 5; length = 0 }) × (room' ≡ room)

abbrev pub IsAnswer : ℕ → Bool → List ℕ → List ℕ → List ℕ → Answer → Type 0
IsAnswer command force text room room' answer =
    IsDone command force text room room' answer ⊎ LacksText room room' answer
