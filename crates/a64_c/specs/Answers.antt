-- What a call answers of the code of a text.
use Rattle.std.specs.Prelude.{ℕ, ◌≡◌, ◌⊎◌, ◌<◌, ◌≤◌, ◌++◌, List, Bool, true, false, None, Some}
use Rattle.std.specs.Prelude.{drop, length, pos}
use Rattle.a64_buffer.specs.declared.force.ForceVeneers.{ForceVeneers}
use Rattle.a64_buffer.specs.declared.force.ForceVeneers.TheVariants.{No, Yes}
use Rattle.a64_emit.specs.declared.code.Code.{Code}
use Rattle.a64_emit.specs.declared.error.EmitError.{EmitError}
use Rattle.a64_emit.specs.declared.error.EmitError.TheVariants as errors
use Rattle.a64_emit.specs.Faults.{fault_of, own_fault}
use Rattle.a64_assemble.specs.Assembled.{IsAssembled}
use Rattle.a64_text.specs.declared.file.File.{File}
use Rattle.a64_text.specs.declared.file.FileError.{FileError}
use Rattle.a64_text.specs.declared.file.FileError.TheVariants.{BadLine, OutOfMemory}
use Rattle.a64_text.specs.FileText.{IsFile, IsFirstBad}
use Rattle.a64_c.specs.declared.answer.Answer.{Answer}
use Rattle.a64_c.specs.declared.answer.Refusal.{Refusal}
use Rattle.a64_c.specs.declared.answer.Refusal.TheVariants.{TooLong, Line, Assembly, Unread}

-- the most bytes that a text may have
abbrev pub limit : ℕ
limit = 16777216

abbrev pub force_of : Bool → ForceVeneers
force_of true = Yes
force_of false = No

-- ---- why there is no code

abbrev pub refusal_of_file_error : FileError → Refusal
refusal_of_file_error (BadLine n) = Line n
refusal_of_file_error OutOfMemory = Unread

-- the text is a file, and its first fault is this
pub record IsFault (text : List ℕ) (force : ForceVeneers) (error : EmitError) : Type 0 where
  pub file : File
  pub read : IsFile text file
  pub first : fault_of file.frame file.info file.constants force file.items.items ≡ Some error

-- the text is a file, each item of which is right by itself
pub record HasRightItems (text : List ℕ) : Type 0 where
  pub file : File
  pub read : IsFile text file
  pub right : own_fault file.frame file.info file.constants file.items.items ≡ None

-- why the text is not read; want of memory has no cause in it
abbrev pub IsUnread : List ℕ → Refusal → Type 0
IsUnread text TooLong = limit < length text
IsUnread text (Line n) = (length text ≤ limit) × IsFirstBad text n
IsUnread text Unread = length text ≤ limit
IsUnread text (Assembly error) = ⊥

-- the cause of each refusal; want of memory has none in the text, but it comes to code only where
-- each item is right by itself
abbrev pub IsCause : List ℕ → ForceVeneers → Refusal → Type 0
IsCause text force (Assembly error) =
    (length text ≤ limit)
    × (IsFault text force error ⊎ ((error ≡ errors.OutOfMemory) × HasRightItems text))
IsCause text force refusal = IsUnread text refusal

-- the status and the subject of each refusal
abbrev pub refused : ℕ → ℕ → Answer
refused status subject = record { status = pos status; subject = subject; length = 0 }

abbrev pub answer_of : Refusal → Answer
answer_of TooLong = refused 1 0
answer_of (Line n) = refused 2 n
answer_of (Assembly (errors.BadOperand i)) = refused 3 i
answer_of (Assembly (errors.BadMode i)) = refused 4 i
answer_of (Assembly (errors.ScratchConflict i)) = refused 5 i
answer_of (Assembly (errors.UnknownConstant i)) = refused 6 i
answer_of (Assembly (errors.LabelBoundTwice label)) = refused 7 label.0
answer_of (Assembly (errors.UnboundLabel label)) = refused 8 label.0
answer_of (Assembly errors.TooLarge) = refused 9 0
answer_of (Assembly (errors.OutOfReach label)) = refused 10 label.0
answer_of Unread = refused 11 0
answer_of (Assembly errors.OutOfMemory) = refused 11 1

-- ---- the code

-- the text is a file, and the code is that of its items
pub record IsCodeOf (text : List ℕ) (force : ForceVeneers) (code : Code) : Type 0 where
  pub short : length text ≤ limit
  pub file : File
  pub read : IsFile text file
  pub assembled : IsAssembled file.frame file.info file.constants force file.items.items code

-- an answer that speaks of so many bytes of code
abbrev pub sized : ℕ → ℕ → Answer
sized status bytes = record { status = pos status; subject = 0; length = bytes }

-- the code stands at the front of the buffer
abbrev pub IsPut : List ℕ → List ℕ → List ℕ → Answer → Type 0
IsPut code room room' answer =
    (length code ≤ length room)
    × (answer ≡ sized 0 (length code))
    × (room' ≡ code ++ drop (length code) room)

-- there is no room for the code, and the buffer is as it was
abbrev pub HasNoRoom : List ℕ → List ℕ → List ℕ → Answer → Type 0
HasNoRoom code room room' answer =
    (length room < length code) × (answer ≡ sized 12 (length code)) × (room' ≡ room)

abbrev pub IsCopy : List ℕ → List ℕ → List ℕ → Answer → Type 0
IsCopy code room room' answer = IsPut code room room' answer ⊎ HasNoRoom code room room' answer

-- the text has code, and it is copied
pub record IsDone (text : List ℕ) (force : ForceVeneers) (room room' : List ℕ) (answer : Answer)
    : Type 0 where
  pub code : Code
  pub made : IsCodeOf text force code
  pub copied : IsCopy code.bytes.items room room' answer

-- the text has none, and the buffer is as it was
pub record IsRefused (text : List ℕ) (force : ForceVeneers) (room room' : List ℕ) (answer : Answer)
    : Type 0 where
  pub refusal : Refusal
  pub cause : IsCause text force refusal
  pub told : answer ≡ answer_of refusal
  pub untouched : room' ≡ room

abbrev pub IsAnswer : List ℕ → Bool → List ℕ → List ℕ → Answer → Type 0
IsAnswer text force room room' answer =
    IsDone text (force_of force) room room' answer
    ⊎ IsRefused text (force_of force) room room' answer
