-- What is answered of the listing of a text.
use Rattle.std.specs.Prelude.{ℕ, ◌≡◌, ◌⊎◌, ◌≤◌, List, Option, None, Some, length}
use Rattle.a64_emit.specs.declared.error.EmitError.{EmitError}
use Rattle.a64_emit.specs.declared.error.EmitError.TheVariants.{OutOfMemory}
use Rattle.a64_emit.specs.ShownFaults.{first_shown_fault}
use Rattle.a64_print.specs.InstTexts.{listing_of}
use Rattle.a64_text.specs.declared.file.File.{File}
use Rattle.a64_text.specs.FileText.{IsFile}
use Rattle.a64_c.specs.declared.answer.Answer.{Answer}
use Rattle.a64_c.specs.declared.answer.Refusal.{Refusal}
use Rattle.a64_c.specs.declared.answer.Refusal.TheVariants.{Assembly}
use Rattle.a64_c.specs.Answers.{IsCopy, IsUnread, answer_of, limit}

-- the fault of the first item of a file that cannot be shown
abbrev pub shown_fault_of : File → Option EmitError
shown_fault_of file = first_shown_fault file.frame file.info file.constants file.items.items

-- the text is a file, the first fault of whose items, as they are shown, is this
pub record HasShownFault (text : List ℕ) (fault : Option EmitError) : Type 0 where
  pub short : length text ≤ limit
  pub file : File
  pub read : IsFile text file
  pub first : shown_fault_of file ≡ fault

-- the cause of each refusal; want of memory has none in the text
abbrev pub IsListCause : List ℕ → Refusal → Type 0
IsListCause text (Assembly error) =
    HasShownFault text (Some error) ⊎ ((error ≡ OutOfMemory) × HasShownFault text None)
IsListCause text refusal = IsUnread text refusal

-- the text is a file, each item of which can be shown, and these are their lines
pub record IsListOf (text lines : List ℕ) : Type 0 where
  pub short : length text ≤ limit
  pub file : File
  pub read : IsFile text file
  pub faultless : shown_fault_of file ≡ None
  pub listed : lines ≡ listing_of file.frame file.items.items

-- the lines are copied
pub record IsListCopied (text room room' : List ℕ) (answer : Answer) : Type 0 where
  pub lines : List ℕ
  pub made : IsListOf text lines
  pub copied : IsCopy lines room room' answer

-- there are none, and the buffer is as it was
pub record IsListRefused (text room room' : List ℕ) (answer : Answer) : Type 0 where
  pub refusal : Refusal
  pub cause : IsListCause text refusal
  pub told : answer ≡ answer_of refusal
  pub untouched : room' ≡ room

abbrev pub IsListed : List ℕ → List ℕ → List ℕ → Answer → Type 0
IsListed text room room' answer =
    IsListCopied text room room' answer ⊎ IsListRefused text room room' answer
