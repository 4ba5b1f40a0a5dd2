-- What the parts of a run answer.
use Rattle.std.specs.Prelude.{ℕ, codes, ◌≡◌, ◌≢◌, ◌<◌, ◌≤◌, ◌^◌, ◌++◌, List, [], take, drop, length}
use Rattle.std.specs.Prelude.{Option, None, Some, IfSome, Result, IfOk, IfErr, ⊤}
use Rattle.std.specs.Fmt.{decimal}
use Rattle.std.specs.String.{string_bytes}
use Rattle.std.specs.List.{sum_by}
use Rattle.a64_link.specs.declared.error.LinkError.TheVariants as link_errors
use Rattle.a64_link.specs.Units.{word_count}
use Rattle.a64_report.specs.LinkLines.{linked_text}
use Rattle.a64_report.specs.StubLines.{stubs_text}
use Rattle.a64_run.specs.declared.product.Product.{Product}
use Rattle.a64_run.specs.declared.product.Product.TheVariants as products
use Rattle.a64_emit.specs.declared.error.EmitError.TheVariants as errors
use Rattle.a64_run.specs.declared.command.Command.{Command}
use Rattle.a64_run.specs.declared.command.Command.TheVariants.{Gen}
use Rattle.a64_run.specs.declared.command.Format.{Format}
use Rattle.a64_run.specs.declared.input.Input.{Input}
use Rattle.a64_run.specs.declared.input.Input.TheVariants as inputs
use Rattle.a64_text.specs.declared.file.File.{File}
use Rattle.a64_run.specs.declared.ran.Fault.{Fault}
use Rattle.a64_run.specs.declared.ran.Fault.TheVariants as faults
use Rattle.a64_text.specs.States.{contents_of}
use Rattle.a64_run.specs.declared.making.Made.{Made}
use Rattle.a64_run.specs.declared.making.Made.TheVariants.{Report, Summary, Listing, Words, Clean}
use Rattle.a64_run.specs.declared.making.Made.TheVariants.{Linked, Stubs}
use Rattle.a64_report.specs.Report.{report_of, words_in, words_text}
use Rattle.a64_report.specs.Summary.{summary_of}
use Rattle.a64_io.specs.Streams.{HasFailed, Takes, TakesPart}
use Rattle.a64_run.specs.Commands.{limit, works_on, format_of, said_of, IsText, IsAsWritten}
use Rattle.a64_run.specs.Commands.{IsFirstBad, IsCommand, OfAsked, HasRightItems, HasNoItemFault}
use Rattle.a64_run.specs.Commands.{IsFaultOf, assembly_fault, IsMade}
use Rattle.a64_run.specs.Run.{Held, IsDueForText}

-- what is answered for words: Some exactly for the command that they are
pub record ReadsCommand (words : List (List ℕ)) (result : Option Command) : Type 0 where
  pub some : IfSome result (IsCommand words)
  pub only : OfAsked (IsCommand words) (λ command. result ≡ Some command)

-- these bytes were taken from the front of a text, and what follows them is left
pub record HasTaken (text bytes : List ℕ) (left : Option (List ℕ)) : Type 0 where
  pub front : bytes ≡ take (length bytes) text
  pub rest : left ≡ Some (drop (length bytes) text)

-- the first bytes of a text were read, up to one past the limit
pub record HasRead (text bytes : List ℕ) (left : Option (List ℕ)) : Type 0 where
  pub taken : HasTaken text bytes left
  pub ended : length bytes ≤ limit → text ≡ bytes

-- some more bytes, at most `most`, were taken from the front of a source
abbrev pub TakesAtMost : ℕ → Option (List ℕ) → Option (List ℕ) → Type 0
TakesAtMost most left left' =
    IfSome left (λ text. (n : ℕ) × (n ≤ most) × (left' ≡ Some (drop n text)))

-- a read took n bytes and put them behind those before; n is 0 only at the end
pub record TakesBehind (text : List ℕ) (n : ℕ) (before bytes : List ℕ) (left : Option (List ℕ)) :
    Type 0 where
  pub moved : bytes ≡ before ++ take n text
  pub rest : left ≡ Some (drop n text)
  pub ended : n ≡ 0 → text ≡ []

-- all bytes of a source were taken, and they are no more than the limit
pub record IsWhole (left left' : Option (List ℕ)) (bytes : List ℕ) : Type 0 where
  pub same : IfSome left (λ text. text ≡ bytes)
  pub short : length bytes ≤ limit
  pub nothing_left : IfSome left (λ text. left' ≡ Some [])

-- why bytes were not read: a failed read, the last one; or want of memory, and no read failed
abbrev pub IsReadFault : ℕ → ℕ → Fault → Type 0
IsReadFault old new faults.Read = HasFailed old new
IsReadFault old new faults.Memory = new ≡ old
IsReadFault old new _ = ⊥

-- why a source was not read to its end; a failed read is the answer
abbrev pub IsTextFault : ℕ → ℕ → Fault → Type 0
IsTextFault old new faults.Read = HasFailed old new
IsTextFault old new faults.Memory = new ≡ old
IsTextFault old new faults.TooLong = new ≡ old
IsTextFault old new _ = ⊥

-- why no file was read; a failed read is the answer
abbrev pub IsInputFault : ℕ → ℕ → Fault → Type 0
IsInputFault old new faults.Read = HasFailed old new
IsInputFault old new faults.Memory = new ≡ old
IsInputFault old new faults.TooLong = new ≡ old
IsInputFault old new (faults.Line n) = new ≡ old
IsInputFault old new _ = ⊥

-- two say the same
abbrev pub IsLike : Input → Input → Type 0
IsLike one two = said_of one ≡ said_of two

-- a text within the limit has no bad line, and is at most what says what this one says
pub record IsInputOf (format : Format) (text : List ℕ) (input : Input) : Type 0 where
  pub short : length text ≤ limit
  pub good : (n : ℕ) → IsFirstBad format text n → ⊥
  pub same : (other : Input) → format_of other ≡ format → IsText text other → IsLike other input

-- a fault that is due for this text, whatever command reads it
abbrev pub IsTextDue : Format → List ℕ → Fault → Type 0
IsTextDue format text fault =
    (command : Command) → works_on command ≡ format → IsDueForText command text (Some fault)

-- why bytes are nothing on which a command works
abbrev pub IsLineFault : Fault → Type 0
IsLineFault (faults.Line n) = ⊤
IsLineFault faults.Memory = ⊤
IsLineFault _ = ⊥

-- how many items, words, words of units, or addresses there may be
abbrev pub IsFew : Input → Type 0
IsFew (inputs.Items file) = length file.items.items < 2 ^ 32
IsFew (inputs.Words file) = length file.words.items < 2 ^ 29
IsFew (inputs.Listing file) = ⊤
IsFew (inputs.Units file) = sum_by word_count file.units.items < 2 ^ 29
IsFew (inputs.Addresses file) = length file.addresses.items ≤ 100000000

-- what is answered for bytes
pub record IsParsed (format : Format) (bytes : List ℕ) (result : Result Input Fault) : Type 0 where
  pub kind : IfOk result (λ input. format_of input ≡ format)
  pub ok : IfOk result (IsText bytes)
  pub as_written : IfOk result (IsAsWritten bytes)
  pub few : IfOk result IsFew
  pub held : IfErr result (λ fault. Held format (Some bytes) (Some fault))
  pub cause : IfErr result IsLineFault
  pub due_ok : IfOk result (IsInputOf format bytes)
  pub due_err : IfErr result (IsTextDue format bytes)

-- what was read for a command, for an answer that is due
abbrev pub IsDueInput : Command → Option (List ℕ) → Input → Type 0
IsDueInput (Gen count force) left input = ⊤
IsDueInput command left input = IfSome left (λ text. IsInputOf (works_on command) text input)

-- why a file has no report; want of memory is an answer only where each item is right by itself
abbrev pub IsAssemblyFault : Command → File → Fault → Type 0
IsAssemblyFault command file (faults.Assembly error) =
    (assembly_fault command (contents_of file) ≡ Some error) × (error ≢ errors.OutOfMemory)
IsAssemblyFault command file faults.Memory = HasRightItems file
IsAssemblyFault command file _ = ⊥

-- the addresses of a file of stubs
abbrev pub addresses_in : Input → List ℕ
addresses_in (inputs.Addresses file) = file.addresses.items
addresses_in _ = []

-- what is kept of what a command made of an input, and what is written of it
abbrev pub kept_of : Made → Option Product
kept_of (Report code) = Some (products.Code code)
kept_of (Summary items code) = Some (products.Code code)
kept_of (Linked linked) = Some (products.Linked linked)
kept_of (Stubs stubs) = Some (products.Stubs stubs)
kept_of _ = None

abbrev pub text_of : Input → Made → List ℕ
text_of input (Report code) = report_of code
text_of input (Summary items code) = summary_of items code
text_of input (Listing text) = string_bytes text
text_of input (Words bytes) = words_text (words_in bytes.items)
text_of input Clean = codes "clean\n"
text_of input (Linked linked) =
    linked_text linked.starts.items linked.symbols.items linked.thunks.items linked.words.items
text_of input (Stubs stubs) = stubs_text (addresses_in input) stubs.places.items stubs.words.items

-- why a command makes nothing of what it works on; want of memory is an answer only where it finds
-- no fault in one item alone
abbrev pub IsMakingFault : Command → Input → Fault → Type 0
IsMakingFault command input faults.Memory = HasNoItemFault command input
IsMakingFault command input (faults.Assembly error) =
    IsFaultOf command input (faults.Assembly error) × (error ≢ errors.OutOfMemory)
IsMakingFault command input (faults.Audit verdict) = IsFaultOf command input (faults.Audit verdict)
IsMakingFault command input (faults.Link error) =
    IsFaultOf command input (faults.Link error) × (error ≢ link_errors.OutOfMemory)
IsMakingFault command input _ = ⊥

-- how the writing of what was made ends: what the sink has taken, and what is kept of that
abbrev pub EndsWriting : Option (List ℕ) → Option (List ℕ) → Input → Made → Option Fault
    → Option Product → Type 0
EndsWriting taken taken' input made None product =
    Takes taken taken' (text_of input made) × (product ≡ kept_of made)
EndsWriting taken taken' input made (Some faults.Write) product =
    TakesPart taken taken' (text_of input made) × (product ≡ kept_of made)
EndsWriting taken taken' input made (Some faults.Memory) product =
    (taken' ≡ taken) × (product ≡ None)
EndsWriting taken taken' input made (Some _) product = ⊥

module _ (command : Command) (taken taken' : Option (List ℕ)) (input : Input) where
  -- what the command makes was written
  pub record IsWritten (product : Option Product) : Type 0 where
    pub output : List ℕ
    pub made : IsMade command input product output
    pub written : Takes taken taken' output

  -- the same, in part
  pub record IsPartWritten (product : Option Product) : Type 0 where
    pub output : List ℕ
    pub made : IsMade command input product output
    pub written : TakesPart taken taken' output

  -- how a command ends, for what it works on: what the sink has taken, and what is kept of that
  abbrev pub Ends : Option Fault → Option Product → Type 0
  Ends None product = IsWritten product
  Ends (Some faults.Write) product = IsPartWritten product
  Ends (Some fault) product =
      IsMakingFault command input fault × (product ≡ None) × (taken' ≡ taken)

-- a text, a number, a text, and another number
abbrev pub paired_text : List ℕ → ℕ → List ℕ → ℕ → List ℕ
paired_text before number between last = before ++ decimal number ++ between ++ decimal last

-- a text, a number, and a text
abbrev pub numbered_text : List ℕ → ℕ → List ℕ → List ℕ
numbered_text before number after = before ++ decimal number ++ after
