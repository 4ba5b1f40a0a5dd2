-- What a run of the program answers.
use Rattle.std.specs.Prelude.{ℕ, ◌≡◌, ◌≢◌, ◌⊎◌, ◌<◌, ◌≤◌, ◌++◌, List, codes, drop, length, Option}
use Rattle.std.specs.Prelude.{None, Some, IfSome, IsSomeAnd, ⊤}
use Rattle.std.specs.Fmt.{decimal}
use Rattle.a64_emit.specs.declared.code.Code.{Code}
use Rattle.a64_emit.specs.declared.error.EmitError.TheVariants as errors
use Rattle.a64_emit.specs.ErrorTexts.{error_text}
use Rattle.a64_run.specs.declared.command.Command.{Command}
use Rattle.a64_run.specs.declared.command.Command.TheVariants.{Gen}
use Rattle.a64_run.specs.declared.command.Format.{Format}
use Rattle.a64_run.specs.declared.input.Input.{Input}
use Rattle.a64_run.specs.declared.input.Input.TheVariants as inputs
use Rattle.a64_run.specs.declared.ran.Ran.{Ran}
use Rattle.a64_run.specs.declared.product.Product.{Product}
use Rattle.a64_run.specs.declared.product.Product.TheVariants as products
use Rattle.a64_link.specs.declared.error.LinkError.TheVariants as link_errors
use Rattle.a64_link.specs.declared.unit.Linked.{Linked}
use Rattle.a64_link.specs.ErrorTexts as LinkTexts
use Rattle.a64_link_file.specs.declared.file.LinkFile.{LinkFile}
use Rattle.a64_stubs.specs.declared.file.StubFile.{StubFile}
use Rattle.a64_stubs.specs.declared.file.Stubs.{Stubs}
use Rattle.a64_text.specs.declared.file.File.{File}
use Rattle.a64_audit.specs.declared.file.AuditFile.{AuditFile}
use Rattle.a64_audit.specs.declared.verdict.Verdict.{Verdict}
use Rattle.a64_audit.specs.declared.verdict.Verdict.TheVariants as verdicts
use Rattle.a64_formtext.specs.declared.file.ShownFile.{ShownFile}
use Rattle.a64_run.specs.declared.ran.Fault.{Fault}
use Rattle.a64_run.specs.declared.ran.Fault.TheVariants as faults
use Rattle.a64_run.specs.Commands.{limit, works_on, format_of, IsText, IsFirstBad, HasNoItemFault}
use Rattle.a64_run.specs.Commands.{IsFaultOf, IsFaultless, IsInput, IsMade}
use Rattle.a64_io.specs.Streams.{Takes, TakesPart}

-- the status of each answer
abbrev pub status_of : Option Fault → ℕ
status_of None = 0
status_of (Some faults.TooLong) = 1
status_of (Some (faults.Line n)) = 1
status_of (Some (faults.Assembly error)) = 1
status_of (Some (faults.Audit verdict)) = 1
status_of (Some (faults.Link error)) = 1
status_of (Some faults.Usage) = 2
status_of (Some faults.Read) = 3
status_of (Some faults.Write) = 4
status_of (Some faults.Memory) = 5

-- the line of each verdict, without its line feed
abbrev pub verdict_text : Verdict → List ℕ
verdict_text verdicts.Clean = codes "clean"
verdict_text (verdicts.BadRange i) = codes "range " ++ decimal i ++ codes ": bad"
verdict_text (verdicts.UnknownWord place) =
    codes "place " ++ decimal place ++ codes ": unknown word"
verdict_text (verdicts.OutOfCode place) =
    codes "place " ++ decimal place ++ codes ": branch out of code"
verdict_text (verdicts.IntoData place) =
    codes "place " ++ decimal place ++ codes ": branch into data"

-- the line of each answer, without its line feed
abbrev pub fault_text : Fault → List ℕ
fault_text faults.Usage = codes "usage error"
fault_text faults.Read = codes "read fault"
fault_text faults.TooLong = codes "input too large"
fault_text (faults.Line n) = codes "line " ++ decimal n ++ codes ": not an entry"
fault_text (faults.Assembly error) = error_text error
fault_text (faults.Audit verdict) = verdict_text verdict
fault_text (faults.Link error) = LinkTexts.error_text error
fault_text faults.Write = codes "write fault"
fault_text faults.Memory = codes "out of memory"

abbrev pub fault_line : Fault → List ℕ
fault_line fault = fault_text fault ++ codes "\n"

-- the fault is the one that is due, or a read or memory failed
abbrev pub IsDue : Option Fault → Option Fault → Type 0
IsDue due fault = (fault ≡ due) ⊎ ((fault ≡ Some faults.Read) ⊎ (fault ≡ Some faults.Memory))

-- what the source held, at each answer that speaks of it
abbrev pub Held : Format → Option (List ℕ) → Option Fault → Type 0
Held format left (Some faults.TooLong) = IfSome left (λ text. limit < length text)
Held format left (Some (faults.Line n)) =
    IfSome left (λ text. (length text ≤ limit) × IsFirstBad format text n)
Held format left _ = ⊤

-- a stream's count of failures stays as it was, unless this is the answer: no call that failed is
-- passed over, as by one more try
abbrev pub FailsOnlyAt : Fault → Option Fault → ℕ → ℕ → Type 0
FailsOnlyAt answer fault old new = (new ≡ old) ⊎ (fault ≡ Some answer)

-- no more than one byte past the limit was taken from the source
abbrev pub TakesFew : Option (List ℕ) → Option (List ℕ) → Type 0
TakesFew left left' = IfSome left (λ text. (n : ℕ) × (n ≤ 16777217) × (left' ≡ Some (drop n text)))

-- the sink has taken nothing, unless the answer is that all was written, or that a write failed
abbrev pub Untouched : Option (List ℕ) → Option (List ℕ) → Option Fault → Type 0
Untouched taken taken' None = ⊤
Untouched taken taken' (Some faults.Write) = ⊤
Untouched taken taken' (Some _) = taken' ≡ taken

module _ (command : Command) (left left' : Option (List ℕ)) (taken taken' : Option (List ℕ)) where
  -- the headline: what the command works on is right, and what it makes of it was written. For
  -- `asm`, what was read is a file of items, and the report was written of code in which the words
  -- of each item stand at its place, in order, with only islands between them that no item runs
  -- into and one pool behind them, and each use of a label or constant leads to it. For `list`, it
  -- was the listing of such a file, of which each item may be shown; for `roles`, the lines of the
  -- roles of any such file. For `audit` it was the one word `clean`, of words that are; for `dis`
  -- the texts of words, and for `undis` the words that have such texts. For `link` it was the code
  -- of units, in which each call leads to the place of its symbol, and for `stubs` words that
  -- arrive at addresses and change x16 alone
  pub record IsDone (input : Input) (product : Option Product) : Type 0 where
    pub is_input : IsInput command left left' input
    pub output : List ℕ
    pub made : IsMade command input product output
    pub written : Takes taken taken' output

  -- the same, where a write failed: a proper prefix was written
  pub record IsCutOff (input : Input) (product : Option Product) : Type 0 where
    pub is_input : IsInput command left left' input
    pub output : List ℕ
    pub made : IsMade command input product output
    pub written : TakesPart taken taken' output

  -- what the command works on is refused, for the fault that it finds first; want of memory is an
  -- answer of its own
  pub record IsRefused (fault : Fault) (input : Input) : Type 0 where
    pub is_input : IsInput command left left' input
    pub is_fault : IsFaultOf command input fault
    pub no_memory : (fault ≢ faults.Assembly errors.OutOfMemory)
        × (fault ≢ faults.Link link_errors.OutOfMemory)

  -- there was no memory for it, though the command finds no fault in an item of it alone
  pub record IsUndone (input : Input) : Type 0 where
    pub is_input : IsInput command left left' input
    pub right : HasNoItemFault command input

  -- what is kept at each answer: what the command works on, and what it made
  abbrev pub Keeps : Option Fault → Option Input → Option Product → Type 0
  Keeps None input product = IsSomeAnd input (λ i. IsDone i product)
  Keeps (Some faults.Write) input product = IsSomeAnd input (λ i. IsCutOff i product)
  Keeps (Some (faults.Assembly error)) input product =
      IsSomeAnd input (IsRefused (faults.Assembly error)) × (product ≡ None)
  Keeps (Some (faults.Audit verdict)) input product =
      IsSomeAnd input (IsRefused (faults.Audit verdict)) × (product ≡ None)
  Keeps (Some (faults.Link error)) input product =
      IsSomeAnd input (IsRefused (faults.Link error)) × (product ≡ None)
  Keeps (Some faults.Memory) input product = IfSome input IsUndone × (product ≡ None)
  Keeps (Some _) input product = (input ≡ None) × (product ≡ None)

-- the fields in which that is kept
pub record Kept : Type 0 where
  pub file : Option File
  pub audit : Option AuditFile
  pub shown : Option ShownFile
  pub link_file : Option LinkFile
  pub stub_file : Option StubFile
  pub code : Option Code
  pub linked : Option Linked
  pub stubs : Option Stubs

-- none of them
abbrev pub nothing_kept : Kept
nothing_kept = record {
  file = None;
  audit = None;
  shown = None;
  link_file = None;
  stub_file = None;
  code = None;
  linked = None;
  stubs = None;
}

abbrev pub with_input : Option Input → Kept → Kept
with_input None kept = kept
with_input (Some (inputs.Items file)) kept = record kept { file = Some file }
with_input (Some (inputs.Words file)) kept = record kept { audit = Some file }
with_input (Some (inputs.Listing file)) kept = record kept { shown = Some file }
with_input (Some (inputs.Units file)) kept = record kept { link_file = Some file }
with_input (Some (inputs.Addresses file)) kept = record kept { stub_file = Some file }

abbrev pub with_product : Option Product → Kept → Kept
with_product None kept = kept
with_product (Some (products.Code code)) kept = record kept { code = Some code }
with_product (Some (products.Linked linked)) kept = record kept { linked = Some linked }
with_product (Some (products.Stubs stubs)) kept = record kept { stubs = Some stubs }

abbrev pub kept_for : Option Input → Option Product → Kept
kept_for input product = with_input input (with_product product nothing_kept)

-- what a run keeps
abbrev pub kept_in : Ran → Kept
kept_in ran = record {
  file = ran.file;
  audit = ran.audit;
  shown = ran.shown;
  link_file = ran.link_file;
  stub_file = ran.stub_file;
  code = ran.code;
  linked = ran.linked;
  stubs = ran.stubs;
}

abbrev pub KeepsAll : Command → Option (List ℕ) → Option (List ℕ) → Option (List ℕ)
    → Option (List ℕ) → Kept → Option Fault → Type 0
KeepsAll command left left' taken taken' kept fault =
    (input : Option Input) × (product : Option Product) × (kept ≡ kept_for input product)
    × Keeps command left left' taken taken' fault input product

-- which answer is due for a source that tells this text, where the command reads it
pub record IsDueForText (command : Command) (text : List ℕ) (fault : Option Fault) : Type 0 where
  pub too_long : limit < length text → IsDue (Some faults.TooLong) fault
  pub bad_line : (n : ℕ) → length text ≤ limit → IsFirstBad (works_on command) text n
      → IsDue (Some (faults.Line n)) fault
  pub refused : (input : Input) (first : Fault) → length text ≤ limit
      → format_of input ≡ works_on command → IsText text input → IsFaultOf command input first
      → IsDue (Some first) fault
  pub done : (input : Input) → length text ≤ limit → format_of input ≡ works_on command
      → IsText text input → IsFaultless command input
      → IsDue None fault ⊎ (fault ≡ Some faults.Write)

-- nothing but a failed write or want of memory keeps a command from being done that reads nothing
-- and has a file without a fault
abbrev pub IsDueAlways : Option Fault → Type 0
IsDueAlways fault = (fault ≡ None) ⊎ ((fault ≡ Some faults.Write) ⊎ (fault ≡ Some faults.Memory))

-- which answer is due, for what the source tells
abbrev pub IsDueAnswer : Command → Option (List ℕ) → Option Fault → Type 0
IsDueAnswer (Gen count force) left fault = IsDueAlways fault
IsDueAnswer command left fault = IfSome left (λ text. IsDueForText command text fault)
