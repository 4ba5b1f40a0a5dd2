-- What the commands are: a line for each in each table.
use Rattle.std.specs.Prelude.{All, ℕ, ◌≡◌, ◌≢◌, ◌⊎◌, ◌≤◌, List, [], ◌∷◌, codes, length, Bool, true}
use Rattle.std.specs.Prelude.{false, Option, None, Some, IfSome, IsSomeAnd, ⊤}
use Rattle.std.specs.Fmt.{decimal}
use Rattle.a64_buffer.specs.declared.force.ForceVeneers.{ForceVeneers}
use Rattle.a64_buffer.specs.declared.force.ForceVeneers.TheVariants.{No, Yes}
use Rattle.a64_base.specs.Registers.{integer_register}
use Rattle.a64_plan.specs.declared.step.ConstStep.{ConstStep}
use Rattle.a64_emit.specs.declared.code.Code.{Code}
use Rattle.a64_cells.specs.MemoryForms as emission
use Rattle.a64_run.specs.declared.product.Product.{Product}
use Rattle.a64_run.specs.declared.product.Product.TheVariants as products
use Rattle.a64_link.specs.declared.error.LinkError.{LinkError}
use Rattle.a64_link.specs.declared.unit.Linked.{Linked}
use Rattle.a64_link.specs.declared.unit.Unit.{Unit}
use Rattle.a64_link.specs.Faults as Link
use Rattle.a64_link.specs.Linked.{IsLinked, CallsArrive}
use Rattle.a64_link_file.specs.Entries as LinkFiles
use Rattle.a64_report.specs.LinkLines.{linked_text}
use Rattle.a64_stubs.specs.declared.file.Stubs.{Stubs}
use Rattle.a64_stubs.specs.Files as StubFiles
use Rattle.a64_stubs.specs.Runs.{IsTrampoline}
use Rattle.a64_stubs.specs.Words.{AreStubs, step_form}
use Rattle.a64_report.specs.StubLines.{stubs_text}
use Rattle.a64_emit.specs.declared.error.EmitError.{EmitError}
use Rattle.a64_assemble.specs.Assembled.{IsAssembled}
use Rattle.a64_emit.specs.Faults.{own_fault, fault_of}
use Rattle.a64_emit.specs.ShownFaults.{first_shown_fault}
use Rattle.a64_print.specs.InstTexts.{listing_of}
use Rattle.a64_role_lines.specs.RoleLines.{role_listing_of}
use Rattle.a64_run.specs.declared.command.Command.{Command}
use Rattle.a64_run.specs.declared.command.Command.TheVariants.{Asm, Gen}
use Rattle.a64_run.specs.declared.command.Command.TheVariants as commands
use Rattle.a64_run.specs.declared.command.Format.{Format}
use Rattle.a64_run.specs.declared.command.Format.TheVariants as formats
use Rattle.a64_run.specs.declared.input.Input.{Input}
use Rattle.a64_run.specs.declared.input.Input.TheVariants as inputs
use Rattle.a64_run.specs.declared.ran.Fault.{Fault}
use Rattle.a64_run.specs.declared.ran.Fault.TheVariants as faults
use Rattle.a64_text.specs.declared.file.File.{File}
use Rattle.a64_text.specs.States.{Contents, contents_of}
use Rattle.a64_text.specs.FileText as FileText
use Rattle.a64_audit.specs.declared.verdict.Verdict.TheVariants.{Clean}
use Rattle.a64_audit.specs.Entries as Audit
use Rattle.a64_audit.specs.Verdicts.{IsClean, IsVerdict}
use Rattle.a64_formtext.specs.Shown as Shown
use Rattle.a64_lines.specs.Lines as Lines
use Rattle.a64_report.specs.Report.{report_of, words_text}
use Rattle.a64_report.specs.Summary.{summary_of}
use Rattle.a64_run.specs.Gen.{gen_file}

-- the words behind a command that forces islands, and behind one that does not
abbrev pub force_words : ForceVeneers → List (List ℕ)
force_words No = []
force_words Yes = codes "force" ∷ []

-- how many turns `gen` may make
abbrev pub IsCount : ℕ → Type 0
IsCount count = (1 ≤ count) × (count ≤ 100000)

-- the name of a command that is one word alone
abbrev pub alone_name : Command → Option (List ℕ)
alone_name (Asm force) = None
alone_name (Gen count force) = None
alone_name commands.List = Some (codes "list")
alone_name commands.Roles = Some (codes "roles")
alone_name commands.Audit = Some (codes "audit")
alone_name commands.Dis = Some (codes "dis")
alone_name commands.Undis = Some (codes "undis")
alone_name commands.Link = Some (codes "link")
alone_name commands.Stubs = Some (codes "stubs")

-- the words of the command
abbrev pub IsCommand : List (List ℕ) → Command → Type 0
IsCommand words (Asm force) =
    ((force ≡ No) × (words ≡ [])) ⊎ (words ≡ codes "asm" ∷ force_words force)
IsCommand words (Gen count force) =
    IsCount count × (words ≡ codes "gen" ∷ decimal count ∷ force_words force)
IsCommand words command = IsSomeAnd (alone_name command) (λ name. words ≡ name ∷ [])

-- some words may be the command's
abbrev pub HasWords : Command → Type 0
HasWords (Gen count force) = IsCount count
HasWords command = ⊤

-- a fact about each command that was asked for
abbrev pub OfAsked : (Command → Type 0) → (Command → Type 0) → Type 0
OfAsked asked P = (command : Command) → asked command → P command

-- no command was asked for
abbrev pub IsNoneAsked : (Command → Type 0) → Type 0
IsNoneAsked asked = (command : Command) → ¬ asked command

-- what the command works on
abbrev pub works_on : Command → Format
works_on (Asm force) = formats.Items
works_on (Gen count force) = formats.Items
works_on commands.List = formats.Items
works_on commands.Roles = formats.Items
works_on commands.Audit = formats.Words
works_on commands.Dis = formats.Words
works_on commands.Undis = formats.Listing
works_on commands.Link = formats.Units
works_on commands.Stubs = formats.Addresses

-- the command reads that from the source
abbrev pub reads_source : Command → Bool
reads_source (Gen count force) = false
reads_source command = true

-- whether the command forces islands
abbrev pub force_of : Command → ForceVeneers
force_of (Asm force) = force
force_of (Gen count force) = force
force_of command = No

-- ---- what a command works on

abbrev pub format_of : Input → Format
format_of (inputs.Items file) = formats.Items
format_of (inputs.Words file) = formats.Words
format_of (inputs.Listing file) = formats.Listing
format_of (inputs.Units file) = formats.Units
format_of (inputs.Addresses file) = formats.Addresses

-- what the lines of a file say, in each format; of units, what keeps them from being linked, if
-- anything does
pub data Said : Type 0 where
  SaysItems : Contents → Said
  SaysWords : Audit.Contents → Said
  SaysListing : List ℕ → Said
  SaysUnits : Option LinkError → Said
  SaysAddresses : List ℕ → Said

abbrev pub said_of : Input → Said
said_of (inputs.Items file) = SaysItems (contents_of file)
said_of (inputs.Words file) = SaysWords (Audit.contents_of file)
said_of (inputs.Listing file) = SaysListing (Shown.words_of file)
said_of (inputs.Units file) = SaysUnits (Link.fault_of file.units.items)
said_of (inputs.Addresses file) = SaysAddresses (StubFiles.addresses_of file)

-- the bytes are this
abbrev pub IsText : List ℕ → Input → Type 0
IsText bytes (inputs.Items file) = FileText.IsFile bytes file
IsText bytes (inputs.Words file) = Audit.IsAuditFile bytes file
IsText bytes (inputs.Listing file) = Shown.IsShownFile bytes file
IsText bytes (inputs.Units file) = LinkFiles.IsLinkFile bytes file
IsText bytes (inputs.Addresses file) = StubFiles.IsStubFile bytes file

-- what stands in the bytes of a listing beside lines that mean nothing is what `dis` writes for its
-- words
abbrev pub IsAsWritten : List ℕ → Input → Type 0
IsAsWritten bytes (inputs.Listing file) =
    Shown.IsOneListing (Shown.words_of file) (Shown.meant_lines bytes)
IsAsWritten bytes input = ⊤

-- line n, counted from 1, is the first that is no entry which may stand there
abbrev pub IsFirstBad : Format → List ℕ → ℕ → Type 0
IsFirstBad formats.Items bytes n = FileText.IsFirstBad bytes n
IsFirstBad formats.Words bytes n = Lines.IsFirstBad Audit.says Audit.nothing bytes n
IsFirstBad formats.Listing bytes n = Lines.IsFirstBad Shown.says [] bytes n
IsFirstBad formats.Units bytes n = Lines.IsFirstBad LinkFiles.says LinkFiles.nothing bytes n
IsFirstBad formats.Addresses bytes n = Lines.IsFirstBad StubFiles.says [] bytes n

-- ---- faults

-- the first fault of `assemble` in what a file says
abbrev pub assembly_fault : Command → Contents → Option EmitError
assembly_fault command file =
    fault_of file.frame file.flags file.constants (force_of command) file.items

-- the first fault that the command finds in what a file says; `roles` looks for none
abbrev pub contents_fault : Command → Contents → Option EmitError
contents_fault (Asm force) file = assembly_fault (Asm force) file
contents_fault (Gen count force) file = assembly_fault (Gen count force) file
contents_fault commands.List file =
    first_shown_fault file.frame file.flags file.constants file.items
contents_fault command file = None

abbrev pub file_fault : Command → File → Option EmitError
file_fault command file = contents_fault command (contents_of file)

-- the fault that the command finds first in what the lines of a file say: in items that of the
-- assembler, for `list` that of showing them, and for `roles` none; in words what an audit finds
-- first, in units what keeps them from being linked
abbrev pub FindsFault : Command → Said → Fault → Type 0
FindsFault command (SaysItems file) (faults.Assembly error) =
    contents_fault command file ≡ Some error
FindsFault commands.Audit (SaysWords words) (faults.Audit verdict) =
    IsVerdict words verdict × (verdict ≢ Clean)
FindsFault commands.Link (SaysUnits found) (faults.Link error) = found ≡ Some error
FindsFault command said fault = ⊥

-- it finds none there
abbrev pub FindsNone : Command → Said → Type 0
FindsNone command (SaysItems file) = contents_fault command file ≡ None
FindsNone commands.Audit (SaysWords words) = IsClean words
FindsNone commands.Link (SaysUnits found) = found ≡ None
FindsNone command said = ⊤

-- the same of what the command works on
abbrev pub IsFaultOf : Command → Input → Fault → Type 0
IsFaultOf command input fault = FindsFault command (said_of input) fault

abbrev pub IsFaultless : Command → Input → Type 0
IsFaultless command input = FindsNone command (said_of input)

-- each item of a file is right by itself: none has a fault that stands in it alone
abbrev pub HasRightItems : File → Type 0
HasRightItems file = own_fault file.frame file.info file.constants file.items.items ≡ None

-- the command finds no fault that stands in one item of a file alone, and none in words; of units
-- it may find any
abbrev pub HasNoItemFault : Command → Input → Type 0
HasNoItemFault (Asm force) (inputs.Items file) = HasRightItems file
HasNoItemFault (Gen count force) (inputs.Items file) = HasRightItems file
HasNoItemFault commands.Link (inputs.Units file) = ⊤
HasNoItemFault command input = IsFaultless command input

-- ---- what a command makes

-- the code is that of the file
abbrev pub IsCodeOf : Command → File → Code → Type 0
IsCodeOf command file code =
    IsAssembled file.frame file.info file.constants (force_of command) file.items.items code

-- the most bytes that a source may hold
abbrev pub limit : ℕ
limit = 16777216

-- what a source held is this, and nothing of it is left
pub record WasRead (format : Format) (left left' : Option (List ℕ)) (input : Input) : Type 0 where
  pub kind : format_of input ≡ format
  pub bytes : IfSome left (λ text. IsText text input)
  pub as_written : IfSome left (λ text. IsAsWritten text input)
  pub short : IfSome left (λ text. length text ≤ limit)
  pub nothing_left : IfSome left (λ text. left' ≡ Some [])

-- the file that `gen` makes
abbrev pub IsGenFile : ℕ → Input → Type 0
IsGenFile count (inputs.Items file) = contents_of file ≡ gen_file count
IsGenFile count input = ⊥

-- what the command works on, for what the source had left before and after
abbrev pub IsInput : Command → Option (List ℕ) → Option (List ℕ) → Input → Type 0
IsInput (Gen count force) left left' input = IsGenFile count input
IsInput command left left' input = WasRead (works_on command) left left' input

-- linked code of these units, and its lines. Each call leads to the place of its symbol
pub record AreLinkedTo (units : List Unit) (base : ℕ) (linked : Linked) (output : List ℕ) : Type 0
  where
    pub layout : IsLinked units base linked
    pub calls : CallsArrive units linked
    pub lines : output
        ≡ linked_text linked.starts.items linked.symbols.items linked.thunks.items
        linked.words.items

-- stubs to these addresses, and their lines. Each arrives at its address and changes x16 alone, and
-- no steps of a plan that do are shorter; its steps have the forms that they have in code, which is
-- said here, so that a64_stubs stands on no emission
pub record AreStubsTo (addresses : List ℕ) (stubs : Stubs) (output : List ℕ) : Type 0 where
  pub stand : AreStubs addresses stubs.words.items stubs.places.items
  pub arrive : All IsTrampoline addresses
  pub forms : (step : ConstStep) → step_form step ≡ emission.step_form (integer_register 16) step
  pub lines : output ≡ stubs_text addresses stubs.places.items stubs.words.items

-- what the command makes of it: what is kept of that, if anything, and the bytes that are written
abbrev pub IsOutput : Command → Input → Option Product → List ℕ → Type 0
IsOutput (Asm force) (inputs.Items file) (Some (products.Code c)) output =
    IsCodeOf (Asm force) file c × (output ≡ report_of c)
IsOutput (Gen count force) (inputs.Items file) (Some (products.Code c)) output =
    IsCodeOf (Gen count force) file c × (output ≡ summary_of (length file.items.items) c)
IsOutput commands.List (inputs.Items file) None output =
    output ≡ listing_of file.frame file.items.items
IsOutput commands.Roles (inputs.Items file) None output = output ≡ role_listing_of file.items.items
IsOutput commands.Audit (inputs.Words file) None output = output ≡ codes "clean\n"
IsOutput commands.Dis (inputs.Words file) None output = Shown.IsListing file.words.items output
IsOutput commands.Undis (inputs.Listing file) None output = output ≡ words_text file.words.items
IsOutput commands.Link (inputs.Units file) (Some (products.Linked linked)) output =
    AreLinkedTo file.units.items file.base linked output
IsOutput commands.Stubs (inputs.Addresses file) (Some (products.Stubs stubs)) output =
    AreStubsTo file.addresses.items stubs output
IsOutput command input product output = ⊥

-- the same, where the command finds no fault
pub record IsMade (command : Command) (input : Input) (product : Option Product)
    (output : List ℕ) : Type 0 where
  pub no_fault : IsFaultless command input
  pub output_is : IsOutput command input product output
