-- What is answered for bytes, from what reading them answers.
use Rattle.std.proofs.Common.{◌≡◌, ℕ, ◌+◌, ◌<◌, ◌≤◌, ◌^◌, List, [], length, refl, sym, ap, ◌∙◌, subst, inl, inr, arith, Option, None, Some, IfSome, Result, Ok, Err, IfOk, IfErr}
use Rattle.a64_audit.specs.declared.file.AuditFile.{AuditFile}
use Rattle.a64_audit.specs.Entries as Audit
use Rattle.a64_formtext.specs.declared.file.ShownFile.{ShownFile}
use Rattle.a64_formtext.specs.Shown as Shown
use Rattle.std.specs.List.{sum_by}
use Rattle.a64_link.specs.Units.{word_count}
use Rattle.a64_link_file.specs.declared.file.LinkFile.{LinkFile}
use Rattle.a64_link_file.specs.Entries as LinkFiles
use Rattle.a64_link_file.proofs.Likeness.{like_fault}
use Rattle.a64_stubs.specs.declared.file.StubFile.{StubFile}
use Rattle.a64_stubs.specs.Files as Stubs
use Rattle.a64_lines.specs.declared.error.LinesError.TheVariants as line_errors
use Rattle.a64_lines.specs.Lines as Lines
use Rattle.a64_text.specs.declared.file.File.{File}
use Rattle.a64_text.specs.declared.file.FileError.TheVariants.{BadLine}
use Rattle.a64_text.specs.Reading.{Answers}
use Rattle.a64_run.specs.declared.command.Command.{Command}
use Rattle.a64_run.specs.declared.command.Command.TheVariants.{Asm, Gen}
use Rattle.a64_run.specs.declared.command.Command.TheVariants as commands
use Rattle.a64_run.specs.declared.command.Format.{Format}
use Rattle.a64_run.specs.declared.command.Format.TheVariants as formats
use Rattle.a64_run.specs.declared.input.Input.{Input}
use Rattle.a64_run.specs.declared.input.Input.TheVariants as inputs
use Rattle.a64_run.specs.declared.ran.Fault.{Fault}
use Rattle.a64_run.specs.declared.ran.Fault.TheVariants as faults
use Rattle.a64_buffer.specs.declared.force.ForceVeneers.{ForceVeneers}
use Rattle.a64_run.specs.Commands.{limit, works_on, format_of, said_of, Said, SaysItems, SaysWords, SaysListing, SaysUnits, SaysAddresses, IsText, IsAsWritten, IsFirstBad, IsInput, WasRead}
use Rattle.a64_run.specs.Run.{Held, FailsOnlyAt, IsDueAnswer}
use Rattle.a64_run.specs.Stages.{IsWhole, IsFew, IsInputOf, IsDueInput, IsTextDue, IsParsed, IsTextFault, IsInputFault}

-- ---- bytes in a format

-- bytes with a bad line
bad_line : (format : Format) (bytes : List ℕ) (n : ℕ) → length bytes ≤ limit → IsFirstBad format bytes n → ((m : ℕ) → IsFirstBad format bytes m → n ≡ m)
    → ((other : Input) → format_of other ≡ format → IsText bytes other → ⊥) → IsParsed format bytes (Err (faults.Line n))
bad_line format bytes n l bad one never = record {
  kind = tt;
  ok = tt;
  as_written = tt;
  few = tt;
  held = (l, bad);
  cause = tt;
  due_ok = tt;
  due_err = λ command works. record {
    too_long = λ h. absurd (omega arith);
    bad_line = λ m h other. inl (ap (λ k. Some (faults.Line k)) (one m (subst (λ (f : Format). IsFirstBad f bytes m) works other)));
    refused = λ input first h kind is f. absurd (never input (kind ∙ works) is);
    done = λ input h kind is f. absurd (never input (kind ∙ works) is);
  };
}

-- what a file in a format is: its lines say something, and what is read of them is that
record Parses (format : Format) (bytes : List ℕ) (told : Said) : Type 0 where
  good : (n : ℕ) → IsFirstBad format bytes n → ⊥
  same : (other : Input) → format_of other ≡ format → IsText bytes other → said_of other ≡ told

parsed : (format : Format) (bytes : List ℕ) (input : Input) → length bytes ≤ limit → format_of input ≡ format → IsText bytes input → IsAsWritten bytes input → IsFew input → Parses format bytes (said_of input)
    → IsParsed format bytes (Ok input)
parsed format bytes input l kind is written few p = record {
  kind = kind;
  ok = is;
  as_written = written;
  few = few;
  held = tt;
  cause = tt;
  due_ok = record { short = l; good = p.good; same = p.same };
  due_err = tt;
}

-- what holds of each value of a format holds of what has that format
at_items : (P : Input → Type 0) → ((file : File) → P (inputs.Items file)) → (other : Input) → format_of other ≡ formats.Items → P other
at_items P p (inputs.Items file) kind = p file
at_items P p (inputs.Words file) kind = absurd cc
at_items P p (inputs.Listing file) kind = absurd cc
at_items P p (inputs.Units file) kind = absurd cc
at_items P p (inputs.Addresses file) kind = absurd cc

at_words : (P : Input → Type 0) → ((file : AuditFile) → P (inputs.Words file)) → (other : Input) → format_of other ≡ formats.Words → P other
at_words P p (inputs.Words file) kind = p file
at_words P p (inputs.Items file) kind = absurd cc
at_words P p (inputs.Listing file) kind = absurd cc
at_words P p (inputs.Units file) kind = absurd cc
at_words P p (inputs.Addresses file) kind = absurd cc

at_listing : (P : Input → Type 0) → ((file : ShownFile) → P (inputs.Listing file)) → (other : Input) → format_of other ≡ formats.Listing → P other
at_listing P p (inputs.Listing file) kind = p file
at_listing P p (inputs.Items file) kind = absurd cc
at_listing P p (inputs.Words file) kind = absurd cc
at_listing P p (inputs.Units file) kind = absurd cc
at_listing P p (inputs.Addresses file) kind = absurd cc

at_units : (P : Input → Type 0) → ((file : LinkFile) → P (inputs.Units file)) → (other : Input) → format_of other ≡ formats.Units → P other
at_units P p (inputs.Units file) kind = p file
at_units P p (inputs.Items file) kind = absurd cc
at_units P p (inputs.Words file) kind = absurd cc
at_units P p (inputs.Listing file) kind = absurd cc
at_units P p (inputs.Addresses file) kind = absurd cc

at_addresses : (P : Input → Type 0) → ((file : StubFile) → P (inputs.Addresses file)) → (other : Input) → format_of other ≡ formats.Addresses → P other
at_addresses P p (inputs.Addresses file) kind = p file
at_addresses P p (inputs.Items file) kind = absurd cc
at_addresses P p (inputs.Words file) kind = absurd cc
at_addresses P p (inputs.Listing file) kind = absurd cc
at_addresses P p (inputs.Units file) kind = absurd cc

-- ---- items

pub parsed_items : (bytes : List ℕ) (file : File) → length bytes ≤ limit → Answers bytes (Ok file) → length file.items.items ≤ length bytes + 1 → IsParsed formats.Items bytes (Ok (inputs.Items file))
parsed_items bytes file l a few =
    parsed formats.Items bytes (inputs.Items file) l refl a.ok tt (omega arith) (record {
      good = λ n bad. a.only_bad n bad;
      same = at_items (λ other. IsText bytes other → said_of other ≡ said_of (inputs.Items file)) (λ other f. ap SaysItems (f.holds ∙ sym (a.only_ok f.es f.state f.written f.chain)));
    })

pub bad_items : (bytes : List ℕ) (n : ℕ) → length bytes ≤ limit → Answers bytes (Err (BadLine n)) → IsParsed formats.Items bytes (Err (faults.Line n))
bad_items bytes n l a =
    bad_line formats.Items bytes n l a.bad (λ m bad. a.only_bad m bad) (at_items (λ other. IsText bytes other → ⊥) (λ other f. a.only_ok f.es f.state f.written f.chain))

-- ---- what is read line by line

pub parsed_words : (bytes : List ℕ) (file : AuditFile) → length bytes ≤ limit → Lines.Answers Audit.says bytes Audit.nothing (Ok (Audit.contents_of file)) → length file.words.items ≤ length bytes → IsParsed formats.Words bytes (Ok (inputs.Words file))
parsed_words bytes file l a few =
    parsed formats.Words bytes (inputs.Words file) l refl a.ok tt (omega arith) (record {
      good = λ n bad. a.only_bad n bad;
      same = at_words (λ other. IsText bytes other → said_of other ≡ said_of (inputs.Words file)) (λ other f. ap SaysWords (sym (a.only_ok (Audit.contents_of other) f)));
    })

pub bad_words : (bytes : List ℕ) (n : ℕ) → length bytes ≤ limit → Lines.Answers Audit.says bytes Audit.nothing (Err (line_errors.BadLine n)) → IsParsed formats.Words bytes (Err (faults.Line n))
bad_words bytes n l a =
    bad_line formats.Words bytes n l a.bad (λ m bad. a.only_bad m bad) (at_words (λ other. IsText bytes other → ⊥) (λ other f. a.only_ok (Audit.contents_of other) f))

pub parsed_listing : (bytes : List ℕ) (file : ShownFile) → length bytes ≤ limit → Lines.Answers Shown.says bytes [] (Ok (Shown.words_of file)) → Shown.IsShownFile bytes file → Shown.IsOneListing (Shown.words_of file) (Shown.meant_lines bytes) → IsParsed formats.Listing bytes (Ok (inputs.Listing file))
parsed_listing bytes file l a is written =
    parsed formats.Listing bytes (inputs.Listing file) l refl is written tt (record {
      good = λ n bad. a.only_bad n bad;
      same = at_listing (λ other. IsText bytes other → said_of other ≡ said_of (inputs.Listing file)) (λ other f. ap SaysListing (sym (a.only_ok (Shown.words_of other) f.lines)));
    })

pub bad_listing : (bytes : List ℕ) (n : ℕ) → length bytes ≤ limit → Lines.Answers Shown.says bytes [] (Err (line_errors.BadLine n)) → IsParsed formats.Listing bytes (Err (faults.Line n))
bad_listing bytes n l a =
    bad_line formats.Listing bytes n l a.bad (λ m bad. a.only_bad m bad) (at_listing (λ other. IsText bytes other → ⊥) (λ other f. a.only_ok (Shown.words_of other) f.lines))

pub parsed_units : (bytes : List ℕ) (file : LinkFile) → length bytes ≤ limit → LinkFiles.AnswersFile bytes (Ok file) → sum_by word_count file.units.items < 2 ^ 29 → IsParsed formats.Units bytes (Ok (inputs.Units file))
parsed_units bytes file l a few =
    parsed formats.Units bytes (inputs.Units file) l refl (a.state, a.answers.ok, a.file) tt few (record {
      good = λ n bad. a.answers.only_bad n bad;
      same = at_units (λ other. IsText bytes other → said_of other ≡ said_of (inputs.Units file)) (λ other f. ap SaysUnits (like_fault other file (f.2 ∙ ap LinkFiles.contents_told (sym (a.answers.only_ok f.0 f.1)) ∙ sym a.file)));
    })

pub bad_units : (bytes : List ℕ) (n : ℕ) → length bytes ≤ limit → LinkFiles.AnswersFile bytes (Err (line_errors.BadLine n)) → IsParsed formats.Units bytes (Err (faults.Line n))
bad_units bytes n l a =
    bad_line formats.Units bytes n l a.answers.bad (λ m bad. a.answers.only_bad m bad) (at_units (λ other. IsText bytes other → ⊥) (λ other f. a.answers.only_ok f.0 f.1))

pub parsed_addresses : (bytes : List ℕ) (file : StubFile) → length bytes ≤ limit → Lines.Answers Stubs.says bytes [] (Ok (Stubs.addresses_of file)) → length file.addresses.items ≤ length bytes → IsParsed formats.Addresses bytes (Ok (inputs.Addresses file))
parsed_addresses bytes file l a few =
    parsed formats.Addresses bytes (inputs.Addresses file) l refl a.ok tt (omega arith) (record {
      good = λ n bad. a.only_bad n bad;
      same = at_addresses (λ other. IsText bytes other → said_of other ≡ said_of (inputs.Addresses file)) (λ other f. ap SaysAddresses (sym (a.only_ok (Stubs.addresses_of other) f)));
    })

pub bad_addresses : (bytes : List ℕ) (n : ℕ) → length bytes ≤ limit → Lines.Answers Stubs.says bytes [] (Err (line_errors.BadLine n)) → IsParsed formats.Addresses bytes (Err (faults.Line n))
bad_addresses bytes n l a =
    bad_line formats.Addresses bytes n l a.bad (λ m bad. a.only_bad m bad) (at_addresses (λ other. IsText bytes other → ⊥) (λ other f. a.only_ok (Stubs.addresses_of other) f))

-- ---- what the source told

-- what holds of the bytes holds of what the source told
told : (left : Option (List ℕ)) (bytes : List ℕ) (P : List ℕ → Type 0) → IfSome left (λ text. text ≡ bytes) → P bytes → IfSome left P
told None bytes P e p = tt
told (Some text) bytes P e p = subst P (sym e) p

module _ (format : Format) (left left' : Option (List ℕ)) (bytes : List ℕ) where
  pub input_ok : (r : Result Input Fault) → IsWhole left left' bytes → IsParsed format bytes r → IfOk r (WasRead format left left')
  input_ok (Err e) w p = tt
  input_ok (Ok input) w p = record {
    kind = p.kind;
    bytes = told left bytes (λ text. IsText text input) w.same p.ok;
    as_written = told left bytes (λ text. IsAsWritten text input) w.same p.as_written;
    short = told left bytes (λ text. length text ≤ limit) w.same w.short;
    nothing_left = w.nothing_left;
  }

  pub input_held : (r : Result Input Fault) → IsWhole left left' bytes → IsParsed format bytes r → IfErr r (λ fault. Held format left (Some fault))
  input_held (Ok input) w p = tt
  input_held (Err (faults.Line n)) w p = told left bytes (λ text. (length text ≤ limit) × IsFirstBad format text n) w.same p.held
  input_held (Err faults.TooLong) w p = absurd p.cause
  input_held (Err faults.Usage) w p = tt
  input_held (Err faults.Read) w p = tt
  input_held (Err (faults.Assembly error)) w p = tt
  input_held (Err (faults.Audit verdict)) w p = tt
  input_held (Err (faults.Link error)) w p = tt
  input_held (Err faults.Write) w p = tt
  input_held (Err faults.Memory) w p = tt

  pub input_due_ok : (r : Result Input Fault) → IsWhole left left' bytes → IsParsed format bytes r → IfOk r (λ input. IfSome left (λ text. IsInputOf format text input))
  input_due_ok (Err e) w p = tt
  input_due_ok (Ok input) w p = told left bytes (λ text. IsInputOf format text input) w.same p.due_ok

  pub input_due_err : (r : Result Input Fault) → IsWhole left left' bytes → IsParsed format bytes r → IfErr r (λ fault. IfSome left (λ text. IsTextDue format text fault))
  input_due_err (Ok input) w p = tt
  input_due_err (Err fault) w p = told left bytes (λ text. IsTextDue format text fault) w.same p.due_err

-- what the bytes are found to be is no failed read
pub input_cause : (format : Format) (old new : ℕ) (bytes : List ℕ) (r : Result Input Fault) → new ≡ old → IsParsed format bytes r → IfErr r (IsInputFault old new)
input_cause format old new bytes (Ok input) e p = tt
input_cause format old new bytes (Err (faults.Line n)) e p = e
input_cause format old new bytes (Err faults.Memory) e p = e
input_cause format old new bytes (Err faults.Usage) e p = absurd p.cause
input_cause format old new bytes (Err faults.Read) e p = absurd p.cause
input_cause format old new bytes (Err faults.TooLong) e p = absurd p.cause
input_cause format old new bytes (Err (faults.Assembly error)) e p = absurd p.cause
input_cause format old new bytes (Err (faults.Audit verdict)) e p = absurd p.cause
input_cause format old new bytes (Err (faults.Link error)) e p = absurd p.cause
input_cause format old new bytes (Err faults.Write) e p = absurd p.cause

-- where nothing was read, a read failed only if that is the answer
pub input_fails : (old new : ℕ) (fault : Fault) → IsInputFault old new fault → FailsOnlyAt faults.Read (Some fault) old new
input_fails old new faults.Read c = inr refl
input_fails old new faults.Memory c = inl c
input_fails old new faults.TooLong c = inl c
input_fails old new (faults.Line n) c = inl c
input_fails old new faults.Usage c = absurd c
input_fails old new (faults.Assembly error) c = absurd c
input_fails old new (faults.Audit verdict) c = absurd c
input_fails old new (faults.Link error) c = absurd c
input_fails old new faults.Write c = absurd c

-- a failed read and want of memory are free, and too long a text is told by itself
pub text_due : (format : Format) (left : Option (List ℕ)) (old new : ℕ) (fault : Fault) → IsTextFault old new fault → Held format left (Some fault) → IfSome left (λ text. IsTextDue format text fault)
text_due format None old new fault c h = tt
text_due format (Some text) old new faults.Read c h = λ command works. record {
  too_long = λ l. inr (inl refl);
  bad_line = λ n l bad. inr (inl refl);
  refused = λ input first l kind is f. inr (inl refl);
  done = λ input l kind is f. inl (inr (inl refl));
}
text_due format (Some text) old new faults.Memory c h = λ command works. record {
  too_long = λ l. inr (inr refl);
  bad_line = λ n l bad. inr (inr refl);
  refused = λ input first l kind is f. inr (inr refl);
  done = λ input l kind is f. inl (inr (inr refl));
}
text_due format (Some text) old new faults.TooLong c h = λ command works. record {
  too_long = λ l. inl refl;
  bad_line = λ n l bad. absurd (omega arith);
  refused = λ input first l kind is f. absurd (omega arith);
  done = λ input l kind is f. absurd (omega arith);
}
text_due format (Some text) old new faults.Usage c h = absurd c
text_due format (Some text) old new (faults.Line n) c h = absurd c
text_due format (Some text) old new (faults.Assembly error) c h = absurd c
text_due format (Some text) old new (faults.Audit verdict) c h = absurd c
text_due format (Some text) old new (faults.Link error) c h = absurd c
text_due format (Some text) old new faults.Write c h = absurd c

-- ---- what was read for a command: a line for each

-- the command is not `gen`
abbrev IsNoGen : Command → Type 0
IsNoGen command = (count : ℕ) (force : ForceVeneers) → command ≡ Gen count force → ⊥

module _ (left left' : Option (List ℕ)) where
  pub read_is_input : (command : Command) (r : Result Input Fault) → IsNoGen command → IfOk r (WasRead (works_on command) left left') → IfOk r (IsInput command left left')
  read_is_input command (Err fault) apart h = tt
  read_is_input (Asm force) (Ok input) apart h = h
  read_is_input (Gen count force) (Ok input) apart h = absurd (apart count force refl)
  read_is_input commands.List (Ok input) apart h = h
  read_is_input commands.Roles (Ok input) apart h = h
  read_is_input commands.Audit (Ok input) apart h = h
  read_is_input commands.Dis (Ok input) apart h = h
  read_is_input commands.Undis (Ok input) apart h = h
  read_is_input commands.Link (Ok input) apart h = h
  read_is_input commands.Stubs (Ok input) apart h = h

  pub read_is_due : (command : Command) (r : Result Input Fault) → IsNoGen command → IfOk r (λ input. IfSome left (λ text. IsInputOf (works_on command) text input)) → IfOk r (IsDueInput command left)
  read_is_due command (Err fault) apart h = tt
  read_is_due (Asm force) (Ok input) apart h = h
  read_is_due (Gen count force) (Ok input) apart h = absurd (apart count force refl)
  read_is_due commands.List (Ok input) apart h = h
  read_is_due commands.Roles (Ok input) apart h = h
  read_is_due commands.Audit (Ok input) apart h = h
  read_is_due commands.Dis (Ok input) apart h = h
  read_is_due commands.Undis (Ok input) apart h = h
  read_is_due commands.Link (Ok input) apart h = h
  read_is_due commands.Stubs (Ok input) apart h = h

  due_for : (command : Command) (fault : Fault) (left : Option (List ℕ)) → IsNoGen command → IfSome left (λ text. IsTextDue (works_on command) text fault) → IsDueAnswer command left (Some fault)
  due_for (Asm force) fault None apart h = tt
  due_for (Asm force) fault (Some text) apart h = h (Asm force) refl
  due_for (Gen count force) fault left apart h = absurd (apart count force refl)
  due_for commands.List fault None apart h = tt
  due_for commands.List fault (Some text) apart h = h commands.List refl
  due_for commands.Roles fault None apart h = tt
  due_for commands.Roles fault (Some text) apart h = h commands.Roles refl
  due_for commands.Audit fault None apart h = tt
  due_for commands.Audit fault (Some text) apart h = h commands.Audit refl
  due_for commands.Dis fault None apart h = tt
  due_for commands.Dis fault (Some text) apart h = h commands.Dis refl
  due_for commands.Undis fault None apart h = tt
  due_for commands.Undis fault (Some text) apart h = h commands.Undis refl
  due_for commands.Link fault None apart h = tt
  due_for commands.Link fault (Some text) apart h = h commands.Link refl
  due_for commands.Stubs fault None apart h = tt
  due_for commands.Stubs fault (Some text) apart h = h commands.Stubs refl

  pub read_fault_due : (command : Command) (r : Result Input Fault) → IsNoGen command → IfErr r (λ fault. IfSome left (λ text. IsTextDue (works_on command) text fault)) → IfErr r (λ fault. IsDueAnswer command left (Some fault))
  read_fault_due command (Ok input) apart h = tt
  read_fault_due command (Err fault) apart h = due_for command fault left apart h
