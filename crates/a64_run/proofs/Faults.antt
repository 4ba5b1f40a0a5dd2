-- The fault that a command finds first in what it works on is one.
use Rattle.std.proofs.Common.{◌≡◌, ◌≢◌, refl, sym, ap, ◌∙◌, subst, Option, Some}
use Rattle.a64_audit.specs.declared.verdict.Verdict.{Verdict}
use Rattle.a64_audit.specs.declared.verdict.Verdict.TheVariants.{Clean}
use Rattle.a64_audit.specs.Entries as Audit
use Rattle.a64_audit.specs.Verdicts.{IsVerdict}
use Rattle.a64_audit.proofs.OneVerdict.{one_verdict}
use Rattle.a64_emit.specs.declared.error.EmitError.{EmitError}
use Rattle.a64_link.specs.declared.error.LinkError.{LinkError}
use Rattle.a64_text.specs.States.{Contents}
use Rattle.a64_run.specs.declared.command.Command.{Command}
use Rattle.a64_run.specs.declared.command.Command.TheVariants.{Asm, Gen}
use Rattle.a64_run.specs.declared.command.Command.TheVariants as commands
use Rattle.a64_run.specs.declared.input.Input.{Input}
use Rattle.a64_run.specs.declared.ran.Fault.{Fault}
use Rattle.a64_run.specs.declared.ran.Fault.TheVariants as faults
use Rattle.a64_run.specs.Commands.{contents_fault, said_of, Said, SaysItems, SaysWords, SaysListing, SaysUnits, SaysAddresses, FindsFault, FindsNone, IsFaultOf, IsFaultless}
use Rattle.a64_run.specs.Stages.{IsLike}

-- the fault of a file of items is one of the assembler
record OfItems (command : Command) (file : Contents) (fault : Fault) : Type 0 where
  error : EmitError
  is : fault ≡ faults.Assembly error
  found : contents_fault command file ≡ Some error

of_items : (command : Command) (file : Contents) (fault : Fault) → FindsFault command (SaysItems file) fault → OfItems command file fault
of_items command file faults.Usage h = absurd h
of_items command file faults.Read h = absurd h
of_items command file faults.TooLong h = absurd h
of_items command file (faults.Line n) h = absurd h
of_items command file (faults.Assembly error) h = record { error = error; is = refl; found = h }
of_items command file (faults.Audit verdict) h = absurd h
of_items command file (faults.Link error) h = absurd h
of_items command file faults.Write h = absurd h
of_items command file faults.Memory h = absurd h

-- that of words is what an audit finds
record OfWords (words : Audit.Contents) (fault : Fault) : Type 0 where
  verdict : Verdict
  is : fault ≡ faults.Audit verdict
  found : IsVerdict words verdict
  other : verdict ≢ Clean

audited : (words : Audit.Contents) (fault : Fault) → FindsFault commands.Audit (SaysWords words) fault → OfWords words fault
audited words faults.Usage h = absurd h
audited words faults.Read h = absurd h
audited words faults.TooLong h = absurd h
audited words (faults.Line n) h = absurd h
audited words (faults.Assembly error) h = absurd h
audited words (faults.Audit verdict) h = record { verdict = verdict; is = refl; found = h.0; other = h.1 }
audited words (faults.Link error) h = absurd h
audited words faults.Write h = absurd h
audited words faults.Memory h = absurd h

-- that of units is one of the linker
record OfUnits (found : Option LinkError) (fault : Fault) : Type 0 where
  error : LinkError
  is : fault ≡ faults.Link error
  is_found : found ≡ Some error

linked : (found : Option LinkError) (fault : Fault) → FindsFault commands.Link (SaysUnits found) fault → OfUnits found fault
linked found faults.Usage h = absurd h
linked found faults.Read h = absurd h
linked found faults.TooLong h = absurd h
linked found (faults.Line n) h = absurd h
linked found (faults.Assembly error) h = absurd h
linked found (faults.Audit verdict) h = absurd h
linked found (faults.Link error) h = record { error = error; is = refl; is_found = h }
linked found faults.Write h = absurd h
linked found faults.Memory h = absurd h

-- what is known of each command in each format that it finds faults in is known of any: in the others it finds none
module _ (P : Command → Said → Type 0)
    (items : (command : Command) (file : Contents) → P command (SaysItems file))
    (audits : (words : Audit.Contents) → P commands.Audit (SaysWords words))
    (links : (found : Option LinkError) → P commands.Link (SaysUnits found))
    (never : (command : Command) (said : Said) → ((fault : Fault) → FindsFault command said fault → ⊥) → P command said) where
  at_words : (command : Command) (words : Audit.Contents) → P command (SaysWords words)
  at_words (Asm force) words = never (Asm force) (SaysWords words) (λ fault h. h)
  at_words (Gen count force) words = never (Gen count force) (SaysWords words) (λ fault h. h)
  at_words commands.List words = never commands.List (SaysWords words) (λ fault h. h)
  at_words commands.Roles words = never commands.Roles (SaysWords words) (λ fault h. h)
  at_words commands.Audit words = audits words
  at_words commands.Dis words = never commands.Dis (SaysWords words) (λ fault h. h)
  at_words commands.Undis words = never commands.Undis (SaysWords words) (λ fault h. h)
  at_words commands.Link words = never commands.Link (SaysWords words) (λ fault h. h)
  at_words commands.Stubs words = never commands.Stubs (SaysWords words) (λ fault h. h)

  at_units : (command : Command) (found : Option LinkError) → P command (SaysUnits found)
  at_units (Asm force) found = never (Asm force) (SaysUnits found) (λ fault h. h)
  at_units (Gen count force) found = never (Gen count force) (SaysUnits found) (λ fault h. h)
  at_units commands.List found = never commands.List (SaysUnits found) (λ fault h. h)
  at_units commands.Roles found = never commands.Roles (SaysUnits found) (λ fault h. h)
  at_units commands.Audit found = never commands.Audit (SaysUnits found) (λ fault h. h)
  at_units commands.Dis found = never commands.Dis (SaysUnits found) (λ fault h. h)
  at_units commands.Undis found = never commands.Undis (SaysUnits found) (λ fault h. h)
  at_units commands.Link found = links found
  at_units commands.Stubs found = never commands.Stubs (SaysUnits found) (λ fault h. h)

  in_each : (command : Command) (said : Said) → P command said
  in_each command (SaysItems file) = items command file
  in_each command (SaysWords words) = at_words command words
  in_each command (SaysListing words) = never command (SaysListing words) (λ fault h. h)
  in_each command (SaysUnits found) = at_units command found
  in_each command (SaysAddresses addresses) = never command (SaysAddresses addresses) (λ fault h. h)

-- where there is none, there is no fault
abbrev HasNone : Command → Said → Type 0
HasNone command said = (fault : Fault) → FindsNone command said → FindsFault command said fault → ⊥

has_none : (command : Command) (said : Said) → HasNone command said
has_none = in_each HasNone
    (λ command file fault none h. let o = of_items command file fault h in let found = o.found in cc)
    (λ words fault none h. let o = audited words fault h in o.other (one_verdict words Clean o.verdict none o.found))
    (λ found fault none h. let o = linked found fault h in let is_found = o.is_found in cc)
    (λ command said never fault none h. never fault h)

pub no_fault : (command : Command) (input : Input) (fault : Fault) → IsFaultless command input → IsFaultOf command input fault → ⊥
no_fault command input fault none h = has_none command (said_of input) fault none h

-- and where there is one, there is no other
abbrev HasOne : Command → Said → Type 0
HasOne command said = (one two : Fault) → FindsFault command said one → FindsFault command said two → one ≡ two

has_one : (command : Command) (said : Said) → HasOne command said
has_one = in_each HasOne
    (λ command file one two h k.
    let o = of_items command file one h in
    let p = of_items command file two k in
    let same : ◌≡◌ {A = Option EmitError} (Some o.error) (Some p.error) = sym o.found ∙ p.found in
    let errors : o.error ≡ p.error = cc in
    o.is ∙ ap faults.Assembly errors ∙ sym p.is)
    (λ words one two h k.
    let o = audited words one h in
    let p = audited words two k in
    o.is ∙ ap faults.Audit (one_verdict words p.verdict o.verdict p.found o.found) ∙ sym p.is)
    (λ found one two h k.
    let o = linked found one h in
    let p = linked found two k in
    let same : ◌≡◌ {A = Option LinkError} (Some o.error) (Some p.error) = sym o.is_found ∙ p.is_found in
    let errors : o.error ≡ p.error = cc in
    o.is ∙ ap faults.Link errors ∙ sym p.is)
    (λ command said never one two h k. absurd (never one h))

pub one_fault : (command : Command) (input : Input) (one two : Fault) → IsFaultOf command input one → IsFaultOf command input two → one ≡ two
one_fault command input one two h k = has_one command (said_of input) one two h k

-- what says the same has the same fault
pub like_fault : (command : Command) (one two : Input) (fault : Fault) → IsLike one two → IsFaultOf command one fault → IsFaultOf command two fault
like_fault command one two fault same h = subst (λ (s : Said). FindsFault command s fault) same h

pub like_faultless : (command : Command) (one two : Input) → IsLike one two → IsFaultless command one → IsFaultless command two
like_faultless command one two same h = subst (λ (s : Said). FindsNone command s) same h
