-- How a command ends, for the source of what it works on.
use Rattle.std.proofs.Common.{◌≡◌, ◌⊎◌, ℕ, List, refl, sym, ap, ◌∙◌, subst, inl, inr, arith, Option, None, Some}
use Rattle.a64_run.specs.declared.product.Product.{Product}
use Rattle.a64_run.specs.declared.command.Command.{Command}
use Rattle.a64_run.specs.declared.command.Command.TheVariants.{Asm, Gen}
use Rattle.a64_run.specs.declared.command.Command.TheVariants as commands
use Rattle.a64_run.specs.declared.input.Input.{Input}
use Rattle.a64_run.specs.declared.input.Input.TheVariants as inputs
use Rattle.a64_run.specs.declared.ran.Fault.{Fault}
use Rattle.a64_run.specs.declared.ran.Fault.TheVariants as faults
use Rattle.a64_run.specs.declared.making.Made.{Made}
use Rattle.a64_run.specs.Commands.{works_on, contents_fault, HasWords, IsFaultOf, IsFaultless, IsInput, IsMade}
use Rattle.a64_run.specs.Run.{IsDue, IsDueForText, IsDueAlways, IsDueAnswer, Keeps}
use Rattle.a64_run.specs.Stages.{IsInputOf, IsDueInput, IsMakingFault, kept_of, text_of, EndsWriting, Ends}
use Rattle.a64_run.proofs.Faultless.{gen_faultless}
use Rattle.a64_run.proofs.Faults.{no_fault, one_fault, like_fault, like_faultless}
use Rattle.a64_run.proofs.RightItems.{right_faultless}

module _ (command : Command) (taken taken' : Option (List ℕ)) (input : Input) where
  -- what has a fault is refused with it
  refused_due : (fault : Option Fault) (product : Option Product) (first : Fault) → Ends command taken taken' input fault product
      → IsFaultOf command input first → IsDue (Some first) fault
  refused_due None product first e h = absurd (no_fault command input first e.made.no_fault h)
  refused_due (Some faults.Write) product first e h = absurd (no_fault command input first e.made.no_fault h)
  refused_due (Some (faults.Assembly error)) product first e h = inl (ap (λ f. Some f) (one_fault command input (faults.Assembly error) first e.0.0 h))
  refused_due (Some (faults.Audit verdict)) product first e h = inl (ap (λ f. Some f) (one_fault command input (faults.Audit verdict) first e.0 h))
  refused_due (Some (faults.Link error)) product first e h = inl (ap (λ f. Some f) (one_fault command input (faults.Link error) first e.0.0 h))
  refused_due (Some faults.Memory) product first e h = inr (inr refl)
  refused_due (Some faults.Usage) product first e h = absurd e.0
  refused_due (Some faults.Read) product first e h = absurd e.0
  refused_due (Some faults.TooLong) product first e h = absurd e.0
  refused_due (Some (faults.Line n)) product first e h = absurd e.0

  -- what has none is done
  done_due : (fault : Option Fault) (product : Option Product) → Ends command taken taken' input fault product
      → IsFaultless command input → IsDue None fault ⊎ (fault ≡ Some faults.Write)
  done_due None product e h = inl (inl refl)
  done_due (Some faults.Write) product e h = inr refl
  done_due (Some (faults.Assembly error)) product e h = absurd (no_fault command input (faults.Assembly error) h e.0.0)
  done_due (Some (faults.Audit verdict)) product e h = absurd (no_fault command input (faults.Audit verdict) h e.0)
  done_due (Some (faults.Link error)) product e h = absurd (no_fault command input (faults.Link error) h e.0.0)
  done_due (Some faults.Memory) product e h = inl (inr (inr refl))
  done_due (Some faults.Usage) product e h = absurd e.0
  done_due (Some faults.Read) product e h = absurd e.0
  done_due (Some faults.TooLong) product e h = absurd e.0
  done_due (Some (faults.Line n)) product e h = absurd e.0

  -- what is due for a text comes
  pub text_ends_due : (text : List ℕ) (fault : Option Fault) (product : Option Product)
      → IsInputOf (works_on command) text input → Ends command taken taken' input fault product → IsDueForText command text fault
  text_ends_due text fault product o e = record {
    too_long = λ l. let s = o.short in absurd (omega arith);
    bad_line = λ n l bad. absurd (o.good n bad);
    refused = λ other first l kind is h. refused_due fault product first e (like_fault command other input first (o.same other kind is) h);
    done = λ other l kind is h. done_due fault product e (like_faultless command other input (o.same other kind is) h);
  }

  -- nothing else comes of what has no fault than that it is done, in part where a write fails, and want of memory
  pub done_always : (fault : Option Fault) (product : Option Product) → Ends command taken taken' input fault product
      → IsFaultless command input → IsDueAlways fault
  done_always None product e h = inl refl
  done_always (Some faults.Write) product e h = inr (inl refl)
  done_always (Some (faults.Assembly error)) product e h = absurd (no_fault command input (faults.Assembly error) h e.0.0)
  done_always (Some (faults.Audit verdict)) product e h = absurd (no_fault command input (faults.Audit verdict) h e.0)
  done_always (Some (faults.Link error)) product e h = absurd (no_fault command input (faults.Link error) h e.0.0)
  done_always (Some faults.Memory) product e h = inr (inr refl)
  done_always (Some faults.Usage) product e h = absurd e.0
  done_always (Some faults.Read) product e h = absurd e.0
  done_always (Some faults.TooLong) product e h = absurd e.0
  done_always (Some (faults.Line n)) product e h = absurd e.0

-- what was made, and how the writing of it ended, is how the command ends
pub written_ends : (command : Command) (taken taken' : Option (List ℕ)) (input : Input) (made : Made) (fault : Option Fault) (product : Option Product)
    → IsMade command input (kept_of made) (text_of input made) → EndsWriting taken taken' input made fault product → Ends command taken taken' input fault product
written_ends command taken taken' input made None product m e =
    record { output = text_of input made; made = subst (λ (c : Option Product). IsMade command input c (text_of input made)) (sym e.1) m; written = e.0 }
written_ends command taken taken' input made (Some faults.Write) product m e =
    record { output = text_of input made; made = subst (λ (c : Option Product). IsMade command input c (text_of input made)) (sym e.1) m; written = e.0 }
written_ends command taken taken' input made (Some faults.Memory) product m e = (right_faultless command input m.no_fault, e.1, e.0)
written_ends command taken taken' input made (Some faults.Usage) product m e = absurd e
written_ends command taken taken' input made (Some faults.Read) product m e = absurd e
written_ends command taken taken' input made (Some faults.TooLong) product m e = absurd e
written_ends command taken taken' input made (Some (faults.Line n)) product m e = absurd e
written_ends command taken taken' input made (Some (faults.Assembly error)) product m e = absurd e
written_ends command taken taken' input made (Some (faults.Audit verdict)) product m e = absurd e
written_ends command taken taken' input made (Some (faults.Link error)) product m e = absurd e

-- why nothing is made is how the command ends
pub refused_ends : (command : Command) (taken : Option (List ℕ)) (input : Input) (fault : Fault)
    → IsMakingFault command input fault → Ends command taken taken input (Some fault) None
refused_ends command taken input (faults.Assembly error) h = (h, refl, refl)
refused_ends command taken input (faults.Audit verdict) h = (h, refl, refl)
refused_ends command taken input (faults.Link error) h = (h, refl, refl)
refused_ends command taken input faults.Memory h = (h, refl, refl)
refused_ends command taken input faults.Usage h = absurd h
refused_ends command taken input faults.Read h = absurd h
refused_ends command taken input faults.TooLong h = absurd h
refused_ends command taken input (faults.Line n) h = absurd h
refused_ends command taken input faults.Write h = absurd h

-- what is kept
pub ends_keeps : (command : Command) (left left' taken taken' : Option (List ℕ)) (input : Input) (fault : Option Fault) (product : Option Product)
    → IsInput command left left' input → Ends command taken taken' input fault product → Keeps command left left' taken taken' fault (Some input) product
ends_keeps command left left' taken taken' input None product i e = record { is_input = i; output = e.output; made = e.made; written = e.written }
ends_keeps command left left' taken taken' input (Some faults.Write) product i e = record { is_input = i; output = e.output; made = e.made; written = e.written }
ends_keeps command left left' taken taken' input (Some (faults.Assembly error)) product i e =
    (record { is_input = i; is_fault = e.0.0; no_memory = (λ same. e.0.1 (let k = same in cc), λ same. (let k = same in cc)) }, e.1)
ends_keeps command left left' taken taken' input (Some (faults.Audit verdict)) product i e =
    (record { is_input = i; is_fault = e.0; no_memory = (λ same. (let k = same in cc), λ same. (let k = same in cc)) }, e.1)
ends_keeps command left left' taken taken' input (Some (faults.Link error)) product i e =
    (record { is_input = i; is_fault = e.0.0; no_memory = (λ same. (let k = same in cc), λ same. e.0.1 (let k = same in cc)) }, e.1)
ends_keeps command left left' taken taken' input (Some faults.Memory) product i e = (record { is_input = i; right = e.0 }, e.1)
ends_keeps command left left' taken taken' input (Some faults.Usage) product i e = absurd e.0
ends_keeps command left left' taken taken' input (Some faults.Read) product i e = absurd e.0
ends_keeps command left left' taken taken' input (Some faults.TooLong) product i e = absurd e.0
ends_keeps command left left' taken taken' input (Some (faults.Line n)) product i e = absurd e.0

-- what is due comes: a line for each command
pub ends_due : (command : Command) (left left' taken taken' : Option (List ℕ)) (input : Input) (fault : Option Fault) (product : Option Product)
    → HasWords command → IsInput command left left' input → IsDueInput command left input → Ends command taken taken' input fault product → IsDueAnswer command left fault
ends_due (Gen count force) left left' taken taken' (inputs.Items file) fault product w i o e =
    done_always (Gen count force) taken taken' (inputs.Items file) fault product e (ap (contents_fault (Gen count force)) i ∙ gen_faultless count force w)
ends_due (Gen count force) left left' taken taken' (inputs.Words file) fault product w i o e = absurd i
ends_due (Gen count force) left left' taken taken' (inputs.Listing file) fault product w i o e = absurd i
ends_due (Gen count force) left left' taken taken' (inputs.Units file) fault product w i o e = absurd i
ends_due (Gen count force) left left' taken taken' (inputs.Addresses file) fault product w i o e = absurd i
ends_due (Asm force) None left' taken taken' input fault product w i o e = tt
ends_due (Asm force) (Some text) left' taken taken' input fault product w i o e = text_ends_due (Asm force) taken taken' input text fault product o e
ends_due commands.List None left' taken taken' input fault product w i o e = tt
ends_due commands.List (Some text) left' taken taken' input fault product w i o e = text_ends_due commands.List taken taken' input text fault product o e
ends_due commands.Roles None left' taken taken' input fault product w i o e = tt
ends_due commands.Roles (Some text) left' taken taken' input fault product w i o e = text_ends_due commands.Roles taken taken' input text fault product o e
ends_due commands.Audit None left' taken taken' input fault product w i o e = tt
ends_due commands.Audit (Some text) left' taken taken' input fault product w i o e = text_ends_due commands.Audit taken taken' input text fault product o e
ends_due commands.Dis None left' taken taken' input fault product w i o e = tt
ends_due commands.Dis (Some text) left' taken taken' input fault product w i o e = text_ends_due commands.Dis taken taken' input text fault product o e
ends_due commands.Undis None left' taken taken' input fault product w i o e = tt
ends_due commands.Undis (Some text) left' taken taken' input fault product w i o e = text_ends_due commands.Undis taken taken' input text fault product o e
ends_due commands.Link None left' taken taken' input fault product w i o e = tt
ends_due commands.Link (Some text) left' taken taken' input fault product w i o e = text_ends_due commands.Link taken taken' input text fault product o e
ends_due commands.Stubs None left' taken taken' input fault product w i o e = tt
ends_due commands.Stubs (Some text) left' taken taken' input fault product w i o e = text_ends_due commands.Stubs taken taken' input text fault product o e
