-- What a run promises, whatever its source and sinks are.
use Rattle.std.specs.Prelude.{ℕ, ◌≡◌, ◌⊎◌, ◌<◌, ◌↔◌, List, false, Option, None, Some, IfSome}
use Rattle.a64_io.specs.Streams.{HasFailed, Takes, TakesPart}
use Rattle.a64_run.specs.declared.command.Command.{Command}
use Rattle.a64_run.specs.declared.ran.Fault.{Fault}
use Rattle.a64_run.specs.declared.ran.Fault.TheVariants as faults
use Rattle.a64_run.specs.Commands.{OfAsked, IsNoneAsked, reads_source, works_on}
use Rattle.a64_run.specs.Run.{Kept, nothing_kept, fault_line, KeepsAll, Held, FailsOnlyAt}
use Rattle.a64_run.specs.Run.{Untouched, TakesFew, IsDueAnswer}

-- what a run promises of its source and its sink, of what it keeps, and of its answer, for what was
-- asked for: one command, or those that words are, which are one at most
pub record Answers {S K : Type 0} (left : S → Option (List ℕ)) (read_faults : S → ℕ) (taken : K
    → Option (List ℕ)) (write_faults : K
    → ℕ) (source source' : S) (sink sink' : K) (asked : Command
    → Type 0) (kept : Kept) (fault : Option Fault) : Type 0 where
  -- the headline, where all was done, and what is kept at the other answers; nothing where no
  -- command was asked for
  pub keeps : OfAsked asked
      (λ command. KeepsAll command (left source) (left source') (taken sink) (taken sink') kept
      fault)
  pub nothing : fault ≡ Some faults.Usage → kept ≡ nothing_kept
  -- the causes of the answers; where a count of failures rose, the answer is that failure
  pub usage : (fault ≡ Some faults.Usage) ↔ IsNoneAsked asked
  pub read : fault ≡ Some faults.Read → HasFailed (read_faults source) (read_faults source')
  pub reads : FailsOnlyAt faults.Read fault (read_faults source) (read_faults source')
  pub held : OfAsked asked (λ command. Held (works_on command) (left source) fault)
  pub write : fault ≡ Some faults.Write → HasFailed (write_faults sink) (write_faults sink')
  pub writes : FailsOnlyAt faults.Write fault (write_faults sink) (write_faults sink')
  -- each answer comes where it is due; want of memory alone is free
  pub due : OfAsked asked (λ command. IsDueAnswer command (left source) fault)
  -- what the streams gave and took; a command that does not read the source leaves it as it was,
  -- and so does what is no command
  pub few : TakesFew (left source) (left source')
  pub unread : OfAsked asked (λ command. reads_source command ≡ false) → source' ≡ source
  pub untouched : Untouched (taken sink) (taken sink') fault

-- what the sink for faults got: the whole line of the fault, or where a write to it failed a proper
-- prefix, and without a fault nothing
pub record TellsFault {E : Type 0} (taken : E → Option (List ℕ)) (write_faults : E
    → ℕ) (errs errs' : E) (fault : Option Fault) : Type 0 where
  pub silent : fault ≡ None → errs' ≡ errs
  pub said : IfSome fault (λ f. ¬ HasFailed (write_faults errs) (write_faults errs')
      → Takes (taken errs) (taken errs') (fault_line f))
  pub cut : IfSome fault (λ f. write_faults errs < write_faults errs'
      → TakesPart (taken errs) (taken errs') (fault_line f))
  pub begun : IfSome fault (λ f. Takes (taken errs) (taken errs') (fault_line f)
      ⊎ TakesPart (taken errs) (taken errs') (fault_line f))
