-- How a process ends that runs the program.
use Rattle.std.specs.Prelude.{ℕ, ◌≡◌, ◌≢◌, List, Option, Some, drop, map}
use Rattle.std.specs.String.{string_bytes}
use Rattle.std.specs.declared.string.String.{String}
use Rattle.std.specs.Vec.Iter.{into_iter_items}
use Rattle.std.specs.declared.vec.IntoIter.{IntoIter}
use Rattle.std.specs.IoError.{error_kind}
use Rattle.std.specs.declared.io.Error.{Error}
use Rattle.std.specs.declared.io.ErrorKind.TheVariants.{InvalidData}
use Rattle.a64_run.specs.declared.command.Command.{Command}
use Rattle.a64_run.specs.declared.ran.Fault.{Fault}
use Rattle.a64_run.specs.declared.ran.Fault.TheVariants as faults
use Rattle.a64_run.specs.Answering.{Answers, TellsFault}
use Rattle.a64_run.specs.Commands.{IsCommand}
use Rattle.a64_run.specs.Run.{Kept, status_of}

-- the command that the words of a process ask for: those behind the first, its name
abbrev pub asked_by : {A : Type 0} → IntoIter (String A) A → Command → Type 0
asked_by args = IsCommand (map string_bytes (drop 1 (into_iter_items args)))

module _ {S K E : Type 0} (left : S → Option (List ℕ)) (read_faults : S → ℕ) (taken : K
    → Option (List ℕ)) (write_faults : K → ℕ) (told : E → Option (List ℕ)) (tell_faults : E
    → ℕ) (source source' : S) (sink sink' : K) (errs errs' : E) where
  -- a run for what was asked for, with its status
  pub record EndsFor (asked : Command → Type 0) (status : ℕ) : Type 0 where
    pub kept : Kept
    pub fault : Option Fault
    pub answers : Answers left read_faults taken write_faults source source' sink sink' asked kept
        fault
    pub tells : TellsFault told tell_faults errs errs' fault
    pub status_is : status ≡ status_of fault

  -- no memory for the words: that is told, and nothing is read or written
  pub record LacksWords (status : ℕ) : Type 0 where
    pub unread : source' ≡ source
    pub unwritten : sink' ≡ sink
    pub tells : TellsFault told tell_faults errs errs' (Some faults.Memory)
    pub status_is : status ≡ status_of (Some faults.Memory)

  -- what is no text asks for no command; each other error is want of memory for the words
  pub record EndsByError (status : ℕ) (error : Error) : Type 0 where
    pub no_text : error_kind error ≡ InvalidData → EndsFor (λ command. ⊥) status
    pub other : error_kind error ≢ InvalidData → LacksWords status
