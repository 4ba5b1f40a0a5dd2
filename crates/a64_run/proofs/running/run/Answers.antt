use Rattle.std.proofs.Common.{ℕ, ◌≡◌, List, Option}
use Rattle.a64_run.specs.declared.command.Command.{Command}
use Rattle.a64_run.specs.declared.ran.Fault.{Fault}
use Rattle.a64_run.specs.Answering.{Answers}
use Rattle.a64_run.specs.Run.{Kept}
use Rattle.a64_run.proofs.running.run.Goals as goal

-- what is kept elsewhere is promised there too
kept_answers : {S K : Type 0} {left : S → Option (List ℕ)} {read_faults : S → ℕ} {taken : K → Option (List ℕ)} {write_faults : K → ℕ} {source source' : S} {sink sink' : K} {asked : Command → Type 0} {kept kept' : Kept} {fault fault' : Option Fault}
    → kept' ≡ kept → fault' ≡ fault
    → Answers left read_faults taken write_faults source source' sink sink' asked kept fault → Answers left read_faults taken write_faults source source' sink sink' asked kept' fault'
kept_answers same_kept same_fault answers = rw (same_kept, same_fault) answers

pub returns-in-Some-clause-answers : goal.returns-in-Some-clause-answers
returns-in-Some-clause-answers g c = kept_answers c.from-ran.ensures.1 c.from-ran.ensures.2 c.run_words.ensures

pub returns-in_default-clause-answers : goal.returns-in_default-clause-answers
returns-in_default-clause-answers g c = kept_answers c.from-ran.ensures.1 c.from-ran.ensures.2 c.run_words.ensures
