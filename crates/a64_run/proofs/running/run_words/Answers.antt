use Rattle.std.proofs.Common.{ℕ, ◌≡◌, List, Option, map, refl, subst}
use Rattle.std.specs.Prelude.{IfSome}
use Rattle.std.specs.String.{string_bytes}
use Rattle.a64_run.specs.declared.command.Command.{Command}
use Rattle.a64_run.specs.declared.ran.Fault.{Fault}
use Rattle.a64_run.specs.Answering.{Answers}
use Rattle.a64_run.specs.Commands.{IsCommand}
use Rattle.a64_run.specs.Run.{Kept}
use Rattle.a64_run.proofs.running.run_words.Goals as goal

-- the same commands may be asked for in other words
asked_answers : {S K : Type 0} {left : S → Option (List ℕ)} {read_faults : S → ℕ} {taken : K → Option (List ℕ)} {write_faults : K → ℕ} {source source' : S} {sink sink' : K} {asked asked' : Command → Type 0} {kept : Kept} {fault : Option Fault}
    → ((command : Command) → asked' command → asked command) → ((command : Command) → asked command → asked' command)
    → Answers left read_faults taken write_faults source source' sink sink' asked kept fault → Answers left read_faults taken write_faults source source' sink sink' asked' kept fault
asked_answers from to answers = record {
  keeps = λ command is. answers.keeps command (from command is);
  nothing = answers.nothing;
  usage = (λ e command is. answers.usage.0 e command (from command is), λ none. answers.usage.1 (λ command is. none command (to command is)));
  read = answers.read;
  reads = answers.reads;
  held = λ command is. answers.held command (from command is);
  write = answers.write;
  writes = answers.writes;
  due = λ command is. answers.due command (from command is);
  few = answers.few;
  unread = λ none. answers.unread (λ command is. none command (to command is));
  untouched = answers.untouched;
}

pub returns-in-Some : goal.returns-in-Some
returns-in-Some g c =
    asked_answers
    (λ other is. subst (λ o. IfSome o (λ k. c.in-Some.command ≡ k)) (c.in-Some.ensures.only other is) refl)
    (λ other same. subst (IsCommand (map string_bytes c.args.words.now)) same c.in-Some.ensures.some)
    c.run_command.ensures
