use Rattle.std.proofs.Common.{◌≡◌, refl, ap, ℕ, List, [], Option, None, Some, drop}
use Rattle.a64_page.specs.Answers.{Taken, nothing_taken}
use Rattle.a64_page.specs.declared.collector.Collector.{Collector}
use Rattle.a64_run.specs.declared.command.Command.{Command}
use Rattle.a64_run.specs.declared.ran.Fault.{Fault}
use Rattle.a64_run.specs.Answering.{Answers, TellsFault}
use Rattle.a64_run.specs.Run.{Kept, kept_in}
use Rattle.a64_page.proofs.page.run_over.Goals as goal

-- what is promised of streams is promised of what they hold
answers_over : {S K : Type 0} {asked : Command → Type 0} {kept : Kept} {fault : Option Fault} (text_of : S → List ℕ) (taken_of : K → Taken) (source source' : S) (sink sink' : K)
    → Answers (λ s. Some (text_of s)) (λ s. 0) (λ k. Some (taken_of k).bytes) (λ k. (taken_of k).faults) source source' sink sink' asked kept fault
    → Answers Some (λ text. 0) (λ taken. Some taken.bytes) (λ taken. taken.faults) (text_of source) (text_of source') (taken_of sink) (taken_of sink') asked kept fault
answers_over text_of taken_of source source' sink sink' answers = record {
  keeps = answers.keeps;
  nothing = answers.nothing;
  usage = answers.usage;
  read = answers.read;
  reads = answers.reads;
  held = answers.held;
  write = answers.write;
  writes = answers.writes;
  due = answers.due;
  few = answers.few;
  unread = λ none. ap text_of (answers.unread none);
  untouched = answers.untouched;
}

tells_over : {K : Type 0} {fault : Option Fault} (taken_of : K → Taken) (errs errs' : K)
    → TellsFault (λ k. Some (taken_of k).bytes) (λ k. (taken_of k).faults) errs errs' fault
    → TellsFault (λ taken. Some taken.bytes) (λ taken. taken.faults) (taken_of errs) (taken_of errs') fault
tells_over taken_of errs errs' tells = record {
  silent = λ none. ap taken_of (tells.silent none);
  said = tells.said;
  cut = tells.cut;
  begun = tells.begun;
}

-- the same at a text and a sink that are known
over_whole : {asked : Command → Type 0} {kept : Kept} {fault : Option Fault} {text text' rest : List ℕ} {taken taken' after : Taken}
    → text ≡ text' → taken ≡ taken'
    → Answers Some (λ text. 0) (λ taken. Some taken.bytes) (λ taken. taken.faults) text rest taken after asked kept fault
    → Answers Some (λ text. 0) (λ taken. Some taken.bytes) (λ taken. taken.faults) text' rest taken' after asked kept fault
over_whole same_text same_taken answers = rw (same_text, same_taken) at answers

over_quiet : {fault : Option Fault} {taken taken' after : Taken} → taken ≡ taken'
    → TellsFault (λ taken. Some taken.bytes) (λ taken. taken.faults) taken after fault
    → TellsFault (λ taken. Some taken.bytes) (λ taken. taken.faults) taken' after fault
over_quiet same_taken tells = rw same_taken at tells

abbrev taken_of : Collector → Taken
taken_of sink = record { bytes = sink.bytes.items; faults = sink.faults }

is_nothing : (bytes : List ℕ) (faults : ℕ) → bytes ≡ [] → faults ≡ 0 → record { bytes = bytes; faults = faults } ≡ nothing_taken
is_nothing bytes faults no_bytes no_faults = rw (no_bytes, no_faults) refl

pub returns : goal.returns
returns c =
    let whole : drop c.new-source.result.taken c.new-source.result.bytes.items ≡ c.args.text.items = c.new-source.ensures in
    let empty : taken_of c.new-output.result ≡ nothing_taken = is_nothing _ _ c.new-output.ensures.bytes c.new-output.ensures.faults in
    let quiet : taken_of c.new-line.result ≡ nothing_taken = is_nothing _ _ c.new-line.ensures.bytes c.new-line.ensures.faults in
    record {
      rest = drop c.run-status.new.source.taken c.run-status.new.source.bytes.items;
      failed = c.run-status.new.sink.faults;
      line_failed = c.run-status.new.errs.faults;
      ends = record {
        kept = kept_in c.run-status.result;
        fault = c.run-status.result.fault;
        answers = over_whole whole empty (answers_over (λ source. drop source.taken source.bytes.items) taken_of _ _ _ _ c.run-status.ensures.answers);
        tells = over_quiet quiet (tells_over taken_of _ _ c.run-status.ensures.tells);
        status_is = c.run-status.ensures.status;
      };
    }
