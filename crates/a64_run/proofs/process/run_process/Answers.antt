use Rattle.std.proofs.Common.{rules, ℕ, ◌≡◌, List, Option, None, Some, refl, inl, arith}
use Rattle.std.specs.IoError.{error_kind}
use Rattle.std.specs.declared.io.ErrorKind.TheVariants.{InvalidData}
use Rattle.a64_run.specs.declared.ran.Fault.TheVariants as faults
use Rattle.a64_run.specs.Answering.{Answers}
use Rattle.a64_run.specs.Run.{nothing_kept, TakesFew}
use Rattle.a64_run.proofs.process.run_process.Goals as goal

none_taken : (left : Option (List ℕ)) → TakesFew left left
none_taken None = tt
none_taken (Some text) = (0, omega arith, refl)

-- where no command is asked for, nothing is done
none_asked : {S K : Type 0} (left : S → Option (List ℕ)) (read_faults : S → ℕ) (taken : K → Option (List ℕ)) (write_faults : K → ℕ) (source : S) (sink : K)
    → Answers left read_faults taken write_faults source source sink sink (λ command. ⊥) nothing_kept (Some faults.Usage)
none_asked left read_faults taken write_faults source sink = record {
  keeps = λ command none. absurd none;
  nothing = λ e. refl;
  usage = (λ e command none. none, λ none. refl);
  read = λ e. absurd cc;
  reads = inl refl;
  held = λ command none. absurd none;
  write = λ e. absurd cc;
  writes = inl refl;
  due = λ command none. absurd none;
  few = none_taken (left source);
  unread = λ none. refl;
  untouched = refl;
}

-- what is no text asks for no command
pub returns-in-Err-clause-err : goal.returns-in-Err-clause-err
returns-in-Err-clause-err g c =
    let kind_is : error_kind c.in-Err.error ≡ InvalidData = search rules in
    rw c.in-Err.is
    (record {
      no_text = λ same. record {
        kept = nothing_kept;
        fault = Some faults.Usage;
        answers = none_asked g.S.Source.left g.S.Source.faults g.K.Sink.taken g.K.Sink.faults c.args.source.now c.args.sink.now;
        tells = c.end_by.ensures.tells;
        status_is = c.end_by.ensures.status;
      };
      other = λ other. absurd (other kind_is);
    })
