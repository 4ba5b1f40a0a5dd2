use Rattle.std.proofs.Common.{rules, refl, sym, Some, ◌≢◌}
use Rattle.a64_run.specs.declared.ran.Fault.TheVariants as faults
use Rattle.a64_run.proofs.Ending.{ends_due, ends_keeps}
use Rattle.a64_run.proofs.running.run_command.Goals as goal

pub returns-in-Ok : goal.returns-in-Ok
returns-in-Ok g c =
    let no_usage : c.run_input.result.fault ≢ Some faults.Usage = search rules in
    record {
      keeps = λ other same.
          let k = ends_keeps c.args.command (g.S.Source.left c.args.source.now) (g.S.Source.left c.input_of.new.source) (g.K.Sink.taken c.args.sink.now) (g.K.Sink.taken c.run_input.new.sink) c.in-Ok.input
          c.run_input.result.fault c.run_input.result.product c.in-Ok.ensures.ok c.run_input.ensures.ends in
          rw (sym same) (c.run_input.result.input, c.run_input.result.product, refl, rw c.run_input.ensures.input k);
      nothing = λ usage. absurd (no_usage usage);
      usage = (λ usage. absurd (no_usage usage), λ none. absurd (none c.args.command refl));
      read = search rules;
      reads = search rules;
      held = λ other same. rw (sym same) (search rules);
      write = search rules;
      writes = search rules;
      due = λ other same.
          rw (sym same)
          (ends_due c.args.command (g.S.Source.left c.args.source.now) (g.S.Source.left c.input_of.new.source) (g.K.Sink.taken c.args.sink.now) (g.K.Sink.taken c.run_input.new.sink) c.in-Ok.input
          c.run_input.result.fault c.run_input.result.product c.requires c.in-Ok.ensures.ok c.in-Ok.ensures.due_ok c.run_input.ensures.ends);
      few = search rules;
      unread = λ none. let unread = none c.args.command refl in search rules;
      untouched = search rules;
    }

pub returns-in-Err : goal.returns-in-Err
returns-in-Err g c =
    let no_usage : c.refused.result.fault ≢ Some faults.Usage = search rules in
    record {
      keeps = λ other same. rw (sym same) (search rules);
      nothing = λ usage. absurd (no_usage usage);
      usage = (λ usage. absurd (no_usage usage), λ none. absurd (none c.args.command refl));
      read = search rules;
      reads = search rules;
      held = λ other same. rw (sym same) (search rules);
      write = search rules;
      writes = search rules;
      due = λ other same. rw (sym same) (search rules);
      few = search rules;
      unread = λ none. let unread = none c.args.command refl in search rules;
      untouched = search rules;
    }
