use Rattle.a64_run.proofs.Inputs.{input_ok, input_held, input_due_ok, input_due_err, input_cause, text_due}
use Rattle.a64_run.proofs.input.read_input.Goals as goal

pub returns-in-Ok-clause-ok : goal.returns-in-Ok-clause-ok
returns-in-Ok-clause-ok g c =
    let p = rw c.deref.ensures.value at c.parse.ensures in
    input_ok c.args.format (g.S.Source.left c.args.source.now) (g.S.Source.left c.read_text.new.source) c.in-Ok.bytes.items c.parse.result c.in-Ok.ensures.ok p

pub returns-in-Ok-clause-held : goal.returns-in-Ok-clause-held
returns-in-Ok-clause-held g c =
    let p = rw c.deref.ensures.value at c.parse.ensures in
    input_held c.args.format (g.S.Source.left c.args.source.now) (g.S.Source.left c.read_text.new.source) c.in-Ok.bytes.items c.parse.result c.in-Ok.ensures.ok p

pub returns-in-Ok-clause-due_ok : goal.returns-in-Ok-clause-due_ok
returns-in-Ok-clause-due_ok g c =
    let p = rw c.deref.ensures.value at c.parse.ensures in
    input_due_ok c.args.format (g.S.Source.left c.args.source.now) (g.S.Source.left c.read_text.new.source) c.in-Ok.bytes.items c.parse.result c.in-Ok.ensures.ok p

pub returns-in-Ok-clause-due_err : goal.returns-in-Ok-clause-due_err
returns-in-Ok-clause-due_err g c =
    let p = rw c.deref.ensures.value at c.parse.ensures in
    input_due_err c.args.format (g.S.Source.left c.args.source.now) (g.S.Source.left c.read_text.new.source) c.in-Ok.bytes.items c.parse.result c.in-Ok.ensures.ok p

pub returns-in-Ok-clause-cause : goal.returns-in-Ok-clause-cause
returns-in-Ok-clause-cause g c =
    input_cause c.args.format (g.S.Source.faults c.args.source.now) (g.S.Source.faults c.read_text.new.source) c.deref.result.now c.parse.result c.in-Ok.ensures.steady c.parse.ensures

pub returns-in-Err-clause-due_err : goal.returns-in-Err-clause-due_err
returns-in-Err-clause-due_err g c =
    text_due c.args.format (g.S.Source.left c.args.source.now) (g.S.Source.faults c.args.source.now) (g.S.Source.faults c.read_text.new.source) c.in-Err.fault c.in-Err.ensures.cause (c.in-Err.ensures.held c.args.format)

pub returns-in-Err-clause-held : goal.returns-in-Err-clause-held
returns-in-Err-clause-held g c = c.in-Err.ensures.held c.args.format
