use Rattle.a64_run.proofs.Ending.{written_ends, refused_ends}
use Rattle.a64_run.proofs.running.run_input.Goals as goal

pub returns-in-Ok-clause-ends : goal.returns-in-Ok-clause-ends
returns-in-Ok-clause-ends g c =
    written_ends c.args.command (g.K.Sink.taken c.args.sink.now) (g.K.Sink.taken c.write_made.new.sink) c.args.input c.in-Ok.made
    c.write_made.result.fault c.write_made.result.product c.in-Ok.ensures.ok c.write_made.ensures.ends

pub returns-in-Err-clause-ends : goal.returns-in-Err-clause-ends
returns-in-Err-clause-ends g c =
    let k = refused_ends c.args.command (g.K.Sink.taken c.args.sink.now) c.args.input c.in-Err.fault c.in-Err.ensures.err in
    rw (c.refused.ensures.fault, c.refused.ensures.product) k
