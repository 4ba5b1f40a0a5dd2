use Rattle.std.proofs.Common.{rules}
use Rattle.std.proofs.lemmas.Result.{on_ok_weaker, on_err_weaker}
use Rattle.a64_report.proofs.Gathering.{puts_taken, puts_part, on_err}
use Rattle.a64_report.proofs.summary.write_summary.Goals as goal

pub returns-in_err-put : goal.returns-in_err-put
returns-in_err-put g c = record {
  all = search rules;
  part = on_err c.from_residual.result (rw (c.requires, c.text_from.ensures, c.compose_summary-start.ensures.text) at c.in_err-put.ensures.puts.err.part);
  steady = search rules;
  cause = search rules;
}

pub returns : goal.returns
returns g c = record {
  all =
      on_ok_weaker c.flush.result
      (puts_taken _ _ _ _ _ _ _ (rw (c.requires, c.text_from.ensures, c.compose_summary-start.ensures.text) at c.in_ok-put.ensures.puts.ok)) c.flush.ensures.writes.all;
  part =
      on_err_weaker c.flush.result
      (puts_part _ _ _ _ _ _ _ (rw (c.requires, c.text_from.ensures, c.compose_summary-start.ensures.text) at c.in_ok-put.ensures.puts.ok)) c.flush.ensures.writes.part;
  steady = search rules;
  cause = search rules;
}
