use Rattle.std.proofs.Common.{rules}
use Rattle.std.proofs.lemmas.Result.{on_ok_weaker, on_err_weaker}
use Rattle.a64_report.proofs.Gathering.{puts_taken, puts_part, on_err}
use Rattle.a64_report.proofs.report.write_words.Goals as goal

pub returns-in_err-put_words : goal.returns-in_err-put_words
returns-in_err-put_words g c = record {
  all = search rules;
  part = on_err c.from_residual.result (rw c.requires at c.in_err-put_words.ensures.err.part);
  steady = search rules;
  cause = search rules;
}

pub returns : goal.returns
returns g c = record {
  all = on_ok_weaker c.flush.result (puts_taken _ _ _ _ _ _ _ (rw c.requires at c.in_ok-put_words.ensures.ok)) c.flush.ensures.writes.all;
  part = on_err_weaker c.flush.result (puts_part _ _ _ _ _ _ _ (rw c.requires at c.in_ok-put_words.ensures.ok)) c.flush.ensures.writes.part;
  steady = search rules;
  cause = search rules;
}
