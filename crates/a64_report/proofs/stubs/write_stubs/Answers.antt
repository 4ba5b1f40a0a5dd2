use Rattle.std.proofs.Common.{[], refl, rules, sym, append-nil}
use Rattle.std.proofs.lemmas.Result.{on_ok_weaker, on_err_weaker}
use Rattle.a64_report.specs.Report.{words_text}
use Rattle.a64_report.proofs.Gathering.{front_start, front_more, front_cut, all_put, puts_taken, puts_part, on_err}
use Rattle.a64_report.proofs.stubs.write_stubs.Goals as goal

pub returns-in_err-put_word_lines : goal.returns-in_err-put_word_lines
returns-in_err-put_word_lines g c =
    let words = words_text c.args.words.now in
    let first = front_more words (front_start _ _ _ _) (rw c.requires at c.in_ok-put_stubs.ensures.ok) refl in
    record {
      all = search rules;
      part = on_err c.from_residual-in_err-put_word_lines.result (front_cut [] first c.in_err-put_word_lines.ensures.err (sym (append-nil words))).part;
      steady = search rules;
      cause = search rules;
    }

pub returns : goal.returns
returns g c =
    let words = words_text c.args.words.now in
    let first = front_more words (front_start _ _ _ _) (rw c.requires at c.in_ok-put_stubs.ensures.ok) refl in
    let both = all_put (front_more [] first c.in_ok-put_word_lines.ensures.ok (sym (append-nil words))) refl in
    record {
      all = on_ok_weaker c.flush.result (puts_taken _ _ _ _ _ _ _ both) c.flush.ensures.writes.all;
      part = on_err_weaker c.flush.result (puts_part _ _ _ _ _ _ _ both) c.flush.ensures.writes.part;
      steady = search rules;
      cause = search rules;
    }
