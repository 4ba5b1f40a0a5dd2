use Rattle.std.proofs.Common.{◌+◌, ◌++◌, [], refl, sym, arith, get_or, rules}
use Rattle.std.proofs.lemmas.Result.{on_ok_weaker, on_err_weaker}
use Rattle.a64_report.specs.Report.{word_line}
use Rattle.a64_report.proofs.Gathering.{front_start, front_same, front_more, front_cut, all_put, on_err}
use Rattle.a64_report.proofs.ZeroRuns.{lines_left_from, left_all, left_zero, left_word, left_end}
use Rattle.a64_report.proofs.linked.put_data.Goals.{then-words-index-ne0+in_ok-put_zeros+in_ok-put, else-words-index-ne0}
use Rattle.a64_report.proofs.linked.put_data.Goals as goal

pub loop-index-init : goal.loop-index-init
loop-index-init g c = (front_same (front_start _ _ _ _) (sym (left_all c.args.words.now)), omega arith)

pub loop-index-preserved : goal.loop-index-preserved
loop-index-preserved g c =
    let words = c.args.words.now in
    let from = c.loop-index.from in
    let i = c.loop-index.index in
    let rest = lines_left_from words (i + 1) (i + 1) in
    elim c.if-words-index-ne0.branch [
      | then-words-index-ne0+in_ok-put_zeros+in_ok-put w ↦
          rw (w.sink-is, w.piece-is, w.from-is) (
            front_more rest
                (front_more (word_line (i, get_or words i 0) ++ rest) c.loop-index.invariant.0 w.in_ok-put_zeros.ensures.ok
                (left_word words from i c.loop-index.invariant.1 c.loop-index-test.true w.if-words-index-ne0.true))
                (rw (w.text_from.ensures, w.compose_word-start.ensures.text) at w.in_ok-put.ensures.puts.ok) refl,
            omega arith,
          )
      | else-words-index-ne0 w ↦
          rw (w.sink-is, w.piece-is, w.from-is) (
            front_same c.loop-index.invariant.0 (left_zero words from i c.loop-index.invariant.1 c.loop-index-test.true w.if-words-index-ne0.false),
            omega (arith, c.loop-index.invariant.1),
          )
    ]

pub returns-in_err-put_zeros : goal.returns-in_err-put_zeros
returns-in_err-put_zeros g c =
    let words = c.args.words.now in
    let i = c.loop-index.index in
    let rest = lines_left_from words (i + 1) (i + 1) in
    record {
      ok = search rules;
      err =
          on_err c.from_residual.result
          (front_cut (word_line (i, get_or words i 0) ++ rest) c.loop-index.invariant.0 c.in_err-put_zeros.ensures.err
          (left_word words c.loop-index.from i c.loop-index.invariant.1 c.loop-index-test.true c.if-words-index-ne0.true));
    }

pub returns-in_err-put : goal.returns-in_err-put
returns-in_err-put g c =
    let words = c.args.words.now in
    let i = c.loop-index.index in
    let rest = lines_left_from words (i + 1) (i + 1) in
    record {
      ok = search rules;
      err =
          on_err c.from_residual-in_err-put.result
          (front_cut rest
          (front_more (word_line (i, get_or words i 0) ++ rest) c.loop-index.invariant.0 c.in_ok-put_zeros.ensures.ok
          (left_word words c.loop-index.from i c.loop-index.invariant.1 c.loop-index-test.true c.if-words-index-ne0.true))
          (rw (c.text_from.ensures, c.compose_word-start.ensures.text) at c.in_err-put.ensures.puts.err) refl);
    }

pub returns : goal.returns
returns g c =
    let words = c.args.words.now in
    let end = left_end words c.loop-index.from c.loop-index.index (omega (arith, c.loop-index-test.false)) in
    record {
      ok = on_ok_weaker c.put_zeros-2.result (λ k. all_put (front_more [] c.loop-index.invariant.0 k end) refl) c.put_zeros-2.ensures.ok;
      err = on_err_weaker c.put_zeros-2.result (λ k. front_cut [] c.loop-index.invariant.0 k end) c.put_zeros-2.ensures.err;
    }
