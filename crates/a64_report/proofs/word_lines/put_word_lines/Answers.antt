use Rattle.std.proofs.Common.{◌≡◌, ℕ, List, ◌++◌, ◌<◌, rules, ap, ◌∙◌, arith, ◌+◌, add-zero, drop, length, get_or}
use Rattle.std.specs.List.{flat_map, enumerate_from}
use Rattle.a64_report.specs.Report.{word_line}
use Rattle.a64_report.proofs.Numbered.{lines_left}
use Rattle.a64_report.proofs.Gathering.{front_start, front_more, front_cut, on_err}
use Rattle.a64_report.proofs.word_lines.put_word_lines.Goals as goal

-- the lines that are left
left : (words : List ℕ) (from i : ℕ) → i < length words
    → flat_map word_line (enumerate_from (from + i) (drop i words)) ≡ word_line (from + i, get_or words i 0) ++ flat_map word_line (enumerate_from (from + (i + 1)) (drop (i + 1) words))
left words from i within =
    let next : from + i + 1 ≡ from + (i + 1) = omega arith in
    lines_left word_line (from + i) words i 0 within
    ∙ ap (λ n. word_line (from + i, get_or words i 0) ++ flat_map word_line (enumerate_from n (drop (i + 1) words))) next

pub loop-index-init : goal.loop-index-init
loop-index-init g c = rw (add-zero c.args.from) (front_start _ _ _ _)

pub loop-index-preserved : goal.loop-index-preserved
loop-index-preserved g c =
    let words = c.args.words.now in
    let from = c.args.from in
    let i = c.loop-index.index in
    front_more (flat_map word_line (enumerate_from (from + (i + 1)) (drop (i + 1) words))) c.loop-index.invariant
    (rw (c.text_from.ensures, c.compose_word-start.ensures.text) at c.in_ok-put.ensures.puts.ok)
    (left words from i c.loop-index-test.true)

pub returns-in_err-put : goal.returns-in_err-put
returns-in_err-put g c =
    let words = c.args.words.now in
    let from = c.args.from in
    let i = c.loop-index.index in
    record {
      ok = search rules;
      err =
          on_err c.from_residual.result
          (front_cut (flat_map word_line (enumerate_from (from + (i + 1)) (drop (i + 1) words))) c.loop-index.invariant
          (rw (c.text_from.ensures, c.compose_word-start.ensures.text) at c.in_err-put.ensures.puts.err)
          (left words from i c.loop-index-test.true));
    }
