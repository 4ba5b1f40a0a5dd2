use Rattle.std.proofs.Common.{List, ℕ, ap, subst, ◌∙◌, arith}
use Rattle.a64_lines.proofs.Chains.{Progress, goes_on, ends, stops, few_lines, cut_lines, at_line, is_first}
use Rattle.a64_lines.proofs.lines.read_lines.Goals as goal
use Rattle.a64_tokens.specs.Splitting.{lines_of, first_line, lines_behind, of_text}
use Rattle.a64_tokens.proofs.Splits.{lines_whole}

pub overflow_add-number : goal.overflow_add-number
overflow_add-number g c =
    let t = g.L.Lines in
    let text = c.in-Some.text in
    let start = t.told c.args.lines.now in
    let p = subst (λ (l : List (List ℕ)). Progress t.says start (lines_of c.args.bytes.now) l c.loop-rest.number (t.told c.loop-rest.lines)) (ap (of_text lines_of) c.in-Some.is ∙ lines_whole text.now) c.loop-rest.invariant in
    omega (arith, few_lines t.says start c.args.bytes.now (first_line text.now) (lines_behind text.now) c.loop-rest.number (t.told c.loop-rest.lines) p)

pub take-requires : goal.take-requires
take-requires g c = is_first c.in-Some.text.now c.cut.result.0.now (of_text lines_of c.cut.result.1) (cut_lines c.in-Some.text.now c.cut.result.0.now c.cut.result.1 c.cut.ensures)

pub returns-then-not-branch : goal.returns-then-not-branch
returns-then-not-branch g c =
    let t = g.L.Lines in
    let text = c.in-Some.text in
    let line = c.cut.result.0.now in
    let behind = c.cut.result.1 in
    let start = t.told c.args.lines.now in
    let old = t.told c.loop-rest.lines in
    let p = at_line t.says start c.args.bytes.now c.loop-rest.rest behind text line c.loop-rest.number old c.loop-rest.invariant c.in-Some.is (cut_lines text.now line behind c.cut.ensures) in
    stops t.says start c.args.bytes.now line (of_text lines_of behind) c.loop-rest.number old (t.told c.take.new.lines) p (rw c.if-not-branch.true at c.in_ok-take.ensures)

pub loop-rest-preserved : goal.loop-rest-preserved
loop-rest-preserved g c =
    let t = g.L.Lines in
    let text = c.in-Some.text in
    let line = c.cut.result.0.now in
    let behind = c.cut.result.1 in
    let start = t.told c.args.lines.now in
    let old = t.told c.loop-rest.lines in
    let p = at_line t.says start c.args.bytes.now c.loop-rest.rest behind text line c.loop-rest.number old c.loop-rest.invariant c.in-Some.is (cut_lines text.now line behind c.cut.ensures) in
    goes_on t.says start (lines_of c.args.bytes.now) line (of_text lines_of behind) c.loop-rest.number old (t.told c.take.new.lines) p (rw c.if-not-branch.false at c.in_ok-take.ensures)

pub returns : goal.returns
returns g c =
    let t = g.L.Lines in
    let start = t.told c.args.lines.now in
    let told = t.told c.loop-rest.lines in
    ends t.says start c.args.bytes.now c.loop-rest.number told (subst (λ (l : List (List ℕ)). Progress t.says start (lines_of c.args.bytes.now) l c.loop-rest.number told) (ap (of_text lines_of) c.in_default.is) c.loop-rest.invariant)
