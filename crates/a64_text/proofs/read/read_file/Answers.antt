use Rattle.std.proofs.Common.{arith, None, sym, ◌∙◌}
use Rattle.a64_tokens.specs.Splitting.{lines_of, first_line, lines_behind}
use Rattle.a64_text.proofs.Counts.{items_few}
use Rattle.a64_text.proofs.Lines.{begins, at_line, few_lines, fewer, cut_lines, passes_blank, takes_entry, stops_at, finishes}
use Rattle.a64_text.proofs.read.read_file.Goals as goal

pub loop-rest-init : goal.loop-rest-init
loop-rest-init c = begins (lines_of c.args.bytes.now) c.start_state-state.result c.start_state-state.ensures

pub overflow_add-number : goal.overflow_add-number
overflow_add-number c =
    let text = c.in-Some.text in
    let p = at_line c.args.bytes.now c.loop-rest.rest text c.loop-rest.number c.loop-rest.state c.loop-rest.invariant c.in-Some.is in
    omega (arith, few_lines c.args.bytes.now (first_line text.now) (lines_behind text.now) c.loop-rest.number c.loop-rest.state p)

pub returns-clause-answers : goal.returns-clause-answers
returns-clause-answers c = finishes c.args.bytes.now c.loop-rest.rest c.loop-rest.number c.loop-rest.state c.loop-rest.invariant c.in_default.is

pub loop-rest-preserved-then-is_blank : goal.loop-rest-preserved-then-is_blank
loop-rest-preserved-then-is_blank c =
    let text = c.in-Some.text in
    passes_blank c.args.bytes.now c.loop-rest.rest c.cut.result.1 text c.loop-rest.number c.loop-rest.state c.loop-rest.invariant c.in-Some.is (sym c.is_blank.ensures ∙ c.if-is_blank.true) (cut_lines text.now c.cut.result.0.now c.cut.result.1 c.cut.ensures)

pub loop-rest-smaller : goal.loop-rest-smaller
loop-rest-smaller c = fewer c.loop-rest.rest c.in-Some-2.lines c.in-Some.text c.in-Some.is (rw c.in-Some-2.is at c.in_ok-lines.ensures).1

pub loop-rest-preserved : goal.loop-rest-preserved
loop-rest-preserved c = takes_entry c.args.bytes.now c.loop-rest.rest c.in-Some-2.lines c.in-Some.text c.loop-rest.number c.loop-rest.state c.loop-rest.invariant c.in-Some.is c.add_line.new.state (sym c.is_blank.ensures ∙ c.if-is_blank.false) (rw c.in-Some-2.is at c.in_ok-lines.ensures)

pub returns-in_default-2-clause-answers : goal.returns-in_default-2-clause-answers
returns-in_default-2-clause-answers c = stops_at c.args.bytes.now c.loop-rest.rest None c.in-Some.text c.loop-rest.number c.loop-rest.state c.loop-rest.invariant c.in-Some.is c.add_line.new.state (sym c.is_blank.ensures ∙ c.if-is_blank.false) (rw c.in_default-2.is at c.in_ok-lines.ensures)

pub returns-clause-few : goal.returns-clause-few
returns-clause-few c =
    let answers = finishes c.args.bytes.now c.loop-rest.rest c.loop-rest.number c.loop-rest.state c.loop-rest.invariant c.in_default.is in
    items_few c.args.bytes.now c.loop-rest.state.file answers.ok
