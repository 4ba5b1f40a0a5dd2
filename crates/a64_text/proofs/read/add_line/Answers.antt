use Rattle.std.proofs.Common.{Bool, true, false, subst, ◌∙◌}
use Rattle.a64_text.specs.AddsLine.{AddsNamed}
use Rattle.a64_text.proofs.NamedLines.{lines_read, named_added, named_refused, none_read}
use Rattle.a64_text.proofs.read.add_line.Goals as goal

pub returns-in_default : goal.returns-in_default
returns-in_default c = none_read c.args.text c.args.state.now c.after_restore-behind.result c.unwrap_or.result c.after_restore-behind.ensures c.unwrap_or.ensures (rw c.in_default.is at c.read_line.ensures.read)

pub returns-then-branch : goal.returns-then-branch
returns-then-branch c =
    let behind = c.after_restore-behind in
    let adds : AddsNamed c.is_some.result c.in-Some.name c.as_slice.result.now c.args.state.now c.add_named.new.state true =
    subst (λ (b : Bool). AddsNamed c.is_some.result c.in-Some.name c.as_slice.result.now c.args.state.now c.add_named.new.state b) c.if-branch.true c.in_ok-add_named.ensures in (
      named_added c.args.text c.args.state.now c.add_named.new.state c.in-Some.name c.read_line.new.values.items c.as_slice.result.now c.as_slice.ensures.value behind.result c.unwrap_or.result c.is_some.result behind.ensures c.unwrap_or.ensures c.is_some.ensures c.in-Some.ensures.read adds,
      c.in-Some.ensures.lines ∙ lines_read c.args.text behind.result c.unwrap_or.result behind.ensures c.unwrap_or.ensures,
    )

pub returns-else-branch : goal.returns-else-branch
returns-else-branch c =
    let behind = c.after_restore-behind in
    let adds : AddsNamed c.is_some.result c.in-Some.name c.as_slice.result.now c.args.state.now c.add_named.new.state false =
    subst (λ (b : Bool). AddsNamed c.is_some.result c.in-Some.name c.as_slice.result.now c.args.state.now c.add_named.new.state b) c.if-branch.false c.in_ok-add_named.ensures in
    named_refused c.args.text c.args.state.now c.add_named.new.state c.in-Some.name c.read_line.new.values.items c.as_slice.result.now c.as_slice.ensures.value behind.result c.unwrap_or.result c.is_some.result behind.ensures c.unwrap_or.ensures c.is_some.ensures c.in-Some.ensures.read adds
