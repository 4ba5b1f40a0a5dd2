use Rattle.std.proofs.Common.{sym, subst, Option}
use Rattle.a64_text.specs.declared.entry.OnceName.{OnceName}
use Rattle.a64_text.specs.AddsLine.{AddsName}
use Rattle.a64_text.proofs.Givens.{adds_name}
use Rattle.a64_text.proofs.read.add_name.Goals as goal

pub returns-in_ok-insert-in-Some : goal.returns-in_ok-insert-in-Some
returns-in_ok-insert-in-Some c =
    let insert = c.in_ok-insert-in-Some in
    subst (λ (n : Option OnceName). AddsName c.args.given.now c.insert.new.self n insert.field-0) (sym c.in-Some.is) (adds_name c.args.given.now c.insert.new.self c.in-Some.name insert.field-0 insert.ensures.added insert.ensures.updates)
