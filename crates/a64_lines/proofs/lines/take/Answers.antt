use Rattle.std.proofs.Common.{sym, ap, ◌∙◌}
use Rattle.a64_lines.proofs.Chains.{nothing_else}
use Rattle.a64_lines.proofs.lines.take.Goals as goal
use Rattle.a64_tokens.specs.Splitting.{is_blank}

pub returns-then-is_blank : goal.returns-then-is_blank
returns-then-is_blank g c =
    nothing_else g.L.Lines.says c.args.line.now _ (ap is_blank c.requires ∙ sym c.is_blank.ensures ∙ c.if-is_blank.true)
