use Rattle.std.proofs.Common.{◌∙◌, ap, sym, arith}
use Rattle.a64_assemble.specs.Tally.{count_of, same}
use Rattle.a64_assemble.proofs.Tallied.{one_more, use_counts}
use Rattle.a64_assemble.proofs.tally.count_use.Goals as goal

pub returns-clause-labels : goal.returns-clause-labels
returns-clause-labels c = λ n.
    omega (arith, ap (λ m. count_of m n) c.in_ok-insert.ensures.ok, one_more c.args.counts.now c.in-Some.label.0 c.count_of_label-before.result n c.count_of_label-before.ensures, use_counts (same n) c.args.site c.in-Some.label (sym c.used_branch.ensures ∙ c.in-Some.is))
