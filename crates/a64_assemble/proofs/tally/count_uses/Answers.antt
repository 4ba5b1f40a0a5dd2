use Rattle.std.proofs.Common.{[], refl, arith}
use Rattle.a64_assemble.specs.Tally.{is_alive, every, same}
use Rattle.a64_assemble.proofs.Tallied.{counts_listed}
use Rattle.a64_assemble.proofs.tally.count_uses.Goals as goal

pub returns-clause-total : goal.returns-clause-total
returns-clause-total c = λ cells is. omega (arith, c.in_ok-first.ensures.total, c.in_ok-second.ensures.total, counts_listed (is_alive every []) (λ label. refl) cells c.args.uses is)

pub returns-clause-labels : goal.returns-clause-labels
returns-clause-labels c = λ cells is n. omega (arith, c.in_ok-first.ensures.labels n, c.in_ok-second.ensures.labels n, counts_listed (is_alive (same n) []) (λ label. refl) cells c.args.uses is)
