use Rattle.std.proofs.Common.{refl, arith}
use Rattle.a64_assemble.specs.LooseUses.{is_load}
use Rattle.a64_assemble.proofs.Tallied.{counts_listed}
use Rattle.a64_assemble.proofs.tally.wait_counts.Goals as goal

pub returns-clause-total : goal.returns-clause-total
returns-clause-total c = λ cells is. omega (arith, c.wait_count.ensures, c.wait_count-2.ensures, counts_listed is_load (λ label. refl) cells c.args.uses is)
