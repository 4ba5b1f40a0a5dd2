use Rattle.std.proofs.Common.{pos, negsuc, ◌<ℤ◌, ◌≤ℤ◌, ◌^◌, sym, arith}
use Rattle.std.proofs.lemmas.Int.{ints}
use Rattle.a64_audit.proofs.branches.branch_target.Goals as goal

pub returns-clause-is : goal.returns-clause-is
returns-clause-is c =
    let offset = c.in_ok-offset.offset in
    let low : negsuc (2 ^ 25) ≤ℤ offset = c.in_ok-offset.ensures.near.0 in
    let high : offset <ℤ pos (2 ^ 25) = c.in_ok-offset.ensures.near.1 in
    let from = c.from.ensures in
    (offset, sym c.in_ok-offset.ensures.is, omega (arith, ints))
