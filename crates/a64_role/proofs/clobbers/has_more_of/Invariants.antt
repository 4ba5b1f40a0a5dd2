use Rattle.std.proofs.Common.{ℕ, ◌≡◌, ◌<◌, true}
use Rattle.a64_base.specs.Sets.{has_number}
use Rattle.a64_role.proofs.clobbers.has_more_of.Given as goal

-- the other set has each register so far that the set has
abbrev pub invariant-loop-number : goal.invariant-loop-number
invariant-loop-number l = (n : ℕ) → n < l.number → has_number l.set l.class n ≡ true → has_number l.other l.class n ≡ true
