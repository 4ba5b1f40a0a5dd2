use Rattle.std.proofs.Common.{◌≡◌}
use Rattle.a64_buffer.specs.declared.force.ForceVeneers.{ForceVeneers}
use Rattle.a64_emit.specs.Reach.{is_quiet}
use Rattle.a64_assemble.proofs.FarUses.{far_rest}
use Rattle.a64_assemble.proofs.reach.check_uses.Given as goal

-- the first use that may be too far of the items that are left is that of all
abbrev pub invariant-loop-index : goal.invariant-loop-index
invariant-loop-index l = (force : ForceVeneers) → l.quiet ≡ is_quiet l.frame l.info force l.items → far_rest l.frame l.info force l.items l.index ≡ far_rest l.frame l.info force l.items 0
