use Rattle.std.proofs.Common.{◌≡◌, drop}
use Rattle.a64_emit.specs.ShownFaults.{first_shown_fault, shown_from}
use Rattle.a64_emit.proofs.shown.first_shown_fault.Given as goal

-- the first fault of the items that are left is that of all
abbrev pub invariant-loop-i : goal.invariant-loop-i
invariant-loop-i l = shown_from l.frame l.info l.constants l.i (drop l.i l.items) ≡ first_shown_fault l.frame l.info l.constants l.items
