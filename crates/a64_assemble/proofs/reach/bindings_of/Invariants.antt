use Rattle.std.proofs.Common.{take}
use Rattle.a64_assemble.specs.Tally.{HasBindings}
use Rattle.a64_assemble.proofs.reach.bindings_of.Given as goal

-- the items so far bind these labels
abbrev pub invariant-loop-index : goal.invariant-loop-index
invariant-loop-index l = HasBindings (take l.index l.items) l.bindings
