use Rattle.a64_stream.specs.Uses.{HasUses}
use Rattle.a64_stream.proofs.uses.add_uses.Given as goal

abbrev pub invariant-loop-number : goal.invariant-loop-number
invariant-loop-number l = HasUses l.count l.number l.number l.buffer
