use Rattle.std.proofs.Common.{take}
use Rattle.a64_tokens.specs.Fields.{HasNo}
use Rattle.a64_tokens.proofs.split.cut.Given as goal

abbrev pub invariant-loop-i : goal.invariant-loop-i
invariant-loop-i l = HasNo l.separator (take l.i l.text)
