use Rattle.a64_tokens.specs.Fronts.{IsPlainTo}
use Rattle.a64_tokens.proofs.split.token_end.Given as goal

abbrev pub invariant-loop-i : goal.invariant-loop-i
invariant-loop-i l = IsPlainTo l.text l.i
