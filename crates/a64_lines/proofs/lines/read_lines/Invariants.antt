use Rattle.std.proofs.Common.{length}
use Rattle.a64_lines.proofs.Chains.{Progress}
use Rattle.a64_lines.proofs.lines.read_lines.Given as goal
use Rattle.a64_tokens.specs.Splitting.{lines_of, of_text}

abbrev pub invariant-loop-rest : goal.invariant-loop-rest
invariant-loop-rest g l = let t = g.L.Lines in Progress t.says (t.told l.fn.lines) (lines_of l.fn.bytes) (of_text lines_of l.rest) l.number (t.told l.lines)

abbrev pub decreases-loop-rest : goal.decreases-loop-rest
decreases-loop-rest g l = length (of_text lines_of l.rest)
