use Rattle.std.proofs.Common.{length}
use Rattle.a64_tokens.specs.Splitting.{lines_of, of_text}
use Rattle.a64_text.proofs.Lines.{Progress}
use Rattle.a64_text.proofs.read.read_file.Given as goal

abbrev pub invariant-loop-rest : goal.invariant-loop-rest
invariant-loop-rest l = Progress (lines_of l.bytes) (of_text lines_of l.rest) l.number l.state

abbrev pub decreases-loop-rest : goal.decreases-loop-rest
decreases-loop-rest l = length (of_text lines_of l.rest)
