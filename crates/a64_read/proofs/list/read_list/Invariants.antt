use Rattle.std.proofs.Common.{length}
use Rattle.a64_tokens.specs.Splitting.{of_text}
use Rattle.a64_read.proofs.Lists.{Listing}
use Rattle.a64_read.proofs.list.read_list.Given as goal

abbrev pub invariant-loop-rest : goal.invariant-loop-rest
invariant-loop-rest g l = Listing g.T.Listed.text g.T.Listed.fits (g.T.Listed.tokens l.fn.token) l.items (of_text g.T.Listed.tokens l.rest)

abbrev pub decreases-loop-rest : goal.decreases-loop-rest
decreases-loop-rest g l = length (of_text g.T.Listed.tokens l.rest)
