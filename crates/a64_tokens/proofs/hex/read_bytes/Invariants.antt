use Rattle.std.proofs.Common.{length}
use Rattle.a64_tokens.proofs.Bytes.{Leads}
use Rattle.a64_tokens.proofs.hex.read_bytes.Given as goal

abbrev pub invariant-loop-rest : goal.invariant-loop-rest
invariant-loop-rest l = Leads l.token l.bytes l.rest

abbrev pub decreases-loop-rest : goal.decreases-loop-rest
decreases-loop-rest l = length l.rest
