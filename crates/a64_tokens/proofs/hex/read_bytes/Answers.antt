use Rattle.std.proofs.Common.{sym, ◌∙◌}
use Rattle.std.proofs.lemmas.Bool.{eqb-true, false≢true, eq-eqb}
use Rattle.a64_tokens.proofs.Bytes.{goes_on, stops, ends, breaks}
use Rattle.a64_tokens.proofs.hex.read_bytes.Goals as goal

pub returns-in_default-byte_of : goal.returns-in_default-byte_of
returns-in_default-byte_of c = stops c.args.token.now c.loop-rest.bytes c.loop-rest.rest.now c.loop-rest.invariant c.in-len2-up.len_at_least c.byte_of.result c.in_default-byte_of.is c.byte_of.ensures

pub loop-rest-preserved : goal.loop-rest-preserved
loop-rest-preserved c = rw c.in_ok-push.ensures.ok (goes_on c.args.token.now c.loop-rest.bytes c.loop-rest.rest.now c.loop-rest.invariant c.in-len2-up.len_at_least c.byte_of.result c.in-Some.byte c.in-Some.is c.byte_of.ensures)

pub returns-then-is_empty : goal.returns-then-is_empty
returns-then-is_empty c = ends c.args.token.now c.loop-rest.bytes c.loop-rest.rest.now c.loop-rest.invariant (eqb-true _ 0 (sym c.is_empty.ensures ∙ c.if-is_empty.true))

pub returns-else-is_empty : goal.returns-else-is_empty
returns-else-is_empty c = breaks c.args.token.now c.loop-rest.bytes c.loop-rest.rest.now c.loop-rest.invariant c.in_default.len_below (λ none. false≢true (sym c.if-is_empty.false ∙ c.is_empty.ensures ∙ eq-eqb _ 0 none))
