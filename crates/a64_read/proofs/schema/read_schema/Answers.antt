use Rattle.std.proofs.Common.{◌≡◌, ℕ, List, Option, Some, subst}
use Rattle.a64_tokens.specs.declared.value.Kind.{Kind}
use Rattle.a64_tokens.specs.declared.value.Value.{Value}
use Rattle.a64_tokens.specs.Reads.{Reads}
use Rattle.a64_read.specs.Rows.{AreFields, texts}
use Rattle.a64_tokens.specs.Splitting.{of_text}
use Rattle.a64_read.proofs.Schemas.{headed}
use Rattle.a64_read.proofs.schema.read_schema.Goals as goal

-- what was read for some kinds, told of those that the name has
for_kinds : (fits : Value → Type 0) (ks ls : List Kind) (tokens : List (List ℕ)) (r : Option (List Value)) → ks ≡ ls → Reads (AreFields fits ks) texts tokens r → Reads (AreFields fits ls) texts tokens r
for_kinds fits ks ls tokens r e h = subst (λ (k : List Kind). Reads (AreFields fits k) texts tokens r) e h

pub returns-clause-read : goal.returns-clause-read
returns-clause-read g c =
    let rest = of_text g.L.FieldRow.tokens c.args.text in
    let name = c.in_ok-kinds.name in
    let fits = g.L.FieldRow.fits in
    let kinds_of = g.N.Named.kinds_of in
    let values = c.read_fields.new.values.items in
    let read = for_kinds fits c.in_ok-kinds.kinds.now (kinds_of name) rest (Some values) c.in_ok-kinds.ensures.kinds c.in_ok-left.ensures.read in
    headed g.N.Named.text kinds_of fits c.args.name.now rest name c.in_ok-kinds.ensures.read values read
