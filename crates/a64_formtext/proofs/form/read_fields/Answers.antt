use Rattle.std.proofs.Common.{Bor, ◌≡◌, ◌<◌, [], ℕ, List, Option, Some, None, true, false, get_or, length, refl, subst, sym, ap, ◌∙◌, arith}
use Rattle.std.specs.Option.{is_some}
use Rattle.a64_formtext.proofs.Readings.{ReadsField, cut_tokens, width_at, token_of, stops, lacks, goes_on, ends, goes_over}
use Rattle.a64_formtext.specs.Tokens.{space_tokens}
use Rattle.a64_tokens.specs.Splitting.{of_text}
use Rattle.a64_tokens.specs.TokenLaws.{some_token}
use Rattle.a64_rows.specs.Rows.{fields_of, no_field}
use Rattle.a64_rows.proofs.Table.{field_in_word, fields_long}
use Rattle.a64_formtext.proofs.form.read_fields.Goals as goal

pub returns-in_default : goal.returns-in_default
returns-in_default c =
    let long = fields_long (fields_of c.args.row) c.args.row refl in
    lacks (fields_of c.args.row) (of_text space_tokens c.args.text) c.loop-i.i c.loop-i.values.items (of_text space_tokens c.loop-i.rest) no_field c.loop-i.invariant (ap (of_text space_tokens) c.in_default.is) (omega arith)

pub read_field-requires : goal.read_field-requires
read_field-requires c =
    let long = fields_long (fields_of c.args.row) c.args.row refl in
    let wide = width_at c.field_at.result (get_or (fields_of c.args.row) c.loop-i.i no_field).1 c.field_at.ensures in
    let narrow = (field_in_word (fields_of c.args.row) c.args.row c.loop-i.i no_field refl (omega arith)).1 in
    rw wide narrow

pub returns-in_default-read_field : goal.returns-in_default-read_field
returns-in_default-read_field c =
    let field = get_or (fields_of c.args.row) c.loop-i.i no_field in
    let long = fields_long (fields_of c.args.row) c.args.row refl in
    let wide = width_at c.field_at.result field.1 c.field_at.ensures in
    let bad = token_of field c.as_bytes-name.result.now c.cut.result.0.now c.field_at.result.width c.read_field.result (c.as_bytes-name.ensures.value ∙ c.field_name.ensures) wide c.read_field.ensures in
    stops (fields_of c.args.row) (of_text space_tokens c.args.text) c.loop-i.i c.loop-i.values.items (of_text space_tokens c.loop-i.rest) no_field c.loop-i.invariant
    c.cut.result.0.now (of_text space_tokens c.cut.result.1) (ap (of_text space_tokens) c.in-Some.is ∙ cut_tokens c.in-Some.text.now c.cut.result.0.now c.cut.result.1 c.cut.ensures) (omega arith)
    (subst (λ (o : Option ℕ). ReadsField field c.cut.result.0.now o) c.in_default-read_field.is bad)

pub loop-i-preserved : goal.loop-i-preserved
loop-i-preserved c =
    let field = get_or (fields_of c.args.row) c.loop-i.i no_field in
    let long = fields_long (fields_of c.args.row) c.args.row refl in
    let wide = width_at c.field_at.result field.1 c.field_at.ensures in
    let good = token_of field c.as_bytes-name.result.now c.cut.result.0.now c.field_at.result.width c.read_field.result (c.as_bytes-name.ensures.value ∙ c.field_name.ensures) wide c.read_field.ensures in
    rw c.push.ensures.items (
    goes_on (fields_of c.args.row) (of_text space_tokens c.args.text) c.loop-i.i c.loop-i.values.items (of_text space_tokens c.loop-i.rest) no_field c.loop-i.invariant
    c.cut.result.0.now (of_text space_tokens c.cut.result.1) c.in-Some-read_field.value (ap (of_text space_tokens) c.in-Some.is ∙ cut_tokens c.in-Some.text.now c.cut.result.0.now c.cut.result.1 c.cut.ensures) (omega arith)
    (subst (λ (o : Option ℕ). ReadsField field c.cut.result.0.now o) c.in-Some-read_field.is good))

some_left : (rest : Option (Bor (List ℕ))) → is_some rest ≡ true → 0 < length (of_text space_tokens rest)
some_left None is = absurd cc
some_left (Some text) is = some_token 32 text.now

none_left : (rest : Option (Bor (List ℕ))) → is_some rest ≡ false → of_text space_tokens rest ≡ []
none_left None is = refl
none_left (Some text) is = absurd cc

pub returns-then-is_some : goal.returns-then-is_some
returns-then-is_some c =
    let long = fields_long (fields_of c.args.row) c.args.row refl in
    goes_over (fields_of c.args.row) (of_text space_tokens c.args.text) c.loop-i.i c.loop-i.values.items (of_text space_tokens c.loop-i.rest) no_field c.loop-i.invariant (omega arith) (some_left c.loop-i.rest (sym c.is_some.ensures ∙ c.if-is_some.true))

pub returns : goal.returns
returns c =
    let long = fields_long (fields_of c.args.row) c.args.row refl in
    ends (fields_of c.args.row) (of_text space_tokens c.args.text) c.loop-i.i c.loop-i.values.items (of_text space_tokens c.loop-i.rest) no_field c.loop-i.invariant (omega arith) (none_left c.loop-i.rest (sym c.is_some.ensures ∙ c.if-is_some.false))
