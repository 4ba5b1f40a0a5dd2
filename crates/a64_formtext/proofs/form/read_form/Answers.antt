use Rattle.std.proofs.Common.{List, ℕ, Option, refl, length, sym, ap, ◌∙◌, subst}
use Rattle.std.specs.Prelude.{option_map}
use Rattle.a64_formtext.proofs.Readings.{ReadsFields, cut_tokens, fit_long}
use Rattle.a64_formtext.proofs.FormReads.{no_row, no_fields, limits_missed, is_form}
use Rattle.a64_formtext.specs.Tokens.{space_tokens}
use Rattle.a64_tokens.specs.Splitting.{of_text}
use Rattle.a64_rows.specs.RowLimits.{limits_of}
use Rattle.a64_rows.specs.Rows.{fields_of}
use Rattle.a64_rows.proofs.Table.{fields_long}
use Rattle.a64_formtext.proofs.form.read_form.Goals as goal

pub returns-in_default : goal.returns-in_default
returns-in_default c =
    no_row c.args.text.now c.cut.result.0.now (of_text space_tokens c.cut.result.1) c.named.result (cut_tokens c.args.text.now c.cut.result.0.now c.cut.result.1 c.cut.ensures) c.named.ensures.only c.in_default.is

pub returns-in_default-read_fields : goal.returns-in_default-read_fields
returns-in_default-read_fields c =
    no_fields c.args.text.now c.cut.result.0.now (of_text space_tokens c.cut.result.1) c.named.result (cut_tokens c.args.text.now c.cut.result.0.now c.cut.result.1 c.cut.ensures) c.named.ensures.only
    c.in-Some.row c.in-Some.is c.in-Some.ensures.some _ c.read_fields.ensures (ap (option_map (λ values. values.items)) c.in_default-read_fields.is)

pub meets-requires : goal.meets-requires
meets-requires c =
    let r = subst (λ (o : Option (List ℕ)). ReadsFields (fields_of c.in-Some.row) (of_text space_tokens c.cut.result.1) o) (ap (option_map (λ values. values.items)) c.in-Some-read_fields.is) c.read_fields.ensures in
    ap (λ (l : List ℕ). length l) c.as_slice.ensures.value ∙ fit_long (fields_of c.in-Some.row) c.in-Some-read_fields.fields.items r.some.0 ∙ fields_long (fields_of c.in-Some.row) c.in-Some.row refl

pub returns-then-not-meets : goal.returns-then-not-meets
returns-then-not-meets c =
    limits_missed c.args.text.now c.cut.result.0.now (of_text space_tokens c.cut.result.1) c.named.result (cut_tokens c.args.text.now c.cut.result.0.now c.cut.result.1 c.cut.ensures) c.named.ensures.only
    c.in-Some.row c.in-Some.is c.in-Some.ensures.some _ c.read_fields.ensures
    c.in-Some-read_fields.fields.items (ap (option_map (λ values. values.items)) c.in-Some-read_fields.is)
    (ap (limits_of c.in-Some.row) (sym c.as_slice.ensures.value) ∙ sym c.meets.ensures ∙ c.if-not-meets.true)

pub returns : goal.returns
returns c =
    is_form c.args.text.now c.cut.result.0.now (of_text space_tokens c.cut.result.1) c.named.result (cut_tokens c.args.text.now c.cut.result.0.now c.cut.result.1 c.cut.ensures) c.named.ensures.only
    c.in-Some.row c.in-Some.is c.in-Some.ensures.some _ c.read_fields.ensures
    c.in-Some-read_fields.fields.items (ap (option_map (λ values. values.items)) c.in-Some-read_fields.is)
    (ap (limits_of c.in-Some.row) (sym c.as_slice.ensures.value) ∙ sym c.meets.ensures ∙ c.if-not-meets.false)
