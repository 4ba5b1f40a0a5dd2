use Rattle.std.proofs.Common.{◌∷◌, ◌++◌, ◌+◌, ℕ, List, refl, get_or, length, drop, sym, ap, ◌∙◌, arith, append-nil, drop_of_length-le}
use Rattle.std.specs.String.{string_bytes}
use Rattle.a64_formtext.specs.Texts.{fields_text}
use Rattle.a64_formtext.specs.Tokens.{field_token}
use Rattle.a64_formtext.proofs.Prints.{one_more}
use Rattle.a64_formtext.proofs.Readings.{fit_long}
use Rattle.a64_rows.specs.Fields.{text_of}
use Rattle.a64_rows.specs.Rows.{Field, fields_of, no_field}
use Rattle.a64_rows.proofs.Table.{fields_long}
use Rattle.a64_formtext.proofs.form.push_form.Goals as goal

pub field_name-requires : goal.field_name-requires
field_name-requires c =
    let row = c.args.form.now.row in
    let items = c.args.form.now.fields.items in
    let long = fit_long (fields_of row) items c.requires.0 in
    let slots = fields_long (fields_of row) row refl in
    let same = ap (λ (l : List ℕ). length l) c.as_slice-value-items.ensures.value in
    omega (arith, long, slots, same)

pub loop-i-preserved : goal.loop-i-preserved
loop-i-preserved c =
    let row = c.args.form.now.row in
    let items = c.args.form.now.fields.items in
    let i = c.loop-i.i in
    let text = string_bytes c.loop-i.text in
    let long = fit_long (fields_of row) items c.requires.0 in
    let same = ap (λ (l : List ℕ). length l) c.as_slice-value-items.ensures.value in
    let step = c.in_ok-push_field.ensures
    ∙ ap (λ (name : List ℕ). text ++ 32 ∷ field_token name (get_or c.as_slice-value-items.result.now i 0)) c.field_name.ensures
    ∙ ap (λ (values : List ℕ). text ++ 32 ∷ field_token (text_of (get_or (fields_of row) i no_field).0) (get_or values i 0)) c.as_slice-value-items.ensures.value in
    ap (λ (t : List ℕ). t ++ fields_text (drop (i + 1) (fields_of row)) (drop (i + 1) items)) step
    ∙ one_more text _ (fields_of row) items i no_field (omega (arith, long, same)) (omega (arith, same)) c.loop-i.invariant

pub returns : goal.returns
returns c =
    let row = c.args.form.now.row in
    let items = c.args.form.now.fields.items in
    let i = c.loop-i.i in
    let text = string_bytes c.loop-i.text in
    let long = fit_long (fields_of row) items c.requires.0 in
    let same = ap (λ (l : List ℕ). length l) c.as_slice-value-items.ensures.value in
    sym (append-nil text)
    ∙ ap (λ (l : List Field). text ++ fields_text l (drop i items)) (sym (drop_of_length-le (fields_of row) (omega (arith, long, same))))
    ∙ c.loop-i.invariant
