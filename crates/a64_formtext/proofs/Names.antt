-- The names of rows and of fields have no space, so that a form's text is cut into its tokens again.
use Rattle.std.proofs.Common.{◌≡◌, ℕ, ◌<◌, inl, Bool, true, not, eqb, ltb, ◌&&◌, List, [], ◌∷◌, ◌++◌, refl, sym, ap, ◌∙◌, arith, append_assoc, append-nil}
use Rattle.std.specs.Fmt.{decimal}
use Rattle.std.specs.List.{AllByRecursion, list_any, join_with_byte}
use Rattle.std.proofs.lemmas.Bool.{ltb-true, and_parts, not-true}
use Rattle.a64_formtext.specs.Texts.{fields_text, form_text}
use Rattle.a64_formtext.specs.Tokens.{FitFields, field_token, field_tokens, space_tokens}
use Rattle.a64_formtext.proofs.Readings.{few_bits}
use Rattle.a64_tokens.specs.Fields.{HasNo}
use Rattle.a64_tokens.specs.DigitLaws.{decimal_apart}
use Rattle.a64_tokens.specs.Reads.{IsU32}
use Rattle.a64_tokens.specs.SplitLaws.{neither, split-join}
use Rattle.a64_rows.specs.declared.row_table.Row.{Row}
use Rattle.a64_rows.specs.declared.row_table.Row.TheVariants.{AddSubReg}
use Rattle.a64_rows.specs.Fields.{text_of}
use Rattle.a64_rows.specs.Forms.{Form, form, IsFormOf, width_of}
use Rattle.a64_rows.specs.Order.{all_rows, placed}
use Rattle.a64_rows.specs.Rows.{Field, fields_of, name_of}
use Rattle.a64_rows.proofs.Table.{every, every_at, inside}

-- ---- a byte that stands nowhere

pub none_append : (byte : ℕ) (xs ys : List ℕ) → HasNo byte xs → HasNo byte ys → HasNo byte (xs ++ ys)
none_append byte [] ys h k = k
none_append byte (x ∷ xs) ys h k = let n = neither (eqb x byte) (list_any (λ b. eqb b byte) xs) h in rw (n.0, none_append byte xs ys n.1 k) refl

abbrev pub lacks_byte : ℕ → List ℕ → Bool
lacks_byte byte text = not (list_any (λ b. eqb b byte) text)

-- the names of fields have no such byte, and the fields have fewer than 32 bits
abbrev pub fields_test : ℕ → List Field → Bool
fields_test byte [] = true
fields_test byte (field ∷ fields) = (lacks_byte byte (text_of field.0) && ltb (width_of field.1) 32) && fields_test byte fields

-- nor has the name of the row
abbrev pub names_test : ℕ → Row → Bool
names_test byte row = lacks_byte byte (name_of row) && fields_test byte (fields_of row)

every_row_no_space : every (names_test 32) all_rows ≡ true
every_row_no_space = refl

row_passes : (row : Row) → names_test 32 row ≡ true
row_passes row = rw (placed row).is at (every_at (names_test 32) all_rows (placed row).place AddSubReg every_row_no_space (inside row))

-- ---- the tokens of a form have no space

pub tokens_plain : (byte : ℕ) (fields : List Field) (values : List ℕ) → (byte < 48) → HasNo byte (61 ∷ []) → fields_test byte fields ≡ true → FitFields fields values → AllByRecursion (HasNo byte) (field_tokens fields values)
tokens_plain byte [] values low sign test fits = tt
tokens_plain byte (field ∷ fields) [] low sign test fits = tt
tokens_plain byte (field ∷ fields) (value ∷ values) low sign test fits =
    let all = and_parts (lacks_byte byte (text_of field.0) && ltb (width_of field.1) 32) (fields_test byte fields) test in
    let here = and_parts (lacks_byte byte (text_of field.0)) (ltb (width_of field.1) 32) all.0 in
    let word : IsU32 value = few_bits (width_of field.1) value (ltb-true (width_of field.1) 32 here.1) fits.0 in
    let digits = decimal_apart byte value (inl low) (omega arith) in (
      none_append byte (text_of field.0) (61 ∷ decimal value) (not-true (list_any (λ b. eqb b byte) (text_of field.0)) here.0) (none_append byte (61 ∷ []) (decimal value) sign digits),
      tokens_plain byte fields values low sign all.1 fits.1,
    )

pub form_plain : (form : Form) → IsFormOf form → AllByRecursion (HasNo 32) (name_of form.row ∷ field_tokens (fields_of form.row) form.fields)
form_plain form is =
    let parts = and_parts (lacks_byte 32 (name_of form.row)) (fields_test 32 (fields_of form.row)) (row_passes form.row) in
    (not-true (list_any (λ b. eqb b 32) (name_of form.row)) parts.0, tokens_plain 32 (fields_of form.row) form.fields (omega arith) refl parts.1 is.0)

-- ---- a form's text is its tokens with spaces between

pub field_step : (field : Field) (fields : List Field) (value : ℕ) (values : List ℕ) → fields_text (field ∷ fields) (value ∷ values) ≡ 32 ∷ (field_token (text_of field.0) value ++ fields_text fields values)
field_step field fields value values = ap (λ (t : List ℕ). 32 ∷ (t ++ fields_text fields values)) (append_assoc (text_of field.0) (61 ∷ []) (decimal value))

joined : (front : List ℕ) (fields : List Field) (values : List ℕ) → join_with_byte 32 (front ∷ field_tokens fields values) ≡ front ++ fields_text fields values
joined front [] values = sym (append-nil front)
joined front (field ∷ fields) [] = sym (append-nil front)
joined front (field ∷ fields) (value ∷ values) =
    ap (λ (t : List ℕ). front ++ 32 ∷ t) (joined (field_token (text_of field.0) value) fields values)
    ∙ ap (λ (t : List ℕ). front ++ t) (sym (field_step field fields value values))

pub form_joined : (form : Form) → join_with_byte 32 (name_of form.row ∷ field_tokens (fields_of form.row) form.fields) ≡ form_text form
form_joined form = joined (name_of form.row) (fields_of form.row) form.fields

pub form_tokens : (form : Form) → IsFormOf form → space_tokens (form_text form) ≡ name_of form.row ∷ field_tokens (fields_of form.row) form.fields
form_tokens form is = ap space_tokens (sym (form_joined form)) ∙ split-join 32 (name_of form.row) (field_tokens (fields_of form.row) form.fields) (form_plain form is)
