-- What is read of the text of a form.
use Rattle.std.proofs.Common.{◌≡◌, ℕ, true, false, List, ◌∷◌, Option, Some, None, sym, ap, ◌∙◌, subst}
use Rattle.std.specs.List.{join_with_byte}
use Rattle.std.proofs.lemmas.Bool.{both_ways}
use Rattle.std.proofs.lemmas.List.Splits.{join_with_byte-slice_split}
use Rattle.a64_formtext.specs.Texts.{form_text}
use Rattle.a64_formtext.specs.Tokens.{FitFields, field_tokens, space_tokens}
use Rattle.a64_formtext.proofs.Readings.{ReadsFields}
use Rattle.a64_formtext.proofs.Names.{form_joined, form_tokens}
use Rattle.a64_tokens.specs.Reads.{Reads}
use Rattle.a64_tokens.proofs.Splits.{heads}
use Rattle.a64_rows.specs.declared.row_table.Row.{Row}
use Rattle.a64_rows.specs.Forms.{Form, form, IsFormOf}
use Rattle.a64_rows.specs.RowLimits.{limits_of}
use Rattle.a64_rows.specs.Rows.{fields_of, name_of}

module _ (text name : List ℕ) (tokens : List (List ℕ)) (found : Option Row) (cut : space_tokens text ≡ name ∷ tokens) (only : (row : Row) → name_of row ≡ name → found ≡ Some row) where
  -- whose text it may be
  form_parts : (form : Form) → IsFormOf form → text ≡ form_text form → (found ≡ Some form.row) × (tokens ≡ field_tokens (fields_of form.row) form.fields)
  form_parts form is same =
      let both = heads name (name_of form.row) tokens (field_tokens (fields_of form.row) form.fields) (sym cut ∙ ap space_tokens same ∙ form_tokens form is) in
      (only form.row (sym both.0), both.1)

  -- no row has the name
  pub no_row : found ≡ None → Reads IsFormOf form_text text None
  no_row none = record {
    some = tt;
    only = λ form is same. absurd (let e : found ≡ Some form.row = (form_parts form is same).0 in cc);
  }

  module _ (row : Row) (is_row : found ≡ Some row) (named : name_of row ≡ name) (read : Option (List ℕ)) (fields : ReadsFields (fields_of row) tokens read) where
    -- then the values that were read are that form's
    values_read : (form : Form) → IsFormOf form → text ≡ form_text form → (form.row ≡ row) × (read ≡ Some form.fields)
    values_read form is same =
        let parts = form_parts form is same in
        let one : form.row ≡ row = (let e : found ≡ Some form.row = parts.0 in cc) in
        let fit = subst (λ (r : Row). FitFields (fields_of r) form.fields) one is.0 in
        (one, fields.only form.fields fit (parts.1 ∙ ap (λ (r : Row). field_tokens (fields_of r) form.fields) one))

    -- no values were read
    pub no_fields : read ≡ None → Reads IsFormOf form_text text None
    no_fields none = record {
      some = tt;
      only = λ form is same. absurd (let e : read ≡ Some form.fields = (values_read form is same).1 in cc);
    }

    module _ (values : List ℕ) (some : read ≡ Some values) where
      -- these were read
      values_same : (form : Form) → IsFormOf form → text ≡ form_text form → (form.row ≡ row) × (form.fields ≡ values)
      values_same form is same =
          let both = values_read form is same in
          let e : read ≡ Some form.fields = both.1 in
          (both.0, cc)

      -- they miss the limits
      pub limits_missed : limits_of row values ≡ false → Reads IsFormOf form_text text None
      limits_missed missed = record {
        some = tt;
        only = λ form is same. absurd (
            let both = values_same form is same in
            both_ways (limits_of row values) missed (ap (λ (r : Row). limits_of r values) (sym both.0) ∙ ap (limits_of form.row) (sym both.1) ∙ is.1));
      }

      same_form : (other : Form) → (other.row ≡ row) × (other.fields ≡ values) → form row values ≡ other
      same_form other both = ap (λ (r : Row). form r values) (sym both.0) ∙ ap (λ (l : List ℕ). form other.row l) (sym both.1)

      -- they are those of a form
      pub is_form : limits_of row values ≡ true → Reads IsFormOf form_text text (Some (form row values))
      is_form met =
          let r = subst (λ (o : Option (List ℕ)). ReadsFields (fields_of row) tokens o) some fields in
          record {
            some = ((r.some.0, met), sym (join_with_byte-slice_split 32 text) ∙ ap (join_with_byte 32) (cut ∙ ap (λ (l : List ℕ). l ∷ tokens) (sym named) ∙ ap (λ (ts : List (List ℕ)). name_of row ∷ ts) r.some.1) ∙ form_joined (form row values));
            only = λ other is same. ap (λ (f : Form). Some f) (same_form other (values_same other is same));
          }
