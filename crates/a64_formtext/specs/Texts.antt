-- The texts of forms: the row's name, and each field by its name and its number.
use Rattle.std.specs.Prelude.{ℕ, List, [], ◌∷◌, ◌++◌, codes}
use Rattle.std.specs.Fmt.{decimal}
use Rattle.a64_rows.specs.declared.words.Form.{Form}
use Rattle.a64_rows.specs.Fields.{text_of}
use Rattle.a64_rows.specs.Forms as Forms
use Rattle.a64_rows.specs.Rows.{Field, fields_of, name_of}

-- a form by its values alone
abbrev pub values_of : Form → Forms.Form
values_of form = Forms.form form.row form.fields.items

-- each field behind a space: its name, an equals sign, and its number
abbrev pub fields_text : List Field → List ℕ → List ℕ
fields_text (field ∷ fields) (value ∷ values) =
    codes " " ++ text_of field.0 ++ codes "=" ++ decimal value ++ fields_text fields values
fields_text _ _ = []

-- the text of a form
abbrev pub form_text : Forms.Form → List ℕ
form_text form = name_of form.row ++ fields_text (fields_of form.row) form.fields
