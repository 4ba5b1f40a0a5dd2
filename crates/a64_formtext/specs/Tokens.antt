-- The texts of forms, cut at spaces: the row's name, and a token for each field.
use Rattle.std.specs.Prelude.{ℕ, ◌==◌, ◌<◌, ◌^◌, List, [], ◌∷◌, ◌++◌, map}
use Rattle.std.specs.Fmt.{decimal}
use Rattle.std.specs.List.{slice_split}
use Rattle.a64_rows.specs.Fields.{text_of}
use Rattle.a64_rows.specs.Forms.{FitSlots}
use Rattle.a64_rows.specs.Rows.{Field}

-- a text, cut at each space
abbrev pub space_tokens : List ℕ → List (List ℕ)
space_tokens text = slice_split (λ b. b == 32) text

-- the value of a field with this many bits
abbrev pub HasBits : ℕ → ℕ → Type 0
HasBits width value = value < 2 ^ width

-- a field: its name, an equals sign, and its number
abbrev pub field_token : List ℕ → ℕ → List ℕ
field_token name value = name ++ 61 ∷ decimal value

-- a token for each field
abbrev pub field_tokens : List Field → List ℕ → List (List ℕ)
field_tokens (field ∷ fields) (value ∷ values) =
    field_token (text_of field.0) value ∷ field_tokens fields values
field_tokens _ _ = []

-- as many values as fields, each within the width of its own
abbrev pub FitFields : List Field → List ℕ → Type 0
FitFields fields values = FitSlots (map (λ f. f.1) fields) values
