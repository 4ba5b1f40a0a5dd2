-- The text of a form, field by field.
use Rattle.std.proofs.Common.{◌≡◌, ℕ, ◌+◌, ◌<◌, Ok, Err, List, ◌∷◌, ◌++◌, length, get_or, drop, refl, sym, ap, ◌∙◌, add-one, append_assoc}
use Rattle.std.specs.Prelude.{Result, OnOk}
use Rattle.std.proofs.Math.Seq.{drop-cons}
use Rattle.a64_formtext.specs.Texts.{fields_text}
use Rattle.a64_formtext.specs.Tokens.{field_token}
use Rattle.a64_formtext.proofs.Names.{field_step}
use Rattle.a64_rows.specs.Fields.{text_of}
use Rattle.a64_rows.specs.Rows.{Field}

-- what follows where it went well
pub also : {A E P Q : Type 0} (result : Result A E) → (P → Q) → OnOk result P → OnOk result Q
also (Ok x) f h = f h
also (Err e) f h = tt

-- what stands from an index on
pub from_index : {A : Type 0} (xs : List A) (i : ℕ) (default : A) → i < length xs → drop i xs ≡ get_or xs i default ∷ drop (i + 1) xs
from_index xs i default inside = drop-cons xs i default inside ∙ rw add-one refl

-- one more field
pub one_more : (text whole : List ℕ) (fields : List Field) (values : List ℕ) (i : ℕ) (default : Field) → i < length fields → i < length values
    → text ++ fields_text (drop i fields) (drop i values) ≡ whole
    → (text ++ 32 ∷ field_token (text_of (get_or fields i default).0) (get_or values i 0)) ++ fields_text (drop (i + 1) fields) (drop (i + 1) values) ≡ whole
one_more text whole fields values i default inside within so_far =
    let field = get_or fields i default in
    let value = get_or values i 0 in
    let fs = drop (i + 1) fields in
    let vs = drop (i + 1) values in
    append_assoc text (32 ∷ field_token (text_of field.0) value) (fields_text fs vs)
    ∙ ap (λ (t : List ℕ). text ++ t) (sym (field_step field fs value vs))
    ∙ ap (λ (l : List Field). text ++ fields_text l (value ∷ vs)) (sym (from_index fields i default inside))
    ∙ ap (λ (l : List ℕ). text ++ fields_text (drop i fields) l) (sym (from_index values i 0 within))
    ∙ so_far
