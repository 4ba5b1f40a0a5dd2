-- A word is shown as one line, and a line is that of one word.
use Rattle.std.proofs.Common.{◌≡◌, ℕ, suc, ◌+◌, ◌<◌, ◌/◌, ◌%◌, ◌^◌, inl, inr, Bool, true, false, eqb, ltb, nat_lt, ◌&&◌, List, [], ◌∷◌, get_or, refl, sym, ap, ap₂, ◌∙◌, arith}
use Rattle.std.specs.Prelude.{codes, cond, if◌then◌else◌}
use Rattle.std.specs.Fmt.{decimal}
use Rattle.std.specs.Cmp.Lexicographic.{pointwise}
use Rattle.std.proofs.lemmas.Bool.{and_parts, eqb-true, ltb-true}
use Rattle.std.proofs.lemmas.Fmt.{decimal_injective}
use Rattle.std.proofs.lemmas.List.{append_cancel_left}
use Rattle.a64_formtext.specs.Shown.{IsShown, IsOneLine}
use Rattle.a64_formtext.specs.Texts.{form_text}
use Rattle.a64_formtext.specs.Tokens.{FitFields, field_token, field_tokens, space_tokens}
use Rattle.a64_formtext.proofs.Names.{fields_test, form_tokens, lacks_byte}
use Rattle.a64_formtext.proofs.Readings.{few_bits}
use Rattle.a64_formtext.proofs.ShownLines.{no_data, row_name}
use Rattle.a64_tokens.specs.Hex.{hex_digit, hex_word}
use Rattle.a64_tokens.specs.Reads.{IsU32}
use Rattle.a64_tokens.proofs.Splits.{heads}
use Rattle.a64_rows.specs.declared.row_table.Row.{Row}
use Rattle.a64_rows.specs.declared.row_table.Row.TheVariants.{AddSubReg}
use Rattle.a64_rows.specs.Fields.{text_of}
use Rattle.a64_rows.specs.Forms.{Form, form, IsFormOf, row_word, width_of}
use Rattle.a64_rows.specs.Order.{all_rows, placed}
use Rattle.a64_rows.specs.Rows.{Field, fields_of, name_of}
use Rattle.a64_rows.proofs.Matching.{one_form, word_matches}
use Rattle.a64_rows.proofs.Table.{every, every_at, inside, same_place}

-- ---- one line for each word

pub one_line : (word : ℕ) (line other : List ℕ) → IsShown word line → IsShown word other → other ≡ line
one_line word line other (inl a) (inl b) =
    let same = one_form a.form.row a.form.fields word a.is_word b.form.row b.form.fields b.is_word in
    b.text ∙ ap₂ (λ (row : Row) (fields : List ℕ). form_text (form row fields)) same.0 same.1 ∙ sym a.text
one_line word line other (inl a) (inr b) = absurd (b.unmatched a.form.row (word_matches a.form.row a.form.fields word a.is_word))
one_line word line other (inr a) (inl b) = absurd (a.unmatched b.form.row (word_matches b.form.row b.form.fields word b.is_word))
one_line word line other (inr a) (inr b) = b.text ∙ sym a.text

-- ---- no two rows have one name

-- the place of the first row that has a name
abbrev place_named : List ℕ → List Row → ℕ
place_named name [] = 0
place_named name (row ∷ rows) = cond (pointwise eqb (name_of row) name) 0 (suc (place_named name rows))

abbrev place_test : Row → Bool
place_test row = eqb (place_named (name_of row) all_rows) (placed row).place

every_row_found : every place_test all_rows ≡ true
every_row_found = refl

found_at : (row : Row) → place_named (name_of row) all_rows ≡ (placed row).place
found_at row =
    eqb-true (place_named (name_of row) all_rows) (placed row).place
    (rw (placed row).is at (every_at place_test all_rows (placed row).place AddSubReg every_row_found (inside row)))

one_name : (row other : Row) → name_of other ≡ name_of row → other ≡ row
one_name row other same = same_place other row (sym (found_at other) ∙ ap (λ (name : List ℕ). place_named name all_rows) same ∙ found_at row)

-- ---- no two forms have one text

one_value : (name : List ℕ) (value other : ℕ) → IsU32 value → IsU32 other → field_token name other ≡ field_token name value → other ≡ value
one_value name value other fits also same =
    decimal_injective other value (omega (arith, also)) (omega (arith, fits))
    (heads 61 61 (decimal other) (decimal value) (append_cancel_left name (61 ∷ decimal other) (61 ∷ decimal value) same)).1

one_values : (fields : List Field) (values others : List ℕ) → fields_test 10 fields ≡ true → FitFields fields values → FitFields fields others → field_tokens fields others ≡ field_tokens fields values → others ≡ values
one_values [] [] [] test fit also same = refl
one_values [] (value ∷ values) others test fit also same = absurd fit
one_values [] [] (other ∷ others) test fit also same = absurd also
one_values (field ∷ fields) [] others test fit also same = absurd fit
one_values (field ∷ fields) (value ∷ values) [] test fit also same = absurd also
one_values (field ∷ fields) (value ∷ values) (other ∷ others) test fit also same =
    let name = text_of field.0 in
    let width = width_of field.1 in
    let tests = and_parts (lacks_byte 10 name && ltb width 32) (fields_test 10 fields) test in
    let narrow = ltb-true width 32 (and_parts (lacks_byte 10 name) (ltb width 32) tests.0).1 in
    let both = heads (field_token name other) (field_token name value) (field_tokens fields others) (field_tokens fields values) same in
    ap₂ (λ (n : ℕ) (ns : List ℕ). n ∷ ns)
    (one_value name value other (few_bits width value narrow fit.0) (few_bits width other narrow also.0) both.0)
    (one_values fields values others tests.1 fit.1 also.1 both.1)

one_text : (row other : Row) (values others : List ℕ) → other ≡ row → FitFields (fields_of row) values → FitFields (fields_of other) others → field_tokens (fields_of other) others ≡ field_tokens (fields_of row) values → others ≡ values
one_text row other values others one fit also same =
    one_values (fields_of row) values others (row_name row).fields fit (rw one at also) (rw one at same)

one_form_of_text : (a b : Form) → IsFormOf a → IsFormOf b → form_text b ≡ form_text a → (b.row ≡ a.row) × (b.fields ≡ a.fields)
one_form_of_text a b is also same =
    let both = heads (name_of b.row) (name_of a.row) (field_tokens (fields_of b.row) b.fields) (field_tokens (fields_of a.row) a.fields) (sym (form_tokens b also) ∙ ap space_tokens same ∙ form_tokens a is) in
    let one = one_name a.row b.row both.0 in
    (one, one_text a.row b.row a.fields b.fields one is.0 also.0 both.1)

-- ---- no two words have one number in hexadecimal digits

digit_by_half : (a b : ℕ) (low under : Bool) → a < 16 → b < 16 → (if low then 48 + a else 87 + a) ≡ (if under then 48 + b else 87 + b) → a ≡ b
digit_by_half a b true true few also same = omega (arith, same)
digit_by_half a b true false few also same = absurd (omega (arith, same))
digit_by_half a b false true few also same = absurd (omega (arith, same))
digit_by_half a b false false few also same = omega (arith, same)

one_digit : (a b : ℕ) → hex_digit (a % 16) ≡ hex_digit (b % 16) → a % 16 ≡ b % 16
one_digit a b same = digit_by_half (a % 16) (b % 16) (nat_lt (a % 16) 10) (nat_lt (b % 16) 10) (omega arith) (omega arith) same

one_number : (word other : ℕ) → IsU32 word → IsU32 other → hex_word other ≡ hex_word word → other ≡ word
one_number word other fits also same =
    let digit = λ (k : ℕ). ap (λ (digits : List ℕ). get_or digits k 0) same in
    let a = one_digit (other / 16 ^ 7) (word / 16 ^ 7) (digit 0) in
    let b = one_digit (other / 16 ^ 6) (word / 16 ^ 6) (digit 1) in
    let c = one_digit (other / 16 ^ 5) (word / 16 ^ 5) (digit 2) in
    let d = one_digit (other / 16 ^ 4) (word / 16 ^ 4) (digit 3) in
    let e = one_digit (other / 16 ^ 3) (word / 16 ^ 3) (digit 4) in
    let f = one_digit (other / 16 ^ 2) (word / 16 ^ 2) (digit 5) in
    let g = one_digit (other / 16 ^ 1) (word / 16 ^ 1) (digit 6) in
    let h = one_digit (other / 16 ^ 0) (word / 16 ^ 0) (digit 7) in
    let from6 : other / 16 ^ 6 ≡ word / 16 ^ 6 = omega (arith, a, b, fits, also) in
    let from4 : other / 16 ^ 4 ≡ word / 16 ^ 4 = omega (arith, from6, c, d) in
    let from2 : other / 16 ^ 2 ≡ word / 16 ^ 2 = omega (arith, from4, e, f) in
    omega (arith, from2, g, h)

-- ---- one word for each line

pub one_word : (word other : ℕ) (line : List ℕ) → IsU32 word → IsU32 other → IsShown word line → IsShown other line → other ≡ word
one_word word other line fits also (inl a) (inl b) =
    let same = one_form_of_text a.form b.form a.is_word.0 b.is_word.0 (sym b.text ∙ a.text) in
    sym b.is_word.1 ∙ ap₂ row_word same.0 same.1 ∙ a.is_word.1
one_word word other line fits also (inl a) (inr b) = absurd (no_data a.form line (hex_word other) a.is_word.0 a.text b.text)
one_word word other line fits also (inr a) (inl b) = absurd (no_data b.form line (hex_word word) b.is_word.0 b.text a.text)
one_word word other line fits also (inr a) (inr b) =
    one_number word other fits also (append_cancel_left (codes "Data ") (hex_word other) (hex_word word) (sym b.text ∙ a.text))

pub is_one : (word : ℕ) (line : List ℕ) → IsU32 word → IsShown word line → IsOneLine word line
is_one word line fits shown = record {
  shown = shown;
  one_line = λ other is. one_line word line other shown is;
  one_word = λ other also is. one_word word other line fits also shown is;
}
