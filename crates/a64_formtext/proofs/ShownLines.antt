-- The lines as which words are shown.
use Rattle.std.proofs.Common.{◌≡◌, ℕ, inl, inr, Bool, true, false, not, eqb, ◌&&◌, List, [], ◌∷◌, ◌++◌, Option, Some, None, refl, sym, ap, ◌∙◌, subst, arith, append_assoc, append-nil}
use Rattle.std.specs.Prelude.{codes, IfSome}
use Rattle.std.specs.Cmp.Lexicographic.{pointwise}
use Rattle.std.specs.List.{AllByRecursion, list_any}
use Rattle.std.proofs.lemmas.Bool.{and_parts, not-true, false≢true}
use Rattle.std.proofs.lemmas.Cmp.{nat_list_eq_equiv}
use Rattle.std.proofs.lemmas.List.{append_cancel_left}
use Rattle.a64_formtext.specs.Shown.{IsShown, IsData, IsListing, says}
use Rattle.a64_formtext.specs.Texts.{fields_text, form_text}
use Rattle.a64_formtext.specs.Tokens.{field_token, field_tokens, space_tokens}
use Rattle.a64_formtext.proofs.Names.{fields_test, names_test, none_append, lacks_byte, tokens_plain, field_step, form_tokens}
use Rattle.a64_formtext.proofs.Words.{word_no_feed}
use Rattle.a64_lines.specs.Lines.{LeadAll}
use Rattle.a64_tokens.specs.Fields.{HasNo}
use Rattle.a64_tokens.specs.Hex.{hex_word}
use Rattle.a64_tokens.specs.Reads.{Reads, IsU32}
use Rattle.a64_tokens.specs.SplitLaws.{split_at}
use Rattle.a64_tokens.specs.Splitting.{is_blank, lines_of}
use Rattle.a64_tokens.proofs.Splits.{heads}
use Rattle.a64_rows.specs.declared.row_table.Row.{Row}
use Rattle.a64_rows.specs.declared.row_table.Row.TheVariants.{AddSubReg}
use Rattle.a64_rows.specs.Fields.{text_of}
use Rattle.a64_rows.specs.Forms.{Form, IsFormOf}
use Rattle.a64_rows.specs.Order.{all_rows, placed}
use Rattle.a64_rows.specs.Rows.{Field, fields_of, name_of}
use Rattle.a64_rows.proofs.Table.{every, every_at, inside}

-- ---- the names of rows

-- a name begins a line that means something, has no line feed, and is not that of data
abbrev line_test : Row → Bool
line_test row = names_test 10 row && (not (is_blank (name_of row)) && not (pointwise eqb (name_of row) (codes "Data")))

every_row_begins : every line_test all_rows ≡ true
every_row_begins = refl

row_begins : (row : Row) → line_test row ≡ true
row_begins row = rw (placed row).is at (every_at line_test all_rows (placed row).place AddSubReg every_row_begins (inside row))

pub record RowName (row : Row) : Type 0 where
  plain : HasNo 10 (name_of row)
  pub fields : fields_test 10 (fields_of row) ≡ true
  meant : is_blank (name_of row) ≡ false
  no_data : name_of row ≡ codes "Data" → ⊥

pub row_name : (row : Row) → RowName row
row_name row =
    let one = and_parts (names_test 10 row) (not (is_blank (name_of row)) && not (pointwise eqb (name_of row) (codes "Data"))) (row_begins row) in
    let two = and_parts (not (is_blank (name_of row))) (not (pointwise eqb (name_of row) (codes "Data"))) one.1 in
    let three = and_parts (lacks_byte 10 (name_of row)) (fields_test 10 (fields_of row)) one.0 in
    record {
      plain = not-true (list_any (λ b. eqb b 10) (name_of row)) three.0;
      fields = three.1;
      meant = not-true (is_blank (name_of row)) two.0;
      no_data = λ is. false≢true (sym (not-true (pointwise eqb (name_of row) (codes "Data")) two.1) ∙ ap (λ (t : List ℕ). pointwise eqb t (codes "Data")) is ∙ nat_list_eq_equiv.refl (codes "Data"));
    }

-- the text of a form is not that of data
pub no_data : (form : Form) (line digits : List ℕ) → IsFormOf form → line ≡ form_text form → line ≡ codes "Data " ++ digits → ⊥
no_data form line digits is text as_data =
    let both = heads (name_of form.row) (codes "Data") (field_tokens (fields_of form.row) form.fields) (space_tokens digits) (sym (form_tokens form is) ∙ ap space_tokens (sym text ∙ as_data) ∙ split_at 32 (codes "Data") digits refl) in
    (row_name form.row).no_data both.0

-- ---- lines have no line feed, and mean something

fields_plain : (fields : List Field) (values : List ℕ) → AllByRecursion (HasNo 10) (field_tokens fields values) → HasNo 10 (fields_text fields values)
fields_plain [] values plain = refl
fields_plain (field ∷ fields) [] plain = refl
fields_plain (field ∷ fields) (value ∷ values) plain =
    let token = field_token (text_of field.0) value in
    let text = fields_text fields values in
    subst (λ (t : List ℕ). HasNo 10 t) (sym (field_step field fields value values)) (none_append 10 (32 ∷ []) (token ++ text) refl (none_append 10 token text plain.0 (fields_plain fields values plain.1)))

begun : (name rest : List ℕ) → is_blank name ≡ false → is_blank (name ++ rest) ≡ false
begun [] rest meant = absurd cc
begun (b ∷ name) rest meant = meant

form_line : (form : Form) → IsFormOf form → HasNo 10 (form_text form) × (is_blank (form_text form) ≡ false)
form_line form is =
    let r = row_name form.row in (
      none_append 10 (name_of form.row) (fields_text (fields_of form.row) form.fields) r.plain
          (fields_plain (fields_of form.row) form.fields (tokens_plain 10 (fields_of form.row) form.fields (omega arith) refl r.fields is.0)),
      begun (name_of form.row) (fields_text (fields_of form.row) form.fields) r.meant,
    )

shown_line : (word : ℕ) (line : List ℕ) → IsShown word line → HasNo 10 line × (is_blank line ≡ false)
shown_line word line (inl shown) =
    let plain = form_line shown.form shown.is_word.0 in
    subst (λ (l : List ℕ). HasNo 10 l × (is_blank l ≡ false)) (sym shown.text) plain
shown_line word line (inr shown) =
    subst (λ (l : List ℕ). HasNo 10 l × (is_blank l ≡ false)) (sym shown.text) (none_append 10 (codes "Data ") (hex_word word) refl (word_no_feed word), refl)

-- ---- a listing is a file of its lines

one_feed : (line rest : List ℕ) → HasNo 10 line → lines_of (line ++ codes "\n" ++ rest) ≡ line ∷ lines_of rest
one_feed line rest plain = ap lines_of (append_assoc line (codes "\n") rest) ∙ split_at 10 line rest plain

pub listing_leads : (words bytes old : List ℕ) → AllByRecursion IsU32 words → IsListing words bytes → LeadAll says (lines_of bytes) old (old ++ words)
listing_leads [] bytes old are is = subst (λ (t : List ℕ). LeadAll says (lines_of t) old (old ++ [])) (sym is) (old, inl (refl, refl), append-nil old)
listing_leads (word ∷ words) bytes old are (line, rest, shown, text, more) =
    let plain = shown_line word line shown in
    let left = listing_leads words rest (old ++ word ∷ []) are.1 more in
    subst (λ (lines : List (List ℕ)). LeadAll says lines old (old ++ word ∷ words)) (sym (ap lines_of text ∙ one_feed line rest plain.0)) (
      old ++ word ∷ [],
      inr (plain.1, (word, are.0, shown, refl)),
      subst (λ (new : List ℕ). LeadAll says (lines_of rest) (old ++ word ∷ []) new) (append_assoc old (word ∷ []) words) left,
    )

-- ---- one more line of a listing

pub line_added : (words : List ℕ) (word : ℕ) (left text line rest : List ℕ) → IsShown word line → IsListing left rest → ((behind : List ℕ) → IsListing (word ∷ left) behind → IsListing words (text ++ behind)) → IsListing words (((text ++ line) ++ codes "\n") ++ rest)
line_added words word left text line rest shown more so_far =
    subst (λ (t : List ℕ). IsListing words t) (sym (append_assoc (text ++ line) (codes "\n") rest ∙ append_assoc text line (codes "\n" ++ rest) ∙ ap (λ (t : List ℕ). text ++ t) (sym (append_assoc line (codes "\n") rest))))
    (so_far (line ++ codes "\n" ++ rest) (line, rest, shown, refl, more))

-- ---- the word of a line

-- it is that behind `Data`, if the line begins so
pub data_shown : (line digits : List ℕ) (read : Option ℕ) → line ≡ codes "Data " ++ digits → IfSome read (λ word. IsData word × (digits ≡ hex_word word)) → IfSome read (λ word. IsShown word line)
data_shown line digits None is told = tt
data_shown line digits (Some word) is told = inr (record { unmatched = told.0.1; text = is ∙ ap (λ (t : List ℕ). codes "Data " ++ t) told.1 })

pub only_data : (line digits : List ℕ) (read : Option ℕ) → line ≡ codes "Data " ++ digits → Reads IsData hex_word digits read → (word : ℕ) → IsU32 word → IsShown word line → read ≡ Some word
only_data line digits read is r word fits (inl shown) = absurd (no_data shown.form line digits shown.is_word.0 shown.text is)
only_data line digits read is r word fits (inr shown) =
    r.only word (fits, shown.unmatched) (append_cancel_left (codes "Data ") digits (hex_word word) (sym is ∙ shown.text))
