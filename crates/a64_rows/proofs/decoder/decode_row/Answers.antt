use Rattle.std.proofs.Common.{ℕ, ◌≡◌, ◌≤◌, List, [], ◌∷◌, length, map, take, take_all, refl, sym, ap, ◌∙◌, arith, true, false}
use Rattle.std.proofs.lemmas.Bool.{both_ways}
use Rattle.std.proofs.lemmas.List.{length-map, length-take-le}
use Rattle.a64_rows.specs.declared.row_table.Row.{Row}
use Rattle.a64_rows.specs.declared.field.FieldName.TheVariants.{Sf}
use Rattle.a64_rows.specs.declared.slots.Slot.TheVariants.{Bits}
use Rattle.a64_rows.specs.Rows.{Field, fields_of, slots_of}
use Rattle.a64_rows.specs.RowLimits.{limits_of}
use Rattle.a64_rows.specs.Forms.{value_in, row_word, IsForm, IsWordOf}
use Rattle.a64_rows.proofs.Masks.{values_fit}
use Rattle.a64_rows.proofs.Table.{field_in_word, few, fields_long}
use Rattle.a64_rows.proofs.Matching.{word_values}
use Rattle.a64_rows.proofs.decoder.decode_row.Goals as goal

pub value_in-requires-clause-place_in : goal.value_in-requires-clause-place_in
value_in-requires-clause-place_in c = (field_in_word c.entry.result.2.now c.args.row c.loop-slot.slot-index (Sf, Bits 0 0) c.entry.ensures.fields (omega arith)).0

pub value_in-requires-clause-width_in : goal.value_in-requires-clause-width_in
value_in-requires-clause-width_in c = (field_in_word c.entry.result.2.now c.args.row c.loop-slot.slot-index (Sf, Bits 0 0) c.entry.ensures.fields (omega arith)).1

some_values : (word : ℕ) (fields : List Field) → map (λ f. value_in word f.1) fields ≡ map (value_in word) (map (λ f. f.1) fields)
some_values word [] = refl
some_values word (field ∷ fields) = ap (λ values. value_in word field.1 ∷ values) (some_values word fields)

-- at the loop's end the values are what the word has in all fields
all_values : (now : List Field) (row : Row) (values : List ℕ) (word i : ℕ) → values ≡ map (λ f. value_in word f.1) (take i now) → length now ≤ i → now ≡ fields_of row → values ≡ map (value_in word) (slots_of row)
all_values now row values word i e h same =
    e ∙ ap (map (λ f. value_in word f.1)) (take_all i now h ∙ same) ∙ some_values word (fields_of row)

pub push-requires : goal.push-requires
push-requires c =
    let long = fields_long c.entry.result.2.now c.args.row c.entry.ensures.fields in
    let so_far = ap length c.loop-slot.invariant ∙ length-map (take c.loop-slot.slot-index c.entry.result.2.now) (λ f. value_in c.args.word f.1) ∙ length-take-le c.loop-slot.slot-index c.entry.result.2.now (omega arith) in
    let at_most = few c.args.row in
    omega (arith, long, so_far, at_most)

pub meets-requires : goal.meets-requires
meets-requires c = ap length c.as_slice.ensures.value ∙ ap length (all_values c.entry.result.2.now c.args.row c.loop-slot.fields.items c.args.word c.loop-slot.slot-index c.loop-slot.invariant (omega arith) c.entry.ensures.fields) ∙ length-map (slots_of c.args.row) (value_in c.args.word)

-- where the values in the word miss the limits, no form has the word
limits_missed : (row : Row) (values fields : List ℕ) (word : ℕ) → values ≡ map (value_in word) (slots_of row) → limits_of row values ≡ false → IsWordOf row fields word → ⊥
limits_missed row values fields word e m w =
    both_ways (limits_of row values) m (ap (limits_of row) (e ∙ word_values row fields word w.0.0 w.1) ∙ w.0.1)

form_from : (row : Row) (values : List ℕ) (word : ℕ) → values ≡ map (value_in word) (slots_of row) → limits_of row values ≡ true → IsForm row values
form_from row values word e m = (rw e (values_fit (slots_of row) word), m)

pub returns-then-not-meets-clause-none : goal.returns-then-not-meets-clause-none
returns-then-not-meets-clause-none c = λ fields w.
    limits_missed c.args.row c.loop-slot.fields.items fields c.args.word
    (all_values c.entry.result.2.now c.args.row c.loop-slot.fields.items c.args.word c.loop-slot.slot-index c.loop-slot.invariant (omega arith) c.entry.ensures.fields)
    (ap (limits_of c.args.row) (sym c.as_slice.ensures.value) ∙ sym c.meets.ensures ∙ c.if-not-meets.true)
    w

pub word_of-requires : goal.word_of-requires
word_of-requires c =
    form_from c.args.row c.loop-slot.fields.items c.args.word
    (all_values c.entry.result.2.now c.args.row c.loop-slot.fields.items c.args.word c.loop-slot.slot-index c.loop-slot.invariant (omega arith) c.entry.ensures.fields)
    (ap (limits_of c.args.row) (sym c.as_slice.ensures.value) ∙ sym c.meets.ensures ∙ c.if-not-meets.false)

pub returns-then-word_of-word-clause-found : goal.returns-then-word_of-word-clause-found
returns-then-word_of-word-clause-found c =
    let form = form_from c.args.row c.loop-slot.fields.items c.args.word
    (all_values c.entry.result.2.now c.args.row c.loop-slot.fields.items c.args.word c.loop-slot.slot-index c.loop-slot.invariant (omega arith) c.entry.ensures.fields)
    (ap (limits_of c.args.row) (sym c.as_slice.ensures.value) ∙ sym c.meets.ensures ∙ c.if-not-meets.false) in
    (refl, (form, sym c.word_of.ensures ∙ c.if-word_of-word.true))

pub returns-else-word_of-word-clause-none : goal.returns-else-word_of-word-clause-none
returns-else-word_of-word-clause-none c = λ fields w.
    let values = all_values c.entry.result.2.now c.args.row c.loop-slot.fields.items c.args.word c.loop-slot.slot-index c.loop-slot.invariant (omega arith) c.entry.ensures.fields in
    c.if-word_of-word.false (c.word_of.ensures ∙ ap (row_word c.args.row) (values ∙ word_values c.args.row fields c.args.word w.0.0 w.1) ∙ w.1)
