-- Words and forms: a form's word has its values, is that of no other form, and matches its row; and what matches is a form's.
use Rattle.std.proofs.Common.{ℕ, ◌≡◌, ◌+◌, ◌-◌, ◌*◌, ◌/◌, ◌%◌, ◌^◌, ◌<◌, ◌≤◌, List, inl, inr, true, sym, ◌∙◌, ap, arith, map, eqb, bit_and, nat_le}
use Rattle.std.proofs.Math.Nat.{mod-eq_of_lt}
use Rattle.std.proofs.lemmas.Bool.{eqb-true, eq-eqb, leb-true, and_parts, or_cases, cases_order, both_ways, not-true}
use Rattle.std.proofs.lemmas.Nat.{and_comm, and_assoc, and_mask, mod-pow-add, shr-shr}
use Rattle.std.proofs.lemmas.Nat.Bits.{and_high}
use Rattle.a64_rows.specs.declared.row_table.Row.{Row}
use Rattle.a64_rows.specs.declared.row_table.Row.TheVariants.{VecShift, VecImm}
use Rattle.a64_rows.specs.Order.{placed}
use Rattle.a64_rows.specs.Rows.{fixed_of, slots_of}
use Rattle.a64_rows.specs.Limits.{is_vector_shift}
use Rattle.a64_rows.specs.RowLimits.{limits_of}
use Rattle.a64_rows.specs.Forms.{row_word, sum_of, FitSlots, IsWordOf, IsOnlyFormOf, value_in, mask_of_all, fixed_mask, Matches}
use Rattle.a64_rows.proofs.Masks.{Holds, sum_holds, values_held, twins_held, sum_clear, sum_below, add_apart, sum_of_values, values_fit, under_both, clear_of_all}
use Rattle.a64_rows.proofs.Table.{IsSound, row_sound, differ, share, two_differ, same_place}

-- a word has 32 bits
pub word_fits : (row : Row) (fields : List ℕ) → FitSlots (slots_of row) fields → row_word row fields < 2 ^ 32
word_fits row fields f =
    let added : sum_of (slots_of row) fields ≤ mask_of_all (slots_of row) = sum_below (slots_of row) fields f in
    let room : fixed_of row + mask_of_all (slots_of row) < 2 ^ 32 = (row_sound row).room in
    omega arith

word_holds : (row : Row) (fields : List ℕ) → FitSlots (slots_of row) fields → Holds (row_word row fields) (slots_of row) fields
word_holds row fields f = sum_holds (fixed_of row) (slots_of row) fields f (row_sound row).apart (row_sound row).clear

-- what a form's word has in the fields are the form's values
pub word_values : (row : Row) (fields : List ℕ) (word : ℕ) → FitSlots (slots_of row) fields → row_word row fields ≡ word → map (value_in word) (slots_of row) ≡ fields
word_values row fields word f e = rw e at (values_held (row_word row fields) (slots_of row) fields f (word_holds row fields f))

-- outside the fields a form's word has the fixed word's bits
pub word_fixed : (row : Row) (fields : List ℕ) (word : ℕ) → IsWordOf row fields word → bit_and word (fixed_mask row) ≡ fixed_of row
word_fixed row fields word w =
    let sound : IsSound row = row_sound row in
    ap (λ x. bit_and x (fixed_mask row)) (sym w.1)
    ∙ add_apart (fixed_of row) (sum_of (slots_of row) fields) (fixed_mask row)
    (and_comm (fixed_of row) (sum_of (slots_of row) fields) ∙ sum_clear (slots_of row) fields (fixed_of row) w.0.0 sound.apart sound.clear)
    (sum_clear (slots_of row) fields (fixed_mask row) w.0.0 sound.apart sound.outside)
    ∙ sound.fixed

-- ---- no word is that of two rows

-- no word has forms of rows that differ in a bit that both fix
differ_apart : (row other : Row) (word : ℕ) → bit_and word (fixed_mask row) ≡ fixed_of row → bit_and word (fixed_mask other) ≡ fixed_of other → differ row other ≡ true → ⊥
differ_apart row other word one two d =
    let left : bit_and (fixed_of row) (fixed_mask other) ≡ bit_and word (bit_and (fixed_mask row) (fixed_mask other)) = ap (λ x. bit_and x (fixed_mask other)) (sym one) ∙ and_assoc (fixed_mask other) word (fixed_mask row) in
    let right : bit_and (fixed_of other) (fixed_mask row) ≡ bit_and word (bit_and (fixed_mask other) (fixed_mask row)) = ap (λ x. bit_and x (fixed_mask row)) (sym two) ∙ and_assoc (fixed_mask row) word (fixed_mask other) in
    let same : bit_and (fixed_of row) (fixed_mask other) ≡ bit_and (fixed_of other) (fixed_mask row) = left ∙ ap (λ x. bit_and word x) (and_comm (fixed_mask row) (fixed_mask other)) ∙ sym right in
    both_ways (eqb (bit_and (fixed_of row) (fixed_mask other)) (bit_and (fixed_of other) (fixed_mask row)))
    (not-true (eqb (bit_and (fixed_of row) (fixed_mask other)) (bit_and (fixed_of other) (fixed_mask row))) d)
    (eq-eqb (bit_and (fixed_of row) (fixed_mask other)) (bit_and (fixed_of other) (fixed_mask row)) same)

-- the modified immediate fixes bits 22 to 19 to zero, and so bits 22 to 16 are below 8
immediate_below : (word : ℕ) → bit_and word (fixed_mask VecImm) ≡ fixed_of VecImm → word / 2 ^ 16 % 2 ^ 7 < 8
immediate_below word e =
    let upper : word / 2 ^ 19 % 2 ^ 4 * 2 ^ 19 ≡ 0 =
    sym (and_high word 4 19) ∙ sym (and_assoc (2 ^ (4 + 19) - 2 ^ 19) word (fixed_mask VecImm)) ∙ ap (λ x. bit_and x (2 ^ (4 + 19) - 2 ^ 19)) e in
    let split : word / 2 ^ 16 % 2 ^ 7 ≡ word / 2 ^ 16 / 2 ^ 3 % 2 ^ 4 * 2 ^ 3 + word / 2 ^ 16 % 2 ^ 3 = mod-pow-add (word / 2 ^ 16) 4 3 in
    let again : word / 2 ^ 16 / 2 ^ 3 ≡ word / 2 ^ 19 = shr-shr word 16 3 in
    omega arith

-- the shift by immediate has a number of at least 8 there
shift_from_8 : (fields : List ℕ) (word : ℕ) → IsWordOf VecShift fields word → 8 ≤ word / 2 ^ 16 % 2 ^ 7
shift_from_8 fields word w =
    let values : map (value_in word) (slots_of VecShift) ≡ fields = word_values VecShift fields word w.0.0 w.1 in
    let limits : limits_of VecShift (map (value_in word) (slots_of VecShift)) ≡ true = ap (limits_of VecShift) values ∙ w.0.1 in
    leb-true 8 (word / 2 ^ 16 % 2 ^ 7) (and_parts (nat_le 8 (word / 2 ^ 16 % 2 ^ 7)) (is_vector_shift (word / 2 ^ 11 % 2 ^ 5)) limits).0

share_apart : (row other : Row) (fields values : List ℕ) (word : ℕ) → share row other ≡ true → IsWordOf row fields word → IsWordOf other values word → ⊥
share_apart row other fields values word s w v =
    let parts = and_parts (eqb (placed row).place (placed VecShift).place) (eqb (placed other).place (placed VecImm).place) s in
    let shift : row ≡ VecShift = same_place row VecShift (eqb-true (placed row).place (placed VecShift).place parts.0) in
    let immediate : other ≡ VecImm = same_place other VecImm (eqb-true (placed other).place (placed VecImm).place parts.1) in
    let low : word / 2 ^ 16 % 2 ^ 7 < 8 = immediate_below word (word_fixed VecImm values word (rw immediate at v)) in
    let high : 8 ≤ word / 2 ^ 16 % 2 ^ 7 = shift_from_8 fields word (rw shift at w) in
    absurd (omega arith)

apart : (row other : Row) (fields values : List ℕ) (word : ℕ) → (placed row).place < (placed other).place → IsWordOf row fields word → IsWordOf other values word → ⊥
apart row other fields values word l w v =
    elim (or_cases (differ row other) (share row other) (two_differ row other l)) [
      | inl d ↦ differ_apart row other word (word_fixed row fields word w) (word_fixed other values word v) d
      | inr s ↦ share_apart row other fields values word s w v
    ]

-- the rows of one word are one
pub one_row : (row other : Row) (fields values : List ℕ) (word : ℕ) → IsWordOf row fields word → IsWordOf other values word → other ≡ row
one_row row other fields values word w v =
    elim (cases_order (placed row).place (placed other).place) [
      | inl e ↦ sym (same_place row other e)
      | inr o ↦ elim o [
        | inl l ↦ absurd (apart row other fields values word l w v)
        | inr g ↦ absurd (apart other row values fields word g v w)
      ]
    ]

-- the form of a word is the only one that has this word
pub one_form : (row : Row) (fields : List ℕ) (word : ℕ) → IsWordOf row fields word → IsOnlyFormOf row fields word
one_form row fields word w other values v =
    let same : other ≡ row = one_row row other fields values word w v in
    let mine : map (value_in word) (slots_of row) ≡ fields = word_values row fields word w.0.0 w.1 in
    let theirs : map (value_in word) (slots_of other) ≡ values = word_values other values word v.0.0 v.1 in
    (same, sym theirs ∙ ap (λ r. map (value_in word) (slots_of r)) same ∙ mine)

-- ---- to match a row is to be the word of a form

pub word_matches : (row : Row) (fields : List ℕ) (word : ℕ) → IsWordOf row fields word → Matches row word
word_matches row fields word w =
    let held : Holds word (slots_of row) fields = rw w.1 at (word_holds row fields w.0.0) in (
      word_fixed row fields word w,
      twins_held word (slots_of row) fields w.0.0 held,
      ap (limits_of row) (word_values row fields word w.0.0 w.1) ∙ w.0.1,
    )

pub match_is_word : (row : Row) (word : ℕ) → word < 2 ^ 32 → Matches row word → IsWordOf row (map (value_in word) (slots_of row)) word
match_is_word row word h m =
    let sound : IsSound row = row_sound row in
    let room : fixed_of row + mask_of_all (slots_of row) < 2 ^ 32 = sound.room in
    let whole : fixed_mask row + mask_of_all (slots_of row) ≡ 2 ^ 32 - 1 = omega arith in
    let kept : bit_and word (2 ^ 32 - 1) ≡ word = and_mask word 32 ∙ mod-eq_of_lt h in
    let both : bit_and word (fixed_mask row + mask_of_all (slots_of row)) ≡ bit_and word (fixed_mask row) + bit_and word (mask_of_all (slots_of row)) =
    under_both word (fixed_mask row) (mask_of_all (slots_of row)) (clear_of_all (fixed_mask row) (slots_of row) sound.outside sound.apart) in
    let added : sum_of (slots_of row) (map (value_in word) (slots_of row)) ≡ bit_and word (mask_of_all (slots_of row)) = sum_of_values word (slots_of row) sound.apart m.1 in (
      (values_fit (slots_of row) word, m.2),
      ap (λ x. fixed_of row + x) added ∙ ap (λ x. x + bit_and word (mask_of_all (slots_of row))) (sym m.0) ∙ sym both ∙ ap (λ x. bit_and word x) whole ∙ kept,
    )

-- a word matches no row but that of its form
pub one_match : (row other : Row) (fields : List ℕ) (word : ℕ) → word < 2 ^ 32 → IsWordOf row fields word → Matches other word → other ≡ row
one_match row other fields word h w m = one_row row other fields (map (value_in word) (slots_of other)) word w (match_is_word other word h m)
