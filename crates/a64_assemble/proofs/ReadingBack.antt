-- Finished words are read back as the forms that were put, but for the fields of their uses.
use Rattle.std.proofs.Common.{ℕ, ◌≡◌, ◌+◌, ◌-◌, ◌/◌, ◌%◌, ◌^◌, ◌<◌, ◌≤◌, ◌⊎◌, suc, zero, Bool, true, List, [], ◌∷◌, length, get_or, map, take, drop, Option, None, Some, refl, sym, ap, ◌∙◌, arith, inl, inr, bit_and, eqb, nat_le}
use Rattle.std.specs.Prelude.{◌&&◌, ◌||◌}
use Rattle.std.specs.Int.{w32, from_le_bytes}
use Rattle.std.proofs.Math.Nat.{mod-eq_of_lt}
use Rattle.std.proofs.lemmas.Bool.{eqb-true, and_parts, or_cases}
use Rattle.std.proofs.lemmas.List.{get_or-map, get_or-take, get_or-drop}
use Rattle.std.proofs.lemmas.Nat.{and_comm, and_assoc, and_mask, shl-shr}
use Rattle.std.proofs.lemmas.Nat.Bits.{and_high}
use Rattle.a64_rows.specs.declared.row_table.Row.{Row}
use Rattle.a64_rows.specs.declared.row_table.Row.TheVariants as row
use Rattle.a64_rows.specs.declared.slots.Slot.{Slot}
use Rattle.a64_rows.specs.declared.slots.Slot.TheVariants.{Bits, Doubled}
use Rattle.a64_rows.specs.Rows.{fixed_of, slots_of}
use Rattle.a64_rows.specs.RowLimits.{limits_of}
use Rattle.a64_rows.specs.Forms.{Form, form_word, IsFormOf, IsWordOf, Matches, HasTwins, value_in, mask_of, mask_of_all, fixed_mask}
use Rattle.a64_rows.proofs.Masks.{under_both}
use Rattle.a64_rows.proofs.Table.{row_sound}
use Rattle.a64_rows.proofs.Matching.{word_values, word_fixed, one_form, match_is_word}
use Rattle.a64_words.specs.Word.{outside, word_at}
use Rattle.a64_label_use.specs.declared.label_use.LabelUse.TheVariants as uses
use Rattle.a64_cells.specs.declared.site.Site.{Site}
use Rattle.a64_label_use.specs.LabelUses.{mask_for}
use Rattle.a64_cells.specs.Shapes.{Body, FormOf, Data, Cell}
use Rattle.a64_cells.specs.Cells.{body_word, cell_word}
use Rattle.a64_emit.specs.Layout.{site_mask, Stands}
use Rattle.a64_cells.specs.FormCells.{IsFormBody, IsFormCell}
use Rattle.a64_assemble.specs.ReadBack.{IsReadForm, IsReadBody, IsReadBack}

-- ---- words of bytes

word_of_four : (bytes : List ℕ) → ((k : ℕ) → k < 4 → get_or bytes k 0 < 256) → from_le_bytes w32 bytes < 2 ^ 32
word_of_four bytes h = omega (arith, h 0 (omega arith), h 1 (omega arith), h 2 (omega arith), h 3 (omega arith))

pub word_below : (bytes : List ℕ) (place : ℕ) → ((k : ℕ) → get_or bytes k 0 < 256) → word_at bytes place < 2 ^ 32
word_below bytes place h =
    word_of_four (take 4 (drop place bytes)) (λ k l. omega (arith, h (place + k), get_or-take 4 (drop place bytes) k 0 l, get_or-drop place bytes k 0))

-- ---- fields outside of a mask

-- two words that agree under a mask agree under each part of it
same_under : (n m one other : ℕ) → bit_and m n ≡ m → bit_and one n ≡ bit_and other n → bit_and one m ≡ bit_and other m
same_under n m one other part e = seen one ∙ ap (λ x. bit_and x m) e ∙ sym (seen other)
  where
    seen : (w : ℕ) → bit_and w m ≡ bit_and (bit_and w n) m
    seen w = ap (λ x. bit_and w x) (sym (and_comm n m ∙ part)) ∙ sym (and_assoc m w n)

-- what is apart from a mask is part of the rest of the word
part_of_rest : (mask rest m : ℕ) → rest + mask ≡ 2 ^ 32 - 1 → bit_and rest mask ≡ 0 → m < 2 ^ 32 → bit_and m mask ≡ 0 → bit_and m rest ≡ m
part_of_rest mask rest m whole apart below clear =
    let all : bit_and m (2 ^ 32 - 1) ≡ m = and_mask m 32 ∙ mod-eq_of_lt below in
    let both : bit_and m (rest + mask) ≡ bit_and m rest + bit_and m mask = under_both m rest mask apart in
    let same : bit_and m (rest + mask) ≡ bit_and m (2 ^ 32 - 1) = ap (λ x. bit_and m x) whole in
    omega (arith, all, both, same, clear)

-- bits from a place on are read alike where they are alike
read_alike : (one other place width : ℕ) → bit_and one (2 ^ (width + place) - 2 ^ place) ≡ bit_and other (2 ^ (width + place) - 2 ^ place) → one / 2 ^ place % 2 ^ width ≡ other / 2 ^ place % 2 ^ width
read_alike one other place width e =
    sym (shl-shr (one / 2 ^ place % 2 ^ width) place) ∙ ap (λ x. x / 2 ^ place) (sym (and_high one width place) ∙ e ∙ and_high other width place) ∙ shl-shr (other / 2 ^ place % 2 ^ width) place

-- words that agree in the bits of a field have one value there
value_alike : (slot : Slot) (one other : ℕ) → bit_and one (mask_of slot) ≡ bit_and other (mask_of slot) → value_in one slot ≡ value_in other slot
value_alike (Bits lowest width) one other e = read_alike one other lowest width e
value_alike Doubled one other e = read_alike one other 31 1 (same_under (2 ^ 31 + 2 ^ 22) (2 ^ 31) one other refl e)

mask_within : (slots : List Slot) (i : ℕ) (d : Slot) → i < length slots → mask_of (get_or slots i d) ≤ mask_of_all slots
mask_within [] i d h = absurd (omega arith)
mask_within (slot ∷ slots) zero d h = omega arith
mask_within (slot ∷ slots) (suc i) d h = let rest : mask_of (get_or slots i d) ≤ mask_of_all slots = mask_within slots i d (omega arith) in omega (arith, rest)

mask_below : (row : Row) (i : ℕ) (d : Slot) → i < length (slots_of row) → mask_of (get_or (slots_of row) i d) < 2 ^ 32
mask_below row i d h =
    let within : mask_of (get_or (slots_of row) i d) ≤ mask_of_all (slots_of row) = mask_within (slots_of row) i d h in
    let room : fixed_of row + mask_of_all (slots_of row) < 2 ^ 32 = (row_sound row).room in
    omega (arith, within, room)

-- ---- rows whose fields a use may change

-- each field is apart from a mask, or lies wholly under it
abbrev pub parted_test : ℕ → List Slot → Bool
parted_test mask [] = true
parted_test mask (slot ∷ slots) = (eqb (bit_and (mask_of slot) mask) 0 || eqb (bit_and (mask_of slot) mask) (mask_of slot)) && parted_test mask slots

parted_at : (mask : ℕ) (slots : List Slot) (i : ℕ) (d : Slot) → parted_test mask slots ≡ true → i < length slots → (bit_and (mask_of (get_or slots i d)) mask ≡ 0) ⊎ (bit_and (mask_of (get_or slots i d)) mask ≡ mask_of (get_or slots i d))
parted_at mask [] i d t h = absurd (omega arith)
parted_at mask (slot ∷ slots) zero d t h =
    let here = (and_parts (eqb (bit_and (mask_of slot) mask) 0 || eqb (bit_and (mask_of slot) mask) (mask_of slot)) (parted_test mask slots) t).0 in
    elim (or_cases (eqb (bit_and (mask_of slot) mask) 0) (eqb (bit_and (mask_of slot) mask) (mask_of slot)) here) [
      | inl clear ↦ inl (eqb-true (bit_and (mask_of slot) mask) 0 clear)
      | inr within ↦ inr (eqb-true (bit_and (mask_of slot) mask) (mask_of slot) within)
    ]
parted_at mask (slot ∷ slots) (suc i) d t h =
    parted_at mask slots i d (and_parts (eqb (bit_and (mask_of slot) mask) 0 || eqb (bit_and (mask_of slot) mask) (mask_of slot)) (parted_test mask slots) t).1 (omega arith)

-- under the mask lie whole fields of the row, and its limits say nothing of them
pub record IsOpenTo (row : Row) (mask : ℕ) : Type 0 where
  pub whole : 2 ^ 32 - 1 - mask + mask ≡ 2 ^ 32 - 1
  pub apart : bit_and (2 ^ 32 - 1 - mask) mask ≡ 0
  pub fixed : bit_and (fixed_mask row) (2 ^ 32 - 1 - mask) ≡ fixed_mask row
  pub parted : parted_test mask (slots_of row) ≡ true
  pub twins : (word : ℕ) → HasTwins (slots_of row) word
  pub limits : (one other : ℕ) → outside mask one ≡ outside mask other → limits_of row (map (value_in other) (slots_of row)) ≡ true → limits_of row (map (value_in one) (slots_of row)) ≡ true

pub open_branch26 : IsOpenTo row.Branch26 (mask_for uses.Branch26)
open_branch26 = record { whole = refl; apart = refl; fixed = refl; parted = refl; twins = λ word. tt; limits = λ one other e l. refl }

pub open_branch_cond : IsOpenTo row.BranchCond (mask_for uses.Branch19)
open_branch_cond = record { whole = refl; apart = refl; fixed = refl; parted = refl; twins = λ word. tt; limits = λ one other e l. refl }

pub open_compare_branch : IsOpenTo row.CompareBranch (mask_for uses.Branch19)
open_compare_branch = record { whole = refl; apart = refl; fixed = refl; parted = refl; twins = λ word. tt; limits = λ one other e l. refl }

pub open_test_branch : IsOpenTo row.TestBranch (mask_for uses.Branch14)
open_test_branch = record { whole = refl; apart = refl; fixed = refl; parted = refl; twins = λ word. tt; limits = λ one other e l. refl }

pub open_adr : IsOpenTo row.Adr (mask_for uses.Adr21)
open_adr = record { whole = refl; apart = refl; fixed = refl; parted = refl; twins = λ word. tt; limits = λ one other e l. refl }

-- the limit of a load of a literal is on opc
pub open_ld_literal : IsOpenTo row.LdLiteral (mask_for uses.Ldr19)
open_ld_literal = record {
  whole = refl;
  apart = refl;
  fixed = refl;
  parted = refl;
  twins = λ word. tt;
  limits = λ one other e l.
      ap (λ n. nat_le n 2) (value_alike (Bits 30 2) one other (same_under (2 ^ 32 - 1 - mask_for uses.Ldr19) (mask_of (Bits 30 2)) one other refl e)) ∙ l;
}

-- ---- words that are read back

-- the word of a form is read as it
pub reads_plain : (form : Form) (mask word : ℕ) → IsFormOf form → word ≡ form_word form → IsReadForm form mask word
reads_plain form mask word f e =
    let is : IsWordOf form.row form.fields word = (f, sym e) in
    record { fields = form.fields; word = is; only = one_form form.row form.fields word is; kept = λ i d within changed. refl }

module _ (form : Form) (mask word : ℕ) (f : IsFormOf form) (opens : IsOpenTo form.row mask) (below : word < 2 ^ 32) (e : outside mask word ≡ outside mask (form_word form)) where
  put_values : map (value_in (form_word form)) (slots_of form.row) ≡ form.fields
  put_values = word_values form.row form.fields (form_word form) f.0 refl

  matched : Matches form.row word
  matched = (
    same_under (2 ^ 32 - 1 - mask) (fixed_mask form.row) word (form_word form) opens.fixed e ∙ word_fixed form.row form.fields (form_word form) (f, refl),
    opens.twins word,
    opens.limits word (form_word form) e (ap (limits_of form.row) put_values ∙ f.1),
  )

  value_kept : (i : ℕ) (d : Slot) → i < length (slots_of form.row) → bit_and (mask_of (get_or (slots_of form.row) i d)) mask ≡ 0 → get_or (map (value_in word) (slots_of form.row)) i 0 ≡ get_or form.fields i 0
  value_kept i d within clear =
      let slot : Slot = get_or (slots_of form.row) i d in
      let part : bit_and (mask_of slot) (2 ^ 32 - 1 - mask) ≡ mask_of slot = part_of_rest mask (2 ^ 32 - 1 - mask) (mask_of slot) opens.whole opens.apart (mask_below form.row i d within) clear in
      get_or-map (value_in word) (slots_of form.row) i d 0 within
      ∙ value_alike slot word (form_word form) (same_under (2 ^ 32 - 1 - mask) (mask_of slot) word (form_word form) part e)
      ∙ sym (get_or-map (value_in (form_word form)) (slots_of form.row) i d 0 within)
      ∙ ap (λ values. get_or values i 0) put_values

  -- a word that is a form's but for fields of its row is read as the form with other values there
  pub reads_changed : IsReadForm form mask word
  reads_changed =
      let is : IsWordOf form.row (map (value_in word) (slots_of form.row)) word = match_is_word form.row word below matched in
      record {
        fields = map (value_in word) (slots_of form.row);
        word = is;
        only = one_form form.row (map (value_in word) (slots_of form.row)) word is;
        kept = λ i d within outside_it. elim (parted_at mask (slots_of form.row) i d opens.parted within) [
          | inl clear ↦ value_kept i d within clear
          | inr whole ↦ absurd (outside_it whole)
        ];
      }

-- ---- cells

-- the use of a form is one that its row is open to
abbrev pub IsOpenUse : Body → Option Site → Type 0
IsOpenUse (FormOf form) (Some site) = IsOpenTo form.row (mask_for site.kind)
IsOpenUse (FormOf form) None = Unit {0}
IsOpenUse (Data word) site = Unit {0}

abbrev pub IsOpenCell : Cell → Type 0
IsOpenCell cell = IsOpenUse cell.body cell.site

reads_body : (body : Body) (site : Option Site) (word : ℕ) → word < 2 ^ 32 → outside (site_mask site) word ≡ outside (site_mask site) (body_word body) → (site ≡ None → word ≡ body_word body) → IsFormBody body → IsOpenUse body site → IsReadBody body site word
reads_body (FormOf form) None word below e free f opens = reads_plain form 0 word f (free refl)
reads_body (FormOf form) (Some site) word below e free f opens = reads_changed form (mask_for site.kind) word f opens below e
reads_body (Data content) None word below e free f opens = free refl
reads_body (Data content) (Some site) word below e free f opens = tt

-- a cell that stands at its place is read back from there
pub reads_back : (bytes : List ℕ) (s : ℕ × Cell) → ((k : ℕ) → get_or bytes k 0 < 256) → Stands bytes s → (s.1.site ≡ None → word_at bytes s.0 ≡ cell_word s.1) → IsFormCell s.1 → IsOpenCell s.1 → IsReadBack bytes s
reads_back bytes s small stands free form opens = reads_body s.1.body s.1.site (word_at bytes s.0) (word_below bytes s.0 small) stands free form opens
