-- The word of a row with values for its fields, and the rows and values of a word.
use Rattle.std.specs.Prelude.{ℕ, ◌≡◌, ◌+◌, ◌-◌, ◌*◌, ◌/◌, ◌%◌, ◌^◌, ◌<◌, List, [], ◌∷◌, map}
use Rattle.std.specs.Prelude.{bit_and, IsTrue}
use Rattle.a64_rows.specs.declared.row_table.Row.{Row}
use Rattle.a64_rows.specs.declared.slots.Slot.{Slot}
use Rattle.a64_rows.specs.declared.slots.Slot.TheVariants.{Bits, Doubled}
use Rattle.a64_rows.specs.Rows.{fixed_of, slots_of}
use Rattle.a64_rows.specs.RowLimits.{limits_of}

-- where a field is read
abbrev pub place_of : Slot → ℕ
place_of (Bits lowest _) = lowest
place_of Doubled = 31

-- how many bits a value of a field has
abbrev pub width_of : Slot → ℕ
width_of (Bits _ width) = width
width_of Doubled = 1

-- what a one in a field adds to the word
abbrev pub weight_of : Slot → ℕ
weight_of (Bits lowest _) = 2 ^ lowest
weight_of Doubled = 2 ^ 31 + 2 ^ 22

-- what the values of fields add to the word: each times its power of two
abbrev pub sum_of : List Slot → List ℕ → ℕ
sum_of (slot ∷ slots) (value ∷ values) = value * weight_of slot + sum_of slots values
sum_of _ _ = 0

-- the fixed word plus the values of the fields at their places
abbrev pub row_word : Row → List ℕ → ℕ
row_word row fields = fixed_of row + sum_of (slots_of row) fields

-- as many values as fields, each within the width of its own
abbrev pub FitSlots : List Slot → List ℕ → Type 0
FitSlots [] [] = Unit {0}
FitSlots (slot ∷ slots) (value ∷ values) = (value < 2 ^ width_of slot) × FitSlots slots values
FitSlots _ _ = ⊥

-- a row with values for its fields: as many as it has, each in its width, and its limits met
abbrev pub IsForm : Row → List ℕ → Type 0
IsForm row fields = FitSlots (slots_of row) fields × IsTrue (limits_of row fields)

-- the row with these values has this word
abbrev pub IsWordOf : Row → List ℕ → ℕ → Type 0
IsWordOf row fields word = IsForm row fields × (row_word row fields ≡ word)

-- no other row or values have this word
abbrev pub IsOnlyFormOf : Row → List ℕ → ℕ → Type 0
IsOnlyFormOf row fields word =
    (other : Row) (values : List ℕ) → IsWordOf other values word → (other ≡ row) × (values ≡ fields)

-- what a word has in a field
abbrev pub value_in : ℕ → Slot → ℕ
value_in word slot = word / 2 ^ place_of slot % 2 ^ width_of slot

-- the bits that a field takes up
abbrev pub mask_of : Slot → ℕ
mask_of (Bits lowest width) = 2 ^ (width + lowest) - 2 ^ lowest
mask_of Doubled = 2 ^ 31 + 2 ^ 22

-- the bits that fields take up
abbrev pub mask_of_all : List Slot → ℕ
mask_of_all [] = 0
mask_of_all (slot ∷ slots) = mask_of slot + mask_of_all slots

-- the bits of a word outside a row's fields
abbrev pub fixed_mask : Row → ℕ
fixed_mask row = 2 ^ 32 - 1 - mask_of_all (slots_of row)

-- a word has the two bits of a field that stands twice alike
abbrev pub HasTwins : List Slot → ℕ → Type 0
HasTwins [] word = Unit {0}
HasTwins (Bits _ _ ∷ slots) word = HasTwins slots word
HasTwins (Doubled ∷ slots) word = (word / 2 ^ 31 % 2 ≡ word / 2 ^ 22 % 2) × HasTwins slots word

-- a word matches a row: outside the fields its bits are those of the fixed word, the bits of a
-- field that stands twice are alike, and what it has in the fields meets the limits
abbrev pub Matches : Row → ℕ → Type 0
Matches row word =
    (bit_and word (fixed_mask row) ≡ fixed_of row)
    × HasTwins (slots_of row) word
    × IsTrue (limits_of row (map (value_in word) (slots_of row)))

-- ---- forms as values, and the names of their fields

-- a row with the values of its fields, in the row's order
pub record Form : Type 0 where
  pub row : Row
  pub fields : List ℕ

abbrev pub form : Row → List ℕ → Form
form row fields = record { row = row; fields = fields }

-- the word of a form
abbrev pub form_word : Form → ℕ
form_word form = row_word form.row form.fields

-- as many values as the row has fields, each in its width, and the row's limits met
abbrev pub IsFormOf : Form → Type 0
IsFormOf form = IsForm form.row form.fields

-- a value with the name of a field, which says where a row has that field
abbrev pub NamedValue : Type 0
NamedValue = ℕ × (Row → Slot)

-- a form has these values under these names: they are the values of all its fields, and its row has
-- each field at the place of the name
pub record IsPlaced (form : Form) (named : List NamedValue) : Type 0 where
  pub values : form.fields ≡ map (λ v. v.0) named
  pub slots : slots_of form.row ≡ map (λ v. v.1 form.row) named

-- what named values add to a word of a row: each times what a one adds at the place of its name
abbrev pub named_sum : Row → List NamedValue → ℕ
named_sum row [] = 0
named_sum row (v ∷ named) = v.0 * weight_of (v.1 row) + named_sum row named
