-- Forms that raw bits and registers name together.
use Rattle.std.specs.Prelude.{ℕ, ◌≡◌, ◌+◌, ◌*◌, ◌^◌, ◌<◌, List, [], ◌∷◌}
use Rattle.std.specs.List.{Contains}
use Rattle.a64_rows.specs.declared.row_table.Row.{Row}
use Rattle.a64_rows.specs.declared.row_table.Row.TheVariants.{AddSubReg, LogicReg, AddSubExt}
use Rattle.a64_rows.specs.declared.row_table.Row.TheVariants.{AddSubCarry, DataProc2, MulHigh}
use Rattle.a64_rows.specs.declared.row_table.Row.TheVariants.{MulAdd, MulAddLong, Extract}
use Rattle.a64_rows.specs.declared.row_table.Row.TheVariants.{CondSelect}
use Rattle.a64_rows.specs.Forms.{Form, form_word, IsFormOf}

-- a form that is named by a number in which raw bits and registers stand at their places: the
-- number is its word, and its row is one of those whose registers stand where these do
pub record NamedForm (rows : List Row) (number : ℕ) : Type 0 where
  pub form : Form
  pub listed : Contains rows form.row
  pub within : IsFormOf form
  pub word : form_word form ≡ number

-- the word's bits 31 to 21 and 15 to 10, and Rd, Rn and Rm
abbrev pub rrr_number : ℕ → ℕ → ℕ → ℕ → ℕ → ℕ
rrr_number bits_31_21 bits_15_10 rd rn rm =
    bits_31_21 * 2 ^ 21 + rm * 2 ^ 16 + bits_15_10 * 2 ^ 10 + rn * 2 ^ 5 + rd

-- the rows that have Rd, Rn and Rm at these places, all general; a third operand Ra is among the
-- raw bits
abbrev pub rows_of_rrr : List Row
rows_of_rrr =
    AddSubReg ∷ LogicReg ∷ AddSubExt ∷ AddSubCarry ∷ DataProc2 ∷ MulHigh ∷ Extract ∷ CondSelect
    ∷ MulAdd ∷ MulAddLong ∷ []

-- the word's bits 31 to 21 and its bit 15, and Rd, Rn, Ra and Rm
abbrev pub rrrr_number : ℕ → ℕ → ℕ → ℕ → ℕ → ℕ → ℕ
rrrr_number bits_31_21 bit_15 rd rn ra rm =
    bits_31_21 * 2 ^ 21 + rm * 2 ^ 16 + bit_15 * 2 ^ 15 + ra * 2 ^ 10 + rn * 2 ^ 5 + rd

-- the rows whose registers are Rd, Rn, Ra and Rm, all general
abbrev pub rows_of_rrrr : List Row
rows_of_rrrr = MulAdd ∷ MulAddLong ∷ []

-- each part of such a number is below the power of two of its width
abbrev pub AreParts : ℕ → ℕ → ℕ → ℕ → ℕ → Type 0
AreParts bits_31_21 bits_15_10 rd rn rm =
    (bits_31_21 < 2 ^ 11) × (bits_15_10 < 2 ^ 6) × (rd < 2 ^ 5) × (rn < 2 ^ 5) × (rm < 2 ^ 5)

abbrev pub AreProductParts : ℕ → ℕ → ℕ → ℕ → ℕ → ℕ → Type 0
AreProductParts bits_31_21 bit_15 rd rn ra rm =
    (bits_31_21 < 2 ^ 11) × (bit_15 < 2) × (rd < 2 ^ 5) × (rn < 2 ^ 5) × (ra < 2 ^ 5) × (rm < 2 ^ 5)
