-- Fields with where they stand, and what the table of instruction words has of a row.
use Rattle.std.specs.Prelude.{ℕ, List, false, true}
use Rattle.a64_rows.specs.declared.field.FieldName.{FieldName}
use Rattle.a64_rows.specs.declared.slots.FieldAt.{FieldAt}
use Rattle.a64_rows.specs.declared.slots.Slot.{Slot}
use Rattle.a64_rows.specs.declared.slots.Slot.TheVariants.{Bits, Doubled}

-- a field: its name, and where it stands
abbrev pub Field : Type 0
Field = FieldName × Slot

-- a row: its bits outside the fields, and its fields in the order of its values
pub record Entry : Type 0 where
  pub fixed : ℕ
  pub fields : List Field

abbrev pub entry : ℕ → List Field → Entry
entry fixed fields = record { fixed = fixed; fields = fields }

-- the lowest bit of a field, its width, and whether it stands a second time
abbrev pub field_of : Slot → FieldAt
field_of (Bits lowest width) = record { at = lowest; width = width; doubled = false }
field_of Doubled = record { at = 31; width = 1; doubled = true }
