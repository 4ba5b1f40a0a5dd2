-- What the table of instruction words says of a row.
use Rattle.std.specs.Prelude.{ℕ, List, map}
use Rattle.a64_rows.specs.declared.row_table.Row.{Row}
use Rattle.a64_rows.specs.declared.field.FieldName.TheVariants as name
use Rattle.a64_rows.specs.declared.slots.Slot.{Slot}
use Rattle.a64_rows.specs.declared.slots.Slot.TheVariants.{Doubled}
use Rattle.a64_rows.specs.Entries.{entry_of}
pub use Rattle.a64_rows.specs.Entries.{name_of}
pub use Rattle.a64_rows.specs.Slots.{Field}

-- the fixed word of a row: its bits outside the fields
abbrev pub fixed_of : Row → ℕ
fixed_of row = (entry_of row).fixed

-- the fields of a row
abbrev pub fields_of : Row → List Field
fields_of row = (entry_of row).fields

-- where the fields of a row stand: the lowest bit and the width of each, or the one bit that stands
-- at 31 and at 22
abbrev pub slots_of : Row → List Slot
slots_of row = map (λ f. f.1) (fields_of row)

-- what is read where a row has no further field
abbrev pub no_field : Field
no_field = (name.Sf, Doubled)
