-- What a buffer has recorded of cells, with islands between items.
use Rattle.std.specs.Prelude.{ℕ, ◌≡◌, List, map, take}
use Rattle.a64_buffer.specs.Buffer.{Buffer}
use Rattle.a64_label_use.specs.declared.label_use.LabelUse.{LabelUse}
use Rattle.a64_cells.specs.Shapes.{Cell}
use Rattle.a64_emit.specs.Layout.{standing, records_in}
use Rattle.a64_assemble.specs.Elements.{Element, cells_in}
use Rattle.a64_assemble.specs.TrapRecords.{HasTraps}

-- a buffer has recorded what cells at their places record, and beside the traps of islands no more
pub record HasRecorded (cells : List (ℕ × Cell)) (b : Buffer LabelUse) : Type 0 where
  pub traps : HasTraps cells b
  pub records : b.records ≡ records_in cells

-- the cells are those of the first elements
abbrev pub AreRecorded : List Element → ℕ → List ℕ → Buffer LabelUse → Type 0
AreRecorded xs count places b = HasRecorded (standing (map cells_in (take count xs)) places) b
