-- Whose the uses of a buffer are that may want something of an island.
use Rattle.std.specs.Prelude.{ℕ, ◌≡◌, ◌⊎◌, ◌+◌, ◌/◌, ◌<◌, ◌≤◌, true, List, All, Contains, map, take}
use Rattle.std.specs.Prelude.{length, slice_index, slice_index_or, Some, IsSome}
use Rattle.a64_buffer.specs.declared.site.Use.{Use}
use Rattle.a64_buffer.specs.Buffer.{Buffer, end_of, label_of}
use Rattle.a64_buffer.specs.Classes.{wants, class}
use Rattle.a64_label_use.specs.declared.label_use.LabelUse.{LabelUse}
use Rattle.a64_label_use.specs.declared.label_use.LabelUse.TheVariants as uses
use Rattle.a64_label_use.specs.LabelUses.{label_kinds}
use Rattle.a64_cells.specs.Shapes.{Cell}
use Rattle.a64_emit.specs.Layout.{standing}
use Rattle.a64_emit.specs.Emission.{site_of}
use Rattle.a64_emit.specs.Contents.{IsCellUse}
use Rattle.a64_assemble.specs.Elements.{Element, cells_in}

module _ (cells : List (ℕ × Cell)) (b : Buffer LabelUse) where
  -- the use of a jump word in an island, of a label: a shorter branch of a cell, with the same
  -- label, stops there
  pub record IsGivenJump (u : Use LabelUse) : Type 0 where
    pub kind : u.kind ≡ uses.Branch26
    pub labelled : IsSome (label_of u.target)
    pub inside : u.offset + 4 ≤ end_of b
    pub word : slice_index b.words (u.offset / 4) ≡ 0x14000000
    pub island : ℕ × ℕ
    pub listed : Contains b.islands island
    pub from : island.0 ≤ u.offset
    pub before : u.offset + 4 ≤ island.1
    pub parent : ℕ
    pub within : parent < length b.uses
    pub short : (d : Use LabelUse)
        → ((slice_index_or b.uses parent d).kind ≡ uses.Branch14)
        ⊎ ((slice_index_or b.uses parent d).kind ≡ uses.Branch19)
    pub target : (d : Use LabelUse) → (slice_index_or b.uses parent d).target ≡ u.target
    pub owned : (d : Use LabelUse) → IsCellUse cells (site_of (slice_index_or b.uses parent d))
    pub stops : (d : Use LabelUse) → (slice_index_or b.uses parent d).stop ≡ Some u.offset

  -- a use that may want something of an island is a cell's, or such a jump
  abbrev pub IsOwned : Use LabelUse → Type 0
  IsOwned u = wants (class label_kinds u) ≡ true → IsCellUse cells (site_of u) ⊎ IsGivenJump u

-- all uses that may want something are those of the first elements' cells, or of such jumps
abbrev pub AreOwned : List Element → ℕ → List ℕ → Buffer LabelUse → Type 0
AreOwned xs count places b = All (IsOwned (standing (map cells_in (take count xs)) places) b) b.uses
