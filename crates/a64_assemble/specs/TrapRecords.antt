-- What a buffer has recorded of traps, with islands between items.
use Rattle.std.specs.Prelude.{ℕ, ◌≡◌, ◌⊎◌, ◌<◌, List, All, Contains, map, length, slice_index_or}
use Rattle.std.specs.Prelude.{Some}
use Rattle.std.specs.List.Sorted.{IsStrictlyIncreasing}
use Rattle.a64_base.specs.declared.entity.TrapCode.{TrapCode}
use Rattle.a64_buffer.specs.declared.site.Use.{Use}
use Rattle.a64_buffer.specs.declared.site.Target.TheVariants.{Trap}
use Rattle.a64_buffer.specs.Buffer.{Buffer, end_of}
use Rattle.a64_label_use.specs.declared.label_use.LabelUse.{LabelUse}
use Rattle.a64_cells.specs.Shapes.{Cell}
use Rattle.a64_emit.specs.Layout.{traps_in}

-- the use of a deferred trap stops where the trap is recorded
pub record IsStoppedTrap (b : Buffer LabelUse) (t : ℕ × TrapCode) : Type 0 where
  pub index : ℕ
  pub within : index < length b.uses
  pub target : (d : Use LabelUse) → (slice_index_or b.uses index d).target ≡ Trap t.1
  pub stop : (d : Use LabelUse) → (slice_index_or b.uses index d).stop ≡ Some t.0

-- a buffer has recorded the traps of cells at their places and those of deferred traps at their
-- stops, and no others, by place
pub record HasTraps (cells : List (ℕ × Cell)) (b : Buffer LabelUse) : Type 0 where
  pub ordered : IsStrictlyIncreasing (map (λ t. t.0) b.traps)
  pub below : All (λ t. t.0 < end_of b) b.traps
  pub known : (t : ℕ × TrapCode) → Contains b.traps t
      → Contains (traps_in cells) t ⊎ IsStoppedTrap b t
  pub own : (t : ℕ × TrapCode) → Contains (traps_in cells) t → Contains b.traps t
