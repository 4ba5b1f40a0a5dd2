-- What is found of items whose labels are bound and whose code can be addressed.
use Rattle.std.specs.Prelude.{ℕ, ◌≡◌, ◌≢◌, ◌<◌, ◌+◌, ◌-◌, ◌^◌, List, None}
use Rattle.a64_inst.specs.declared.emission.EmitFlags.{EmitFlags}
use Rattle.a64_inst.specs.declared.frame.FrameLayout.{FrameLayout}
use Rattle.a64_inst.specs.declared.item.Item.{Item}
use Rattle.a64_emit.specs.declared.extent.Extent.{Extent}
use Rattle.a64_emit.specs.Bounds.{whole, shortest, saturated}
use Rattle.a64_emit.specs.Faults.{unbound_use, too_large}
use Rattle.a64_emit.specs.Reach.{has_near}
use Rattle.a64_assemble.specs.declared.checks.Found.{Found}
use Rattle.a64_assemble.specs.Elements.{BoundsRooms, elements_of}

pub record IsFound (frame : FrameLayout) (flags : EmitFlags) (items : List Item) (found : Found) :
    Type 0 where
  pub all_bound : unbound_use frame flags items ≡ None
  pub addressed : too_large frame flags items ≡ None
  pub short : whole frame flags items < 2 ^ 31
  pub size_is : found.size ≡ whole frame flags items
  pub shortest_is : found.shortest ≡ shortest frame flags items
  pub near_is : found.near ≡ has_near frame flags items
  pub wide : BoundsRooms found.widest (elements_of frame flags items)

-- how many bytes the words of an item with this extent may need behind the item before them, and a
-- jump over an island more; of a place for an island it is the greatest number of 32 bits
pub record IsWidth (extent : Extent) (width : ℕ) : Type 0 where
  pub place : extent.size ≡ 0 → extent.charge ≢ 0 → width ≡ 2 ^ 32 - 1
  pub words : (extent.size ≡ 0 → extent.charge ≡ 0)
      → width ≡ saturated (extent.size + extent.charge)
