-- What words add to code that need no label near.
use Rattle.std.specs.Prelude.{ℕ, ◌≡◌, ◌+◌, false, List, [], ◌∷◌, Option, None}
use Rattle.std.specs.List.{list_any}
use Rattle.a64_base.specs.declared.entity.TrapCode.{TrapCode}
use Rattle.a64_inst.specs.declared.frame.FrameLayout.{FrameLayout}
use Rattle.a64_inst.specs.declared.mode.AMode.{AMode}
use Rattle.a64_inst.specs.Modes.{base_offset_of}
use Rattle.a64_emit.specs.declared.extent.Light.{Light}
use Rattle.a64_cells.specs.Shapes.{Body, Cell, last_cell}
use Rattle.a64_cells.specs.Cells.{mode_site, sites_of, two_uses, uses_of}
use Rattle.a64_emit.specs.Bounds.{charge_of, least, ranges_in, size_of}
use Rattle.a64_emit.specs.Reach.{is_near}

pub record IsLight (cells : List Cell) (growth : ℕ) (light : Light) : Type 0 where
  pub uses : uses_of 0 cells ≡ two_uses light.first light.second
  pub far : list_any is_near (sites_of cells) ≡ false
  pub growth_is : light.growth ≡ growth
  pub range_is : light.range ≡ least (ranges_in cells)

-- an access in a mode is one word, whatever its form
pub record IsModeLight (mem : AMode) (light : Light) : Type 0 where
  pub held : (frame : FrameLayout) → base_offset_of frame mem ≡ None
  pub word : (body : Body) (trap : Option TrapCode)
      → IsLight (last_cell body (mode_site mem) trap
      ∷ []) (size_of (last_cell body (mode_site mem) trap
      ∷ []) + charge_of (last_cell body (mode_site mem) trap ∷ [])) light
