-- Where the uses of cells stop: ahead of themselves, and branches at veneers of their own.
use Rattle.std.specs.Prelude.{ℕ, ◌≡◌, ◌≢◌, ◌⊎◌, ◌<◌, true, List, IsSome}
use Rattle.a64_inst.specs.declared.emission.EmitFlags.{EmitFlags}
use Rattle.a64_inst.specs.declared.frame.FrameLayout.{FrameLayout}
use Rattle.a64_inst.specs.declared.item.Item.{Item}
use Rattle.a64_buffer.specs.Buffer.{label_of}
use Rattle.a64_buffer.specs.Classes.{wants}
use Rattle.a64_emit.specs.declared.code.Code.{Code}
use Rattle.a64_cells.specs.declared.site.Site.{Site}
use Rattle.a64_emit.specs.Contents.{site_class, IsCellUse}
use Rattle.a64_assemble.specs.Placement.{standing_cells, UseStopsAt, IsLabelAt}

module _ (frame : FrameLayout) (flags : EmitFlags) (items : List Item) (code : Code) where
  -- a cell's use that may want something of an island stops at a place
  pub record IsStopOf (u : ℕ × Site) (stop : ℕ) : Type 0 where
    pub is : IsCellUse (standing_cells frame flags items code) u
    pub wanting : wants (site_class u.1) ≡ true
    pub stops : UseStopsAt frame flags items code u.0 u.1.kind stop

  -- each stops ahead of itself, and goes back to nothing that stands in an island before it; but a
  -- branch may stop at its label's place, wherever that is
  abbrev pub StopAhead : Type 0
  StopAhead =
      (u : ℕ × Site) (stop : ℕ) → IsStopOf u stop
      → (u.0 < stop) ⊎ IsLabelAt frame flags items code u stop

  -- two branches stop at one place only where the label of one of them stands: each veneer serves
  -- one of them
  abbrev pub HaveOwnVeneers : Type 0
  HaveOwnVeneers =
      (u v : ℕ × Site) (stop : ℕ) → u.0 ≢ v.0 → IsSome (label_of u.1.target)
      → IsSome (label_of v.1.target)
      → IsStopOf u stop → IsStopOf v stop
      → IsLabelAt frame flags items code u stop ⊎ IsLabelAt frame flags items code v stop
