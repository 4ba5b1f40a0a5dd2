-- Whether there is room for an instruction, by the most that it may add to the code.
use Rattle.std.specs.Prelude.{ℕ, ◌≡◌, ◌+◌, ◌*◌, ◌^◌, ◌<◌, ◌≤◌, true, All, List, length, None, Some}
use Rattle.a64_inst.specs.declared.emission.EmitFlags.{EmitFlags}
use Rattle.a64_inst.specs.declared.frame.FrameLayout.{FrameLayout}
use Rattle.a64_inst.specs.declared.inst.Inst.{Inst}
use Rattle.a64_buffer.specs.Buffer.{Buffer, end_of}
use Rattle.a64_buffer.specs.Classes.{Fits, level_of, owed, range_of, wants}
use Rattle.a64_label_use.specs.declared.label_use.LabelUse.{LabelUse}
use Rattle.a64_label_use.specs.LabelUses.{label_kinds}
use Rattle.a64_emit.specs.Bounds.{asked_of, charge_of, ranges_in, size_of}
use Rattle.a64_cells.specs.Shapes.{Cell}
use Rattle.a64_cells.specs.Cells.{inst_cells, sites_of}
use Rattle.a64_emit.specs.Contents.{site_class}

-- each use of cells that may want something of an island reaches over all of them, and over what
-- their uses may want there
abbrev pub AreCompact : List Cell → Type 0
AreCompact cells =
    All (λ s. wants (site_class s) ≡ true
    → size_of cells + 28 * length (ranges_in cells) + 4
    ≤ range_of label_kinds (level_of (site_class s))) (sites_of cells)

module _ (frame : FrameLayout) (flags : EmitFlags) where
  -- the most that an instruction adds to the code: its words, and what islands may add because of
  -- it; at a place for an island that is the jump around it
  abbrev pub most_added : Inst → ℕ
  most_added inst =
      size_of (inst_cells frame flags inst) + elim (asked_of inst)
      [ None ↦ charge_of (inst_cells frame flags inst) | Some space ↦ 4 ]

  -- there is room for an instruction: with all that it adds, and all that is open may add, the code
  -- is shorter than 2^31 bytes; and all open uses still reach over what it adds. At a place for an
  -- island they need not
  pub record HasRoomFor (b : Buffer LabelUse) (inst : Inst) : Type 0 where
    pub room : end_of b + owed label_kinds b + most_added inst < 2 ^ 31
    pub fits : asked_of inst ≡ None → Fits label_kinds b (most_added inst)
