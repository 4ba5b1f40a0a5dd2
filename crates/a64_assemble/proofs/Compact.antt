-- Each use of an item reaches over its words, and over what its uses may want behind them.
use Rattle.std.proofs.Common.{ℕ, List, [], get_or, Option, None, Some}
use Rattle.std.specs.Prelude.{All}
use Rattle.std.proofs.lemmas.List.Elements.{All-map}
use Rattle.a64_inst.specs.declared.emission.EmitFlags.{EmitFlags}
use Rattle.a64_inst.specs.declared.frame.FrameLayout.{FrameLayout}
use Rattle.a64_inst.specs.declared.item.Item.{Item}
use Rattle.a64_inst.specs.declared.item.Item.TheVariants.{Bind, Emit}
use Rattle.a64_cells.specs.Cells.{inst_cells, kept_by, kept_cells}
use Rattle.a64_emit.specs.Bounds.{asked_of}
use Rattle.a64_assemble.specs.Elements.{Words, Asking, element_of, elements_of, IsCompact}
use Rattle.a64_emit.proofs.Compact.{no_sites, inst_compact, kept_compact}
use Rattle.a64_emit.specs.Falls.{inst_falls}

module _ (frame : FrameLayout) (flags : EmitFlags) where
  element_compact : (x : Item) → IsCompact (element_of frame flags x)
  element_compact (Bind label) = no_sites []
  element_compact (Emit inst kept) = go (asked_of inst)
    where
      go : (o : Option ℕ) → IsCompact (elim o [ None ↦ Words (inst_falls inst) (kept_cells frame flags inst kept) | Some space ↦ Asking space ])
      go None = kept_compact (kept_by inst kept) (inst_cells frame flags inst) (inst_compact frame flags inst)
      go (Some space) = no_sites []

  -- items are compact
  pub all_compact : (items : List Item) → All IsCompact (elements_of frame flags items)
  all_compact items = All-map IsCompact (element_of frame flags) items (λ k d w. element_compact (get_or items k d))
