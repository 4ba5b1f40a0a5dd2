-- Finished code is read back, cell by cell, as the forms of its items.
use Rattle.std.proofs.Common.{ℕ, ◌≡◌, ◌<◌, List, length, get_or, map, Option, None, nat_cmp, subst}
use Rattle.std.specs.Prelude.{All, MatchOption}
use Rattle.std.specs.FinMap.{FinMap}
use Rattle.a64_inst.specs.declared.emission.EmitFlags.{EmitFlags}
use Rattle.a64_inst.specs.declared.frame.FrameLayout.{FrameLayout}
use Rattle.a64_inst.specs.declared.item.Item.{Item}
use Rattle.a64_buffer.specs.declared.finish.Finished.{Finished}
use Rattle.a64_buffer.specs.declared.force.ForceVeneers.{ForceVeneers}
use Rattle.a64_words.specs.Word.{word_at}
use Rattle.a64_buffer.specs.Buffer.{Buffer, IsFree}
use Rattle.a64_buffer.specs.Finished.{IsFinished}
use Rattle.a64_emit.specs.declared.code.Code.{Code}
use Rattle.a64_label_use.specs.declared.label_use.LabelUse.{LabelUse}
use Rattle.a64_cells.specs.declared.site.Site.{Site}
use Rattle.a64_label_use.specs.LabelUses.{label_kinds}
use Rattle.a64_cells.specs.Shapes.{Cell}
use Rattle.a64_cells.specs.Cells.{cell_word, cells_of}
use Rattle.a64_emit.specs.Emission.{HasUse}
use Rattle.a64_cells.specs.FormCells.{IsFormCell, RestoresHalfwords, HoldsHalfword}
use Rattle.a64_emit.specs.Faults.{own_fault}
use Rattle.a64_emit.specs.Layout.{standing, Laid}
use Rattle.a64_emit.proofs.InstForms.{item_forms}
use Rattle.a64_assemble.specs.Elements.{elements_of}
use Rattle.a64_assemble.specs.Progress.{HasPut}
use Rattle.a64_assemble.specs.ReadBack.{IsReadBack}
use Rattle.a64_assemble.proofs.Arrivals.{IsOutput, free_stands}
use Rattle.a64_assemble.proofs.Everywhere.{standing_all}
use Rattle.a64_assemble.proofs.Leading.{all_put}
use Rattle.a64_assemble.proofs.OpenCells.{item_open}
use Rattle.a64_assemble.proofs.Owns.{none_at}
use Rattle.a64_assemble.proofs.ReadingBack.{IsOpenCell, reads_back}

-- where a cell that is no use stands, its word stands as it was put
abbrev pub StandsFree : List ℕ → ℕ × Cell → Type 0
StandsFree bytes s = s.1.site ≡ None → word_at bytes s.0 ≡ cell_word s.1

module _ (frame : FrameLayout) (flags : EmitFlags) (items : List Item) where
  -- the words of cells that are no uses stand as they were put
  pub all_free : (force : ForceVeneers) (b : Buffer LabelUse) (code : Finished) (f : IsFinished label_kinds b code) (out : Code) (o : IsOutput code out) → HasPut force (elements_of frame flags items) (length (elements_of frame flags items)) out.places.items b → All (StandsFree out.bytes.items) (standing (map (cells_of frame flags) items) out.places.items)
  all_free force b code f out o h k d w =
      let s : ℕ × Cell = get_or (standing (map (cells_of frame flags) items) out.places.items) k d in
      let put = all_put frame flags items force b code f out o h k d w in
      λ none. free_stands b code f out o s put (subst (λ (site : Option Site). MatchOption site (IsFree b.uses s.0) (HasUse b.uses s.0)) none put.site)

  -- each finished word is read back as the cell that stands there
  pub items_read_back : (constants : FinMap nat_cmp (List ℕ)) (code : Code) → RestoresHalfwords frame → All HoldsHalfword items → own_fault frame flags constants items ≡ None → ((k : ℕ) → get_or code.bytes.items k 0 < 256) → Laid frame flags items code → All (StandsFree code.bytes.items) (standing (map (cells_of frame flags) items) code.places.items) → All (IsReadBack code.bytes.items) (standing (map (cells_of frame flags) items) code.places.items)
  items_read_back constants code restored fit none small laid free k d w =
      let forms = standing_all IsFormCell (cells_of frame flags) items code.places.items (λ i e h. item_forms frame flags restored constants (get_or items i e) (fit i e h) (none_at frame flags constants 0 items i e none h)) in
      let opens = standing_all IsOpenCell (cells_of frame flags) items code.places.items (λ i e h. item_open frame flags (get_or items i e)) in
      reads_back code.bytes.items (get_or (standing (map (cells_of frame flags) items) code.places.items) k d) small (laid.cells k d w) (free k d w) (forms k d w) (opens k d w)
