use Rattle.std.proofs.Common.{List, Bool, ◌∙◌, ◌+◌, ◌<◌, length, map, slice_index_or, sym, ap, subst, arith}
use Rattle.std.proofs.lemmas.List.{length-map}
use Rattle.a64_inst.specs.declared.inst.Inst.{Inst}
use Rattle.a64_cells.specs.Cells.{restored_cell}
use Rattle.a64_data.specs.Marks.{Marks}
use Rattle.a64_data.proofs.Placing.{IsDataBefore, before_all, before_more, before_same, mapped}
use Rattle.a64_data.proofs.words.mark_restored.Goals.{then-is_restored_data, else-is_restored_data}
use Rattle.a64_data.proofs.words.mark_restored.Goals as goal

pub loop-index-preserved : goal.loop-index-preserved
loop-index-preserved c =
    let cell = restored_cell c.args.frame.now c.args.info.now in
    let restore = c.args.frame.now.restore in
    let cells = map cell restore in
    let index = c.loop-index.index in
    let item = c.inst-item.result in
    let same = c.as_slice-inst-items.ensures in
    let lt : index < length restore = omega (arith, c.loop-index-test.true, ap (λ (xs : List Inst). length xs) same) in
    let at = mapped cell restore index item lt (c.inst-item.is ∙ ap (λ (xs : List Inst). slice_index_or xs index item) same) in
    let old = c.args.marks.now in
    elim c.if-is_restored_data.branch [
      | then-is_restored_data w ↦
          subst (λ (m : List Bool). Marks (IsDataBefore cells c.args.place (index + 1)) old m) (sym w.marks-is)
          (before_more cells c.args.place index (at ∙ sym c.is_restored_data.ensures ∙ w.if-is_restored_data.true) old c.loop-index.marks w.mark_words.new.marks c.loop-index.invariant w.mark_words.ensures)
      | else-is_restored_data w ↦
          subst (λ (m : List Bool). Marks (IsDataBefore cells c.args.place (index + 1)) old m) (sym w.marks-is)
          (before_same cells c.args.place index (at ∙ sym c.is_restored_data.ensures ∙ w.if-is_restored_data.false) old c.loop-index.marks c.loop-index.invariant)
    ]

pub returns : goal.returns
returns c =
    let cell = restored_cell c.args.frame.now c.args.info.now in
    let restore = c.args.frame.now.restore in
    let same = c.as_slice-inst-items.ensures in
    before_all (map cell restore) c.args.place c.loop-index.index (omega (arith, c.loop-index-test.false, length-map restore cell, ap (λ (xs : List Inst). length xs) same)) c.args.marks.now c.loop-index.marks c.loop-index.invariant
