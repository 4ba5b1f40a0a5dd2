use Rattle.std.proofs.Common.{ℕ, List, Bool, Vec, Global, false, ◌≡◌, ◌∙◌, arith, length, replicate, ap, subst}
use Rattle.std.proofs.lemmas.List.{length-replicate}
use Rattle.std.proofs.lemmas.Result.{IfOk-weaker}
use Rattle.a64_data.specs.declared.range.DataRange.{DataRange}
use Rattle.a64_data.specs.Cells.{AreRangesWith, IsItemData}
use Rattle.a64_data.specs.Marks.{AreRangesOf, Marks}
use Rattle.a64_data.proofs.Marking.{no_mark, take_whole}
use Rattle.a64_data.proofs.Runs.{ranges_with}
use Rattle.a64_data.proofs.data_ranges.item_data_ranges.Goals as goal

pub returns : goal.returns
returns c =
    let bytes = c.args.code.now.bytes.items in
    let size = length bytes in
    let new = c.mark_items.new.marks in
    let none = replicate size false in
    let P = IsItemData c.args.frame.now c.args.info.now c.args.items.now c.args.code.now.places.items in
    let long : c.in_ok-marks.marks.len ≡ length new = omega (arith, c.as_mut_slice.ensures.len, c.mark_items.ensures.same_length) in
    let same : c.as_slice.result.now ≡ new = take_whole _ new _ _ c.as_slice.ensures.value long in
    let bare : c.as_mut_slice.result.now ≡ none = c.as_mut_slice.ensures.value ∙ c.in_ok-marks.ensures ∙ ap (λ (bs : List ℕ). replicate (length bs) false) c.as_slice-bytes.ensures.value in
    let places : c.deref.result.now ≡ c.args.code.now.places.items = c.deref.ensures.value in
    let marks : Marks P none new = subst (λ (ps : List ℕ). Marks (IsItemData c.args.frame.now c.args.info.now c.args.items.now ps) none new) places (subst (λ (m : List Bool). Marks (IsItemData c.args.frame.now c.args.info.now c.args.items.now c.deref.result.now) m new) bare c.mark_items.ensures) in
    IfOk-weaker c.ranges_of.result (λ (ranges : Vec DataRange Global). AreRangesOf c.as_slice.result.now ranges.items) (λ (ranges : Vec DataRange Global). AreRangesWith P size ranges.items)
    (λ ranges are. ranges_with P none new size (length-replicate size false) (no_mark size) marks ranges.items (subst (λ (m : List Bool). AreRangesOf m ranges.items) same are))
    c.ranges_of.ensures
