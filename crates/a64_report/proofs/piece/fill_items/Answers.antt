use Rattle.std.proofs.Common.{◌≡◌, ◌-◌, ◌++◌, ◌∙◌, ap, sym, refl, arith, length, take, drop, length-drop}
use Rattle.std.proofs.lemmas.List.{length-take-le, take-take, take_all}
use Rattle.a64_report.specs.Kept.{item_lines}
use Rattle.a64_report.proofs.LineRuns.{items_moved, front_stays}
use Rattle.a64_report.proofs.piece.fill_items.Goals as goal

pub slice_bounds-text-end-2 : goal.slice_bounds-text-end-2
slice_bounds-text-end-2 c = sym (length-take-le 65536 c.args.text.now (omega (arith, c.requires.text)))

pub loop-index-init : goal.loop-index-init
loop-index-init c = (
  length-take-le 65536 c.args.text.now (omega (arith, c.requires.text)),
  c.requires.text.1,
  omega arith,
  c.requires.item,
  λ same. refl,
  ap (λ t. t ++ item_lines c.args.places.now c.args.from) (take-take c.args.len 65536 c.args.text.now c.requires.text.1),
)

pub loop-index-preserved : goal.loop-index-preserved
loop-index-preserved c =
    let i = c.loop-index.invariant in
    let p = c.copy_from-count.ensures in
    let places = c.args.places.now in
    let index = c.loop-index.index in
    let rest = take (length places - index) (drop index places) in
    let long = length-drop index places in
    let is : rest ≡ drop index places = take_all (length places - index) (drop index places) (omega arith) in (
      omega (arith, p.long, i.0),
      omega (arith, p.few, i.0),
      omega (arith, i.2, p.within),
      omega (arith, p.within.1, ap length is, c.loop-index-test.true),
      λ same. absurd (omega (arith, i.2, p.within)),
      items_moved places rest (take c.loop-index.at c.loop-index.text) (take c.copy_from-count.result.1 c.copy_from-count.new.text) index c.copy_from-count.result.0 is p.within.1 p.copied
          ∙ i.5,
    )

pub returns-else-at-clause-filled : goal.returns-else-at-clause-filled
returns-else-at-clause-filled c =
    let low = c.loop-index.invariant.1 in
    let long = c.loop-index.invariant.0 in
    front_stays c.loop-index.at c.loop-index.text _ _ (omega arith) c.loop-index.invariant.5

pub returns-after-loop-index-clause-filled : goal.returns-after-loop-index-clause-filled
returns-after-loop-index-clause-filled c =
    let low = c.loop-index.invariant.1 in
    let long = c.loop-index.invariant.0 in
    front_stays c.loop-index.at c.loop-index.text _ _ (omega arith) c.loop-index.invariant.5
