use Rattle.std.proofs.Common.{List, Bool, ◌+◌, length, refl, sym, subst}
use Rattle.std.proofs.lemmas.Option.{slice_get_read}
use Rattle.a64_data.specs.Marks.{Marks}
use Rattle.a64_data.proofs.Items.{IsItemDataBefore, items_all, items_more, items_past}
use Rattle.a64_data.proofs.words.mark_items.Goals.{in-Some, in-None}
use Rattle.a64_data.proofs.words.mark_items.Goals as goal

pub loop-index-preserved : goal.loop-index-preserved
loop-index-preserved c =
    let frame = c.args.frame.now in
    let flags = c.args.info.now in
    let items = c.args.items.now in
    let places = c.args.places.now in
    let index = c.loop-index.index in
    let item = c.index-items-index.result in
    let old = c.args.marks.now in
    elim c.match-get.branch [
      | in-Some w ↦
          let look = w.in-Some.ensures.lookup in
          let place = w.in-Some.place.now in
          subst (λ (m : List Bool). Marks (IsItemDataBefore frame flags items places (index + 1)) old m) (sym w.marks-is)
          (items_more frame flags items places index item place (slice_get_read items (length items) index item refl c.loop-index-test.true c.index-items-index.is) (slice_get_read places (length places) index place refl look.3.0 (look.3.1 place)) old c.loop-index.marks w.mark_item.new.marks c.loop-index.invariant w.mark_item.ensures)
      | in-None w ↦
          subst (λ (m : List Bool). Marks (IsItemDataBefore frame flags items places (index + 1)) old m) (sym w.marks-is)
          (items_past frame flags items places index w.in-None.ensures.lookup.3 old c.loop-index.marks c.loop-index.invariant)
    ]

pub returns : goal.returns
returns c = items_all c.args.frame.now c.args.info.now c.args.items.now c.args.places.now c.loop-index.index c.loop-index-test.false c.args.marks.now c.loop-index.marks c.loop-index.invariant
