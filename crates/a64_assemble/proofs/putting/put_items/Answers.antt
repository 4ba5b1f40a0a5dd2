use Rattle.std.proofs.Common.{ℕ, ◌≡◌, ◌+◌, ◌-◌, ◌<◌, ◌≤◌, List, [], ◌∷◌, ◌++◌, length, take, drop, refl, sym, ap, ◌∙◌, subst, arith, nat_cmp}
use Rattle.std.specs.FinMap.{FinMap}
use Rattle.a64_inst.specs.declared.frame.FrameLayout.{FrameLayout}
use Rattle.a64_inst.specs.declared.item.Item.{Item}
use Rattle.a64_inst.specs.declared.item.Item.TheVariants.{Emit}
use Rattle.a64_inst.specs.State.{State}
use Rattle.a64_label_use.specs.declared.label_use.LabelUse.{LabelUse}
use Rattle.a64_buffer.specs.Buffer.{Buffer, end_of}
use Rattle.a64_emit.specs.Faults.{item_fault}
use Rattle.a64_assemble.specs.Asks.{MayMove, Moves, NeedsNone}
use Rattle.a64_assemble.specs.Elements.{Element, element_of, elements_of, element_at, room_of}
use Rattle.a64_assemble.specs.Made.{HasPutFirst}
use Rattle.a64_assemble.proofs.FirstPut.{first_none, first_may, first_quiet, first_constants, first_step, first_all, are_good, count_same, element_is, rest_is}
use Rattle.a64_assemble.proofs.Owns.{none_at}
use Rattle.a64_assemble.proofs.putting.put_items.Goals.{in-Bind+in_ok-bind_label-in-Bind, in-Emit+in_ok-put_emitted-in-Emit}
use Rattle.a64_assemble.proofs.putting.put_items.Goals as goal

pub loop-index-init : goal.loop-index-init
loop-index-init c =
    let frame : FrameLayout = c.args.state.now.frame in
    let xs : List Element = elements_of frame c.args.how.now.info.now c.args.items.now in
    record {
      frame = refl;
      constants = refl;
      place = c.cur_offset-place.ensures.value;
      count = c.in_ok-places.ensures.len;
      room = c.in_ok-places.ensures.capacity;
      first = subst (λ places. HasPutFirst c.args.how.now.force xs 0 places c.args.buffer.now) (sym c.in_ok-places.ensures.items)
          (first_none c.args.how.now.force xs (are_good frame c.args.how.now.info.now c.args.items.now c.requires.once c.requires.short) c.args.buffer.now c.cur_offset-place.ensures.whole c.requires.words c.requires.uses c.requires.labels c.requires.islands c.requires.traps c.requires.records);
    }

pub bind_label-requires : goal.bind_label-requires
bind_label-requires c =
    let frame : FrameLayout = c.args.state.now.frame in
    let items : List Item = c.args.items.now in
    let k : ℕ = c.loop-index.index in
    let xs : List Element = elements_of frame c.args.how.now.info.now items in
    let within : k < length xs = omega (arith, c.loop-index-test.true, count_same frame c.args.how.now.info.now items) in
    (subst (λ (item : Item). MayMove (element_of frame c.args.how.now.info.now item) (drop (k + 1) xs) c.loop-index.buffer) c.in-Bind.is
    (subst (λ (x : Element). MayMove x (drop (k + 1) xs) c.loop-index.buffer) (element_is frame c.args.how.now.info.now items k c.index-items-index.result c.loop-index-test.true c.index-items-index.is)
    (first_may c.args.how.now.force xs (are_good frame c.args.how.now.info.now items c.requires.once c.requires.short) k c.loop-index.places.items c.loop-index.buffer c.loop-index.buffer within c.loop-index.invariant.first))).unbound

pub put_emitted-requires-clause-good : goal.put_emitted-requires-clause-good
put_emitted-requires-clause-good c =
    sym (ap (item_fault c.loop-index.state.frame c.args.how.now.info.now c.loop-index.buffer.constants) c.in-Emit.is)
    ∙ ap (λ (frame : FrameLayout). item_fault frame c.args.how.now.info.now c.loop-index.buffer.constants c.index-items-index.result) c.loop-index.invariant.frame
    ∙ ap (λ (constants : FinMap nat_cmp (List ℕ)). item_fault c.args.state.now.frame c.args.how.now.info.now constants c.index-items-index.result) c.loop-index.invariant.constants
    ∙ ap (item_fault c.args.state.now.frame c.args.how.now.info.now c.args.buffer.now.constants) c.index-items-index.is
    ∙ none_at c.args.state.now.frame c.args.how.now.info.now c.args.buffer.now.constants 0 c.args.items.now c.loop-index.index c.index-items-index.result c.requires.good c.loop-index-test.true

pub put_emitted-requires-clause-may : goal.put_emitted-requires-clause-may
put_emitted-requires-clause-may c =
    let frame : FrameLayout = c.args.state.now.frame in
    let items : List Item = c.args.items.now in
    let k : ℕ = c.loop-index.index in
    let rest : List Item = take (length items - (k + 1)) (drop (k + 1) items) in
    let xs : List Element = elements_of frame c.args.how.now.info.now items in
    let within : k < length xs = omega (arith, c.loop-index-test.true, count_same frame c.args.how.now.info.now items) in
    subst (λ (item : Item). MayMove (element_of c.loop-index.state.frame c.args.how.now.info.now item) (elements_of c.loop-index.state.frame c.args.how.now.info.now rest) c.loop-index.buffer) c.in-Emit.is
    (subst (λ (f : FrameLayout). MayMove (element_of f c.args.how.now.info.now c.index-items-index.result) (elements_of f c.args.how.now.info.now rest) c.loop-index.buffer) (sym c.loop-index.invariant.frame)
    (subst (λ (ys : List Element). MayMove (element_of frame c.args.how.now.info.now c.index-items-index.result) ys c.loop-index.buffer) (rest_is frame c.args.how.now.info.now items k)
    (subst (λ (x : Element). MayMove x (drop (k + 1) xs) c.loop-index.buffer) (element_is frame c.args.how.now.info.now items k c.index-items-index.result c.loop-index-test.true c.index-items-index.is)
    (first_may c.args.how.now.force xs (are_good frame c.args.how.now.info.now items c.requires.once c.requires.short) k c.loop-index.places.items c.loop-index.buffer c.loop-index.buffer within c.loop-index.invariant.first))))

pub put_emitted-requires-clause-wide : goal.put_emitted-requires-clause-wide
put_emitted-requires-clause-wide c =
    let frame : FrameLayout = c.args.state.now.frame in
    let items : List Item = c.args.items.now in
    let k : ℕ = c.loop-index.index in
    let rest : List Item = take (length items - (k + 1)) (drop (k + 1) items) in
    subst (λ (f : FrameLayout). room_of (elements_of f c.args.how.now.info.now rest) ≤ c.args.how.now.widest) (sym c.loop-index.invariant.frame)
    (subst (λ (ys : List Element). room_of ys ≤ c.args.how.now.widest) (rest_is frame c.args.how.now.info.now items k) (c.requires.wide (k + 1)))

pub put_emitted-requires-clause-quiet : goal.put_emitted-requires-clause-quiet
put_emitted-requires-clause-quiet c = λ quiet.
    let frame : FrameLayout = c.args.state.now.frame in
    let items : List Item = c.args.items.now in
    let k : ℕ = c.loop-index.index in
    let rest : List Item = take (length items - (k + 1)) (drop (k + 1) items) in
    let xs : List Element = elements_of frame c.args.how.now.info.now items in
    let within : k < length xs = omega (arith, c.loop-index-test.true, count_same frame c.args.how.now.info.now items) in
    subst (λ (item : Item). NeedsNone c.args.how.now.force (element_of c.loop-index.state.frame c.args.how.now.info.now item) (elements_of c.loop-index.state.frame c.args.how.now.info.now rest) c.loop-index.buffer) c.in-Emit.is
    (subst (λ (f : FrameLayout). NeedsNone c.args.how.now.force (element_of f c.args.how.now.info.now c.index-items-index.result) (elements_of f c.args.how.now.info.now rest) c.loop-index.buffer) (sym c.loop-index.invariant.frame)
    (subst (λ (ys : List Element). NeedsNone c.args.how.now.force (element_of frame c.args.how.now.info.now c.index-items-index.result) ys c.loop-index.buffer) (rest_is frame c.args.how.now.info.now items k)
    (subst (λ (x : Element). NeedsNone c.args.how.now.force x (drop (k + 1) xs) c.loop-index.buffer) (element_is frame c.args.how.now.info.now items k c.index-items-index.result c.loop-index-test.true c.index-items-index.is)
    (first_quiet c.args.how.now.force xs (are_good frame c.args.how.now.info.now items c.requires.once c.requires.short) k c.loop-index.places.items c.loop-index.buffer c.loop-index.buffer within c.loop-index.invariant.first (c.requires.quiet quiet)))))

pub loop-index-preserved : goal.loop-index-preserved
loop-index-preserved c =
    let frame : FrameLayout = c.args.state.now.frame in
    let items : List Item = c.args.items.now in
    let k : ℕ = c.loop-index.index in
    let rest : List Item = take (length items - (k + 1)) (drop (k + 1) items) in
    let xs : List Element = elements_of frame c.args.how.now.info.now items in
    let good = are_good frame c.args.how.now.info.now items c.requires.once c.requires.short in
    let within : k < length xs = omega (arith, c.loop-index-test.true, count_same frame c.args.how.now.info.now items) in
    let places : c.push_reserved.new.self.items ≡ c.loop-index.places.items ++ end_of c.loop-index.buffer ∷ [] = c.push_reserved.ensures.items ∙ ap (λ n. c.loop-index.places.items ++ n ∷ []) c.loop-index.invariant.place in
    let kept : c.match-item.state.frame ≡ frame = elim c.match-item.branch [
      | in-Bind+in_ok-bind_label-in-Bind w ↦ ap (λ (s : State). s.frame) w.state-is ∙ c.loop-index.invariant.frame
      | in-Emit+in_ok-put_emitted-in-Emit w ↦ ap (λ (s : State). s.frame) w.state-is ∙ w.in_ok-put_emitted-in-Emit.ensures.frame ∙ c.loop-index.invariant.frame
    ] in
    let moved : Moves c.args.how.now.force (element_of frame c.args.how.now.info.now c.index-items-index.result) (drop (k + 1) xs) c.loop-index.buffer c.match-item.buffer = elim c.match-item.branch [
      | in-Bind+in_ok-bind_label-in-Bind w ↦
          subst (λ (item : Item). Moves c.args.how.now.force (element_of frame c.args.how.now.info.now item) (drop (k + 1) xs) c.loop-index.buffer c.match-item.buffer) (sym w.in-Bind.is)
          (w.buffer-is ∙ w.in_ok-bind_label-in-Bind.ensures.ok)
      | in-Emit+in_ok-put_emitted-in-Emit w ↦
          subst (λ (item : Item). Moves c.args.how.now.force (element_of frame c.args.how.now.info.now item) (drop (k + 1) xs) c.loop-index.buffer c.match-item.buffer) (sym w.in-Emit.is)
          (subst (λ (b : Buffer LabelUse). Moves c.args.how.now.force (element_of frame c.args.how.now.info.now (Emit w.in-Emit.inst w.in-Emit.map)) (drop (k + 1) xs) c.loop-index.buffer b) (sym w.buffer-is)
          (subst (λ (ys : List Element). Moves c.args.how.now.force (element_of frame c.args.how.now.info.now (Emit w.in-Emit.inst w.in-Emit.map)) ys c.loop-index.buffer w.put_emitted.new.buffer) (sym (rest_is frame c.args.how.now.info.now items k))
          (subst (λ (f : FrameLayout). Moves c.args.how.now.force (element_of f c.args.how.now.info.now (Emit w.in-Emit.inst w.in-Emit.map)) (elements_of f c.args.how.now.info.now rest) c.loop-index.buffer w.put_emitted.new.buffer) c.loop-index.invariant.frame w.in_ok-put_emitted-in-Emit.ensures.buffer)))
    ] in
    let moves : Moves c.args.how.now.force (element_at xs k) (drop (k + 1) xs) c.loop-index.buffer c.match-item.buffer =
    subst (λ (x : Element). Moves c.args.how.now.force x (drop (k + 1) xs) c.loop-index.buffer c.match-item.buffer) (sym (element_is frame c.args.how.now.info.now items k c.index-items-index.result c.loop-index-test.true c.index-items-index.is)) moved in
    record {
      frame = kept;
      constants = ◌∙◌ {A = FinMap nat_cmp (List ℕ)} (first_constants c.args.how.now.force xs good k c.loop-index.places.items c.loop-index.buffer c.match-item.buffer within c.loop-index.invariant.first moves) c.loop-index.invariant.constants;
      place = c.cur_offset-place-in-loop-index.ensures.value;
      count = c.push_reserved.ensures.len ∙ ap (λ n. n + 1) c.loop-index.invariant.count;
      room = subst (λ n. length items ≤ n) (sym c.push_reserved.ensures.capacity) c.loop-index.invariant.room;
      first = subst (λ ps. HasPutFirst c.args.how.now.force xs (k + 1) ps c.match-item.buffer) (sym places)
          (first_step c.args.how.now.force xs good k c.loop-index.places.items c.loop-index.buffer c.match-item.buffer within c.loop-index.invariant.first c.cur_offset-place-in-loop-index.ensures.whole moves);
    }

pub returns-clause-put : goal.returns-clause-put
returns-clause-put c =
    let frame : FrameLayout = c.args.state.now.frame in
    let xs : List Element = elements_of frame c.args.how.now.info.now c.args.items.now in
    first_all c.args.how.now.force xs (are_good frame c.args.how.now.info.now c.args.items.now c.requires.once c.requires.short) c.loop-index.index c.loop-index.places.items c.loop-index.buffer
    (omega (arith, c.loop-index-test.false, c.loop-index.auto.index-end, count_same frame c.args.how.now.info.now c.args.items.now)) c.loop-index.invariant.first
