use Rattle.std.proofs.Common.{◌≡◌, arith, ap, subst, ◌∙◌}
use Rattle.a64_buffer.specs.Classes.{Fits}
use Rattle.a64_label_use.specs.LabelUses.{label_kinds}
use Rattle.a64_emit.specs.Rooms.{most_added}
use Rattle.a64_emit.proofs.Ready.{not_needed, room_ready}
use Rattle.a64_emit.proofs.room.room_for.Goals as goal

pub returns-in-None-clause-ready : goal.returns-in-None-clause-ready
returns-in-None-clause-ready c = λ yes good.
    let b = c.args.sink.now in
    let frame = c.args.state.now.frame in
    let flags = c.args.info.now in
    let inst = c.args.inst.now in
    let there : c.most_added-added.result ≡ most_added c.frame_layout.result.now flags inst = omega (arith, c.most_added-added.ensures, c.if-longest-ge-CODE_LIMIT.false, c.saturating_add-longest.ensures) in
    let added : c.most_added-added.result ≡ most_added frame flags inst = there ∙ ap (λ f. most_added f flags inst) c.frame_layout.ensures in
    room_ready frame flags inst b c.cur_offset.ensures.whole
    (record {
      room = omega (arith, added, c.if-longest-ge-CODE_LIMIT.false, c.saturating_add-longest.ensures, c.saturating_add.ensures, c.owed.ensures, c.from.ensures, c.cur_offset.ensures.value);
      fits = λ none. subst (λ n. Fits label_kinds b n) added (not_needed _ _ _ yes c.island_needed.ensures);
    })
    good
