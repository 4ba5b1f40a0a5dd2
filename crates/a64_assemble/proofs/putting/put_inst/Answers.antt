use Rattle.std.proofs.Common.{◌≡◌, ◌<◌, ◌^◌, List, None, sym, ap, ◌∙◌, subst, refl}
use Rattle.a64_inst.specs.declared.frame.FrameLayout.{FrameLayout}
use Rattle.a64_inst.specs.State.{State}
use Rattle.a64_buffer.specs.declared.force.ForceVeneers.TheVariants.{No}
use Rattle.a64_emit.specs.Bounds.{asked_of}
use Rattle.a64_emit.specs.Falls.{inst_falls}
use Rattle.a64_cells.specs.Shapes.{Cell}
use Rattle.a64_cells.specs.Cells.{kept_cells}
use Rattle.a64_assemble.specs.Asks.{AsksNext, MayMove, Moves}
use Rattle.a64_assemble.specs.Elements.{Element, elements_of, next_room, whole_in}
use Rattle.a64_assemble.proofs.Stepped.{both_ok, put_cells, island_short, words_put, words_element, emit_ready, emit_moves, needs_none}
use Rattle.a64_assemble.proofs.putting.put_inst.Goals.{then-how-via-then-how, then-how-via-else-how+then-not-island_needed}
use Rattle.a64_assemble.proofs.putting.put_inst.Goals as goal

pub emit-requires : goal.emit-requires
emit-requires c =
    emit_ready c.args.state.now.frame c.args.how.now.info.now c.args.buffer.now.constants c.args.inst.now c.args.state.now.map (elements_of c.args.state.now.frame c.args.how.now.info.now c.args.rest.now) c.args.buffer.now refl c.requires.good c.requires.may

pub returns-then-how-clause-buffer : goal.returns-then-how-clause-buffer
returns-then-how-clause-buffer c =
    let rest : List Element = elements_of c.args.state.now.frame c.args.how.now.info.now c.args.rest.now in
    emit_moves c.args.how.now.info.now c.args.how.now.force c.args.state.now c.args.inst.now rest c.args.buffer.now c.emit.new.sink
    c.requires.may
    (elim c.then-how.branch [
      | then-how-via-then-how w ↦ c.requires.quiet w.if-how.true
      | then-how-via-else-how+then-not-island_needed w ↦
          needs_none c.args.how.now.info.now c.args.how.now.force c.args.state.now c.args.inst.now rest c.args.buffer.now c.emit.new.sink c.args.how.now.widest
          c.requires.asked c.requires.wide w.if-not-island_needed.ensures c.in_ok-emit.ensures.ok
    ])
    c.cur_offset-end.ensures.whole c.in_ok-emit.ensures.ok

pub ask_behind-requires : goal.ask_behind-requires
ask_behind-requires c =
    let frame : FrameLayout = c.args.state.now.frame in
    let cells : List Cell = kept_cells frame c.args.how.now.info.now c.args.inst.now c.args.state.now.map in
    let rest : List Element = elements_of frame c.args.how.now.info.now c.args.rest.now in
    let none : asked_of c.args.inst.now ≡ None = c.requires.asked in
    record {
      whole = subst (λ (f : FrameLayout). whole_in (elements_of f c.args.how.now.info.now c.args.rest.now) < 2 ^ 31) (sym (c.frame_layout-frame.ensures ∙ ap (λ (s : State). s.frame) c.in_ok-emit.ensures.state)) c.requires.may.rest_short;
      short = λ moved. island_short No rest c.args.buffer.now cells c.emit.new.sink
          (subst (λ (x : Element). MayMove x rest c.args.buffer.now) (words_element frame c.args.how.now.info.now c.args.inst.now c.args.state.now.map none) c.requires.may)
          (put_cells (asked_of c.args.inst.now) cells c.args.buffer.now c.emit.new.sink none c.in_ok-emit.ensures.ok)
          (λ e. moved (c.requires.place ∙ sym e));
    }

pub returns-clause-buffer : goal.returns-clause-buffer
returns-clause-buffer c =
    let frame : FrameLayout = c.args.state.now.frame in
    let cells : List Cell = kept_cells frame c.args.how.now.info.now c.args.inst.now c.args.state.now.map in
    let rest : List Element = elements_of frame c.args.how.now.info.now c.args.rest.now in
    let none : asked_of c.args.inst.now ≡ None = c.requires.asked in
    both_ok c.ask_behind.result (λ without behind. subst (λ (x : Element). Moves c.args.how.now.force x rest c.args.buffer.now c.ask_behind.new.buffer) (sym (words_element frame c.args.how.now.info.now c.args.inst.now c.args.state.now.map none))
    (words_put c.args.how.now.force rest c.args.buffer.now (inst_falls c.args.inst.now) cells c.emit.new.sink c.ask_behind.new.buffer c.args.place
    (put_cells (asked_of c.args.inst.now) cells c.args.buffer.now c.emit.new.sink none c.in_ok-emit.ensures.ok)
    c.requires.place
    without
    (λ moved. subst (λ (f : FrameLayout). AsksNext c.args.how.now.force (inst_falls c.args.inst.now) (next_room (elements_of f c.args.how.now.info.now c.args.rest.now)) c.emit.new.sink c.ask_behind.new.buffer) (c.frame_layout-frame.ensures ∙ ap (λ (s : State). s.frame) c.in_ok-emit.ensures.state) (behind moved))))
    c.ask_behind.ensures.without c.ask_behind.ensures.behind
