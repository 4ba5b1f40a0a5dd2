use Rattle.std.proofs.Common.{arith, ◌≡◌, true, false, not, get_or, set, is_some, sym, ◌∙◌, ap, inl, inr}
use Rattle.std.proofs.lemmas.Grind.{common_steps}
use Rattle.std.specs.Prelude.{◌&&◌, is_none}
use Rattle.a64_buffer.specs.declared.site.Use.{Use}
use Rattle.std.proofs.lemmas.List.{get_or_default}
use Rattle.a64_buffer.specs.Classes.{wants, class, rank_of, is_open}
use Rattle.a64_buffer.specs.Queues.{limit_of, IsWaitingClass, AreBurdens}
use Rattle.a64_buffer.proofs.Rooms.{open_wants}
use Rattle.a64_buffer.proofs.Queued.{stopped_hold, stopped_limit, stopped_closed}
use Rattle.a64_buffer.proofs.Burdens.{stopped_burdens}
use Rattle.a64_buffer.proofs.Idle.{none_waits}
use Rattle.a64_buffer.proofs.chain.close_as.Goals as goal

pub close_queued-requires-clause-hold : goal.close_queued-requires-clause-hold
close_queued-requires-clause-hold g c = stopped_hold g.K.MachInstLabelUse.kinds c.args.uses.now c.args.queues.now c.args.index c.index-uses-index-2.result c.reached-stop.result c.requires.index (ap not (c.is_none.ensures ∙ ap not c.if-is_none.false)) c.requires.waiting.hold

pub close_queued-requires-clause-limits : goal.close_queued-requires-clause-limits
close_queued-requires-clause-limits g c =
    λ rank q l other.
    stopped_limit g.K.MachInstLabelUse.kinds rank c.args.uses.now c.args.index c.index-uses-index-2.result c.reached-stop.result _ _ c.requires.index (ap not (c.is_none.ensures ∙ ap not c.if-is_none.false))
    (λ d o e z.
    let here : c.index-uses-index.result ≡ get_or c.args.uses.now c.args.index d = c.index-uses-index.is ∙ get_or_default c.args.uses.now c.args.index c.index-uses-index.result d c.requires.index in
    elim other [
      | inl ne ↦ ne (ap rank_of (sym (c.requires.class d)) ∙ e)
      | inr ne ↦ ne (c.limit.ensures.is ∙ (ap (limit_of g.K.MachInstLabelUse.kinds) here ∙ sym z))
    ])
    (c.requires.waiting.limits rank q l)

pub returns-else-wants-clause-waiting : goal.returns-else-wants-clause-waiting
returns-else-wants-clause-waiting g c = record {
  hold = stopped_hold g.K.MachInstLabelUse.kinds c.args.uses.now c.args.queues.now c.args.index c.index-uses-index-2.result c.reached-stop.result c.requires.index (ap not (c.is_none.ensures ∙ ap not c.if-is_none.false)) c.requires.waiting.hold;
  limits = λ rank q l.
      stopped_limit g.K.MachInstLabelUse.kinds rank c.args.uses.now c.args.index c.index-uses-index-2.result c.reached-stop.result _ _ c.requires.index (ap not (c.is_none.ensures ∙ ap not c.if-is_none.false))
      (λ d o e z.
      let x : false ≡ true = sym c.if-wants.false ∙ (c.wants.ensures ∙ (ap wants (sym (c.requires.class d)) ∙ open_wants g.K.MachInstLabelUse.kinds (get_or c.args.uses.now c.args.index d) o)) in
      cc)
      (c.requires.waiting.limits rank q l);
  burdens = grind (arith, common_steps);
}

pub close_queued-requires-clause-none : goal.close_queued-requires-clause-none
close_queued-requires-clause-none g c =
    let u : Use g.row.K.Denot = c.index-uses-index.result in
    let v : Use g.row.K.Denot = record (get_or c.args.uses.now c.args.index c.index-uses-index-2.result) { stop = c.reached-stop.result } in
    let wanted : wants c.args.class ≡ true = sym c.wants.ensures ∙ c.if-wants.true in
    let some : is_some u.stop ≡ false = ap (λ (w : Use g.row.K.Denot). is_some w.stop) c.index-uses-index.is ∙ c.requires.stop u in
    let is : class g.K.MachInstLabelUse.kinds u ≡ c.args.class = ap (class g.K.MachInstLabelUse.kinds) c.index-uses-index.is ∙ c.requires.class u in
    let open' : is_open g.K.MachInstLabelUse.kinds u ≡ true = ap (λ w. w && is_none u.stop) (ap wants is ∙ wanted) ∙ ap not some in
    let waiting : IsWaitingClass g.K.MachInstLabelUse.kinds u c.args.class = record { open' = open' ∙ sym wanted; is = λ w. is } in
    let burdens : AreBurdens g.K.MachInstLabelUse.kinds (set c.args.uses.now c.args.index v) c.lose.new.self = stopped_burdens g.K.MachInstLabelUse.kinds c.args.uses.now c.args.index u v c.args.class c.args.burdens.now c.lose.new.self c.requires.index c.index-uses-index.is waiting (stopped_closed g.K.MachInstLabelUse.kinds v (ap not (c.is_none.ensures ∙ ap not c.if-is_none.false))) c.requires.waiting.burdens c.lose.ensures.first c.lose.ensures.second c.lose.ensures.third in
    λ none. none_waits g.K.MachInstLabelUse.kinds c.args.class (set c.args.uses.now c.args.index v) c.lose.new.self wanted burdens (c.has_none-none.ensures none)
