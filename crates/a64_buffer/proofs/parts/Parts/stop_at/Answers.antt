use Rattle.std.proofs.Common.{◌≡◌, ◌+◌, List, Some, set, refl, sym, ◌∙◌, ap, subst, arith}
use Rattle.a64_buffer.specs.declared.site.Use.{Use}
use Rattle.a64_buffer.specs.Chain.{constant_of}
use Rattle.a64_buffer.specs.Classes.{first, second, third, cost, burden}
use Rattle.a64_buffer.specs.Queues.{IsWaitingClass}
use Rattle.a64_buffer.proofs.Queued.{stopped_closed}
use Rattle.a64_buffer.proofs.Burdens.{stop_burden, stopped_burdens}
use Rattle.a64_buffer.proofs.Stops.{set_is_map, chained_set}
use Rattle.a64_buffer.proofs.parts.Parts.stop_at.Goals as goal

pub returns-clause-uses : goal.returns-clause-uses
returns-clause-uses g c = λ d apart. set_is_map c.args.self.now.uses.items c.args.index c.args.place c.index_mut.result.now d apart c.requires.index c.index_mut.ensures.value

pub lose-requires-clause-first : goal.lose-requires-clause-first
lose-requires-clause-first g c =
    let waits : IsWaitingClass g.K.MachInstLabelUse.kinds c.index_mut.result.now c.args.class = subst (λ u. IsWaitingClass g.K.MachInstLabelUse.kinds u c.args.class) (sym c.index_mut.ensures.value) (c.requires.class c.index_mut.result.now) in
    let us : List (Use g.row.K.Denot) = c.args.self.now.uses.items in
    let v : Use g.row.K.Denot = record c.index_mut.result.now { stop = Some c.args.place } in
    let paid : burden g.K.MachInstLabelUse.kinds first (set us c.args.index v) + cost first c.args.class ≡ burden g.K.MachInstLabelUse.kinds first us = stop_burden g.K.MachInstLabelUse.kinds first us c.args.index c.index_mut.result.now v c.args.class c.requires.index c.index_mut.ensures.value waits (stopped_closed g.K.MachInstLabelUse.kinds v refl) in
    omega (arith, paid, c.requires.tracked.burdens.first_is)

pub lose-requires-clause-second : goal.lose-requires-clause-second
lose-requires-clause-second g c =
    let waits : IsWaitingClass g.K.MachInstLabelUse.kinds c.index_mut.result.now c.args.class = subst (λ u. IsWaitingClass g.K.MachInstLabelUse.kinds u c.args.class) (sym c.index_mut.ensures.value) (c.requires.class c.index_mut.result.now) in
    let us : List (Use g.row.K.Denot) = c.args.self.now.uses.items in
    let v : Use g.row.K.Denot = record c.index_mut.result.now { stop = Some c.args.place } in
    let paid : burden g.K.MachInstLabelUse.kinds second (set us c.args.index v) + cost second c.args.class ≡ burden g.K.MachInstLabelUse.kinds second us = stop_burden g.K.MachInstLabelUse.kinds second us c.args.index c.index_mut.result.now v c.args.class c.requires.index c.index_mut.ensures.value waits (stopped_closed g.K.MachInstLabelUse.kinds v refl) in
    omega (arith, paid, c.requires.tracked.burdens.second_is)

pub lose-requires-clause-third : goal.lose-requires-clause-third
lose-requires-clause-third g c =
    let waits : IsWaitingClass g.K.MachInstLabelUse.kinds c.index_mut.result.now c.args.class = subst (λ u. IsWaitingClass g.K.MachInstLabelUse.kinds u c.args.class) (sym c.index_mut.ensures.value) (c.requires.class c.index_mut.result.now) in
    let us : List (Use g.row.K.Denot) = c.args.self.now.uses.items in
    let v : Use g.row.K.Denot = record c.index_mut.result.now { stop = Some c.args.place } in
    let paid : burden g.K.MachInstLabelUse.kinds third (set us c.args.index v) + cost third c.args.class ≡ burden g.K.MachInstLabelUse.kinds third us = stop_burden g.K.MachInstLabelUse.kinds third us c.args.index c.index_mut.result.now v c.args.class c.requires.index c.index_mut.ensures.value waits (stopped_closed g.K.MachInstLabelUse.kinds v refl) in
    omega (arith, paid, c.requires.tracked.burdens.third_is)

pub returns-clause-tracked : goal.returns-clause-tracked
returns-clause-tracked g c =
    let waits : IsWaitingClass g.K.MachInstLabelUse.kinds c.index_mut.result.now c.args.class = subst (λ u. IsWaitingClass g.K.MachInstLabelUse.kinds u c.args.class) (sym c.index_mut.ensures.value) (c.requires.class c.index_mut.result.now) in
    let v : Use g.row.K.Denot = record c.index_mut.result.now { stop = Some c.args.place } in
    record {
      chained =
          chained_set c.args.self.now.uses.items c.args.self.now.earlier.items c.args.self.now.heads c.args.self.now.loads c.args.index c.args.place c.index_mut.result.now c.requires.index c.index_mut.ensures.value
          (ap (λ (u : Use g.row.K.Denot). constant_of u.target) c.index_mut.ensures.value ∙ c.requires.target c.index_mut.result.now) c.requires.tracked.chained;
      burdens = stopped_burdens g.K.MachInstLabelUse.kinds c.args.self.now.uses.items c.args.index c.index_mut.result.now v c.args.class c.args.self.now.burdens c.lose.new.self c.requires.index c.index_mut.ensures.value waits (stopped_closed g.K.MachInstLabelUse.kinds v refl) c.requires.tracked.burdens c.lose.ensures.first c.lose.ensures.second c.lose.ensures.third;
    }
