use Rattle.std.proofs.Common.{◌≡◌, ◌-◌, ◌<◌, true, length, get_or, set, Some, refl, ap, subst, arith}
use Rattle.std.proofs.lemmas.List.{length-map, length-set, get_or_default}
use Rattle.a64_buffer.specs.declared.site.Use.{Use}
use Rattle.a64_buffer.specs.declared.class.Class.TheVariants.{Load}
use Rattle.a64_buffer.specs.Chain.{load_of, loads_of}
use Rattle.a64_buffer.specs.Steps.{stopped, waits_for}
use Rattle.a64_buffer.proofs.Queued.{stopped_closed}
use Rattle.a64_buffer.proofs.Burdens.{stopped_burdens}
use Rattle.a64_buffer.proofs.Walks.{IsWalked, walked_none, walked_here, walked_more, walked_all}
use Rattle.a64_buffer.proofs.Loads.{load_of_waits, load_waits, stops}
use Rattle.a64_buffer.proofs.copy.stop_loads.Goals as goal

pub loop-at-init : goal.loop-at-init
loop-at-init g c = record {
  walked = walked_none (λ (u : Use g.row.K.Denot). load_of u) c.args.constant (stopped (waits_for c.args.constant) c.args.place) (λ (u : Use g.row.K.Denot). record u { stop = Some c.args.place }) (stops c.args.constant c.args.place) c.last_use-at.result c.args.uses.now (c.last_use-at.ensures (loads_of c.args.uses.now) c.args.earlier.now c.requires.chained);
  burdens = c.requires.burdens;
}

pub loop-at-preserved : goal.loop-at-preserved
loop-at-preserved g c =
    let w = c.loop-at.invariant.walked in
    let p : 0 < c.loop-at.at = omega arith in
    let i : c.loop-at.at - 1 < length (loads_of c.args.uses.now) = omega (arith, c.loop-at.invariant.walked.within, length-map c.args.uses.now (λ (u : Use g.row.K.Denot). load_of u)) in
    let j : c.loop-at.at - 1 < length c.loop-at.uses = omega (arith, c.loop-at.invariant.walked.within, c.loop-at.invariant.walked.same_length) in
    let old : Use g.row.K.Denot = get_or c.loop-at.uses (c.loop-at.at - 1) c.index-uses-index.result in
    let is : old ≡ get_or c.loop-at.uses (c.loop-at.at - 1) old = get_or_default c.loop-at.uses (c.loop-at.at - 1) c.index-uses-index.result old j in
    let waits : waits_for c.args.constant old ≡ true = load_of_waits c.args.constant old (walked_here (λ (u : Use g.row.K.Denot). load_of u) c.args.constant (stopped (waits_for c.args.constant) c.args.place) (λ (u : Use g.row.K.Denot). record u { stop = Some c.args.place }) (stops c.args.constant c.args.place) c.loop-at.at c.args.uses.now c.loop-at.uses p w c.index-uses-index.result) in
    record {
      walked = walked_more (λ (u : Use g.row.K.Denot). load_of u) c.args.constant (stopped (waits_for c.args.constant) c.args.place) (λ (u : Use g.row.K.Denot). record u { stop = Some c.args.place }) (stops c.args.constant c.args.place) c.loop-at.at _ c.args.uses.now c.loop-at.uses _ p w (c.requires.chained.links (c.loop-at.at - 1) c.args.constant i (w.here p))
          (λ d. ap (λ (u : Use g.row.K.Denot). set c.loop-at.uses (c.loop-at.at - 1) (record u { stop = Some c.args.place })) (get_or_default c.loop-at.uses (c.loop-at.at - 1) c.index-uses-index.result d j))
          (length-set c.loop-at.uses (c.loop-at.at - 1) (record old { stop = Some c.args.place }));
      burdens = stopped_burdens g.K.MachInstLabelUse.kinds c.loop-at.uses (c.loop-at.at - 1) old (record old { stop = Some c.args.place }) Load c.loop-at.burdens c.lose.new.self j is (load_waits g.K.MachInstLabelUse.kinds c.args.constant old waits) (stopped_closed g.K.MachInstLabelUse.kinds (record old { stop = Some c.args.place }) refl) c.loop-at.invariant.burdens c.lose.ensures.first c.lose.ensures.second c.lose.ensures.third;
    }

pub returns-clause-uses : goal.returns-clause-uses
returns-clause-uses g c = walked_all (λ (u : Use g.row.K.Denot). load_of u) c.args.constant (stopped (waits_for c.args.constant) c.args.place) (λ (u : Use g.row.K.Denot). record u { stop = Some c.args.place }) (stops c.args.constant c.args.place) c.args.uses.now c.loop-at.uses (subst (IsWalked (λ (u : Use g.row.K.Denot). load_of u) c.args.constant (stopped (waits_for c.args.constant) c.args.place) (λ (u : Use g.row.K.Denot). record u { stop = Some c.args.place }) c.args.uses.now c.loop-at.uses) c.loop-at-test.false c.loop-at.invariant.walked)
