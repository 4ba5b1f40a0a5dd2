use Rattle.std.proofs.Common.{◌≡◌, length, map, sym, ◌∙◌, ap, subst, arith}
use Rattle.std.proofs.lemmas.List.{with_items_is}
use Rattle.a64_buffer.specs.Queues.{AreBurdens}
use Rattle.a64_buffer.specs.Steps.{stopped, waits_for}
use Rattle.a64_buffer.proofs.Stops.{chained_copied}
use Rattle.a64_buffer.proofs.parts.Parts.stop_loads.Goals as goal

pub returns-clause-tracked : goal.returns-clause-tracked
returns-clause-tracked g c =
    let length_is : length c.stop_loads.new.uses ≡ c.args.self.now.uses.len = omega (arith, c.stop_loads.auto.uses, c.deref_mut.ensures.len) in
    record {
      chained =
          chained_copied c.args.self.now.uses.items _ c.args.self.now.earlier.items c.args.self.now.heads c.args.self.now.loads _ c.args.constant c.args.place c.requires.tracked.chained
          (with_items_is c.args.self.now.uses c.stop_loads.new.uses length_is ∙ (c.stop_loads.ensures.uses ∙ ap (map (stopped (waits_for c.args.constant) c.args.place)) c.deref_mut.ensures.value))
          c.empty_chain.ensures;
      burdens = subst (λ us. AreBurdens g.K.MachInstLabelUse.kinds us c.stop_loads.new.burdens) (sym (with_items_is c.args.self.now.uses c.stop_loads.new.uses length_is)) c.stop_loads.ensures.burdens;
    }
