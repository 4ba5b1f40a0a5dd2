use Rattle.std.proofs.Common.{Some}
use Rattle.a64_buffer.specs.Chain.{load_of}
use Rattle.a64_buffer.specs.Queues.{AreBurdens}
use Rattle.a64_buffer.specs.Steps.{stopped, waits_for}
use Rattle.a64_buffer.proofs.Walks.{IsWalked}
use Rattle.a64_buffer.proofs.copy.stop_loads.Given as goal

abbrev pub invariant-loop-at : goal.invariant-loop-at
invariant-loop-at g l = record {
  walked : IsWalked (λ u. load_of u) l.constant (stopped (waits_for l.constant) l.place) (λ u. record u { stop = Some l.place }) l.fn.uses l.uses l.at;
  burdens : AreBurdens g.K.MachInstLabelUse.kinds l.uses l.burdens;
}

abbrev pub decreases-loop-at : goal.decreases-loop-at
decreases-loop-at g l = l.at
