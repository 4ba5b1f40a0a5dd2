use Rattle.a64_buffer.specs.Buffer.{label_of, closed_at}
use Rattle.a64_buffer.specs.Chain.{with_stop}
use Rattle.a64_buffer.specs.Queues.{AreWaiting}
use Rattle.a64_buffer.proofs.Walks.{IsWalked}
use Rattle.a64_buffer.proofs.chain.close_label.Given as goal

abbrev pub invariant-loop-at : goal.invariant-loop-at
invariant-loop-at g l = record {
  walked : IsWalked (λ u. label_of u.target) l.label (closed_at g.K.MachInstLabelUse.kinds l.label l.place) (with_stop g.K.MachInstLabelUse.kinds l.place) l.fn.uses l.uses l.at;
  waiting : AreWaiting g.K.MachInstLabelUse.kinds l.uses l.queues l.burdens;
}

abbrev pub decreases-loop-at : goal.decreases-loop-at
decreases-loop-at g l = l.at
