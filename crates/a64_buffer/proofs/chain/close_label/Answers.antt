use Rattle.std.proofs.Common.{◌<◌, ◌-◌, length, subst, arith}
use Rattle.std.proofs.lemmas.List.{length-map}
use Rattle.a64_buffer.specs.declared.site.Use.{Use}
use Rattle.a64_buffer.specs.Buffer.{label_of, closed_at}
use Rattle.a64_buffer.specs.Chain.{labels_of, with_stop}
use Rattle.a64_buffer.proofs.Walks.{IsWalked, walked_none, walked_more, walked_all, closes}
use Rattle.a64_buffer.proofs.chain.close_label.Goals as goal

pub loop-at-init : goal.loop-at-init
loop-at-init g c = record {
  walked = walked_none (λ (u : Use g.row.K.Denot). label_of u.target) c.args.label (closed_at g.K.MachInstLabelUse.kinds c.args.label c.args.place) (with_stop g.K.MachInstLabelUse.kinds c.args.place) (closes g.K.MachInstLabelUse.kinds c.args.label c.args.place) c.last_use-at.result c.args.uses.now (c.last_use-at.ensures (labels_of c.args.uses.now) c.args.earlier.now c.requires.chained);
  waiting = c.requires.waiting;
}

pub loop-at-preserved : goal.loop-at-preserved
loop-at-preserved g c =
    let w = c.loop-at.invariant.walked in
    let p : 0 < c.loop-at.at = omega arith in
    let i : c.loop-at.at - 1 < length (labels_of c.args.uses.now) = omega (arith, c.loop-at.invariant.walked.within, length-map c.args.uses.now (λ (u : Use g.row.K.Denot). label_of u.target)) in
    record {
      walked = walked_more (λ (u : Use g.row.K.Denot). label_of u.target) c.args.label (closed_at g.K.MachInstLabelUse.kinds c.args.label c.args.place) (with_stop g.K.MachInstLabelUse.kinds c.args.place) (closes g.K.MachInstLabelUse.kinds c.args.label c.args.place) c.loop-at.at _ c.args.uses.now c.loop-at.uses c.close_use.new.uses p c.loop-at.invariant.walked (c.requires.chained.links (c.loop-at.at - 1) c.args.label i (c.loop-at.invariant.walked.here p)) c.close_use.ensures.uses c.close_use.auto.uses;
      waiting = c.close_use.ensures.waiting;
    }

pub returns-clause-uses : goal.returns-clause-uses
returns-clause-uses g c = walked_all (λ (u : Use g.row.K.Denot). label_of u.target) c.args.label (closed_at g.K.MachInstLabelUse.kinds c.args.label c.args.place) (with_stop g.K.MachInstLabelUse.kinds c.args.place) (closes g.K.MachInstLabelUse.kinds c.args.label c.args.place) c.args.uses.now c.loop-at.uses (subst (IsWalked (λ (u : Use g.row.K.Denot). label_of u.target) c.args.label (closed_at g.K.MachInstLabelUse.kinds c.args.label c.args.place) (with_stop g.K.MachInstLabelUse.kinds c.args.place) c.args.uses.now c.loop-at.uses) c.loop-at-test.false c.loop-at.invariant.walked)
