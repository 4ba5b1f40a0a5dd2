use Rattle.std.proofs.Common.{◌≡◌, length, sym, ◌∙◌, ap, subst}
use Rattle.a64_buffer.specs.Classes.{class}
use Rattle.a64_buffer.specs.Sound.{seen}
use Rattle.a64_buffer.specs.Steps.{stands_at, GivesAll, GivesTrap}
use Rattle.a64_buffer.proofs.Writing.{stopped_count, copy_ready, copy_count, trap_all}
use Rattle.a64_buffer.proofs.parts.Parts.give.Goals.{in-Constant, in-Trap}
use Rattle.a64_buffer.proofs.parts.Parts.give.Goals as goal

pub returns-clause-gives : goal.returns-clause-gives
returns-clause-gives g c =
    let r = g.K.MachInstLabelUse.kinds in
    let law = g.met.K.MachInstLabelUse.lawful in
    let p = c.args.self.now in
    let u = c.index.result.now in
    let is_class : class r u ≡ c.args.class = ap (class r) c.index.ensures ∙ c.requires.class u in
    subst (λ k. GivesAll r k (seen p) (seen c.match-index.self)) is_class
    (elim c.match-index.branch [
      | in-Constant w ↦ subst (λ q. GivesAll r (class r u) (seen p) (seen q)) (sym w.self-is)
          (copy_ready r law p c.args.index c.requires.ready u c.index.ensures (seen w.give_copy.new.self) w.in-Constant.constant w.in-Constant.is w.give_copy.ensures.gives)
      | in-Trap w ↦ subst (λ q. GivesAll r (class r u) (seen p) (seen q)) (sym w.self-is)
          (trap_all r law p c.args.index c.requires.ready u c.index.ensures (seen w.give_trap.new.self) w.in-Trap.code w.in-Trap.is
          (subst (λ v. GivesTrap r v w.in-Trap.code (seen p) (seen w.give_trap.new.self)) (sym c.index.ensures) (w.give_trap.ensures.gives u c.requires.ready.may.sound.apart)))
    ])

pub returns-clause-added : goal.returns-clause-added
returns-clause-added g c =
    let r = g.K.MachInstLabelUse.kinds in
    let law = g.met.K.MachInstLabelUse.lawful in
    let p = c.args.self.now in
    let u = c.index.result.now in
    elim c.match-index.branch [
      | in-Constant w ↦ ap (λ q. length q.uses.items) w.self-is ∙ copy_count r law p c.args.index c.requires.ready u c.index.ensures (seen w.give_copy.new.self) w.in-Constant.constant w.in-Constant.is w.give_copy.ensures.gives
      | in-Trap w ↦ ap (λ q. length q.uses.items) w.self-is ∙ stopped_count (stands_at _) _ p.uses.items w.give_trap.new.self.uses.items (w.give_trap.ensures.gives u c.requires.ready.may.sound.apart).uses
    ]
