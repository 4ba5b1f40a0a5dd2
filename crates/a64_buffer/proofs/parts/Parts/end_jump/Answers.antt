use Rattle.std.proofs.Common.{◌≡◌, map, true, false, None, sym, ◌∙◌, ap}
use Rattle.a64_buffer.specs.declared.site.Target.TheVariants.{IslandEnd}
use Rattle.a64_buffer.specs.declared.site.Use.{Use}
use Rattle.a64_buffer.specs.Steps.{stopped, stands_at, is_jump_at}
use Rattle.a64_buffer.proofs.Islands.{map_none}
use Rattle.a64_buffer.proofs.parts.Parts.end_jump.Goals as goal

pub returns-then-not-jump-clause-uses : goal.returns-then-not-jump-clause-uses
returns-then-not-jump-clause-uses g c = λ apart.
    let none : c.args.jump ≡ false = c.if-not-jump.true in
    sym (ap (λ t. map (stopped (is_jump_at t c.args.start) c.args.end) c.args.self.now.uses.items) none ∙ map_none c.args.end c.args.self.now.uses.items)

pub returns-clause-uses : goal.returns-clause-uses
returns-clause-uses g c = λ apart.
    let d : Use g.row.K.Denot = record { offset = 0; target = IslandEnd; kind = g.K.MachInstLabelUse.kinds.jump; stop = None } in
    let one : c.args.jump ≡ true = c.if-not-jump.false in
    c.stop_at.ensures.uses d apart
    ∙ (ap (λ start. map (stopped (stands_at start) c.args.end) c.args.self.now.uses.items) ((c.requires.over one).offset d)
    ∙ sym (ap (λ t. map (stopped (is_jump_at t c.args.start) c.args.end) c.args.self.now.uses.items) one))
