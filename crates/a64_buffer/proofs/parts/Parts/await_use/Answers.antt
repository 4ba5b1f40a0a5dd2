use Rattle.std.proofs.Common.{◌≡◌, length, arith}
use Rattle.std.proofs.lemmas.Grind.{common_steps}
use Rattle.a64_buffer.specs.Classes.{first, second}
use Rattle.a64_buffer.proofs.Costs.{burden_third}
use Rattle.a64_buffer.proofs.parts.Parts.await_use.Goals as goal

pub gain-requires-clause-first : goal.gain-requires-clause-first
gain-requires-clause-first g c = omega (arith, c.requires.waiting.burdens.first_is, burden_third g.K.MachInstLabelUse.kinds first c.args.self.now.uses.items, c.requires.few)

pub gain-requires-clause-second : goal.gain-requires-clause-second
gain-requires-clause-second g c = omega (arith, c.requires.waiting.burdens.second_is, burden_third g.K.MachInstLabelUse.kinds second c.args.self.now.uses.items, c.requires.few)

pub returns-then-wants-clause-waiting : goal.returns-then-wants-clause-waiting
returns-then-wants-clause-waiting g c =
    let at : length c.args.self.now.uses.items ≡ c.len-index.result = omega (arith, c.len-index.ensures, c.args.self.now.uses.ok.0) in
    record {
      hold = c.queue_use.ensures.hold c.args.self.now.uses.items at c.requires.waiting.hold;
      limits = c.queue_use.ensures.limits c.args.self.now.uses.items at c.requires.waiting.limits;
      burdens = grind (arith, common_steps);
    }

pub returns-else-wants-clause-waiting : goal.returns-else-wants-clause-waiting
returns-else-wants-clause-waiting g c =
    let at : length c.args.self.now.uses.items ≡ c.len-index.result = omega (arith, c.len-index.ensures, c.args.self.now.uses.ok.0) in
    record {
      hold = c.queue_use.ensures.hold c.args.self.now.uses.items at c.requires.waiting.hold;
      limits = c.queue_use.ensures.limits c.args.self.now.uses.items at c.requires.waiting.limits;
      burdens = grind (arith, common_steps);
    }
