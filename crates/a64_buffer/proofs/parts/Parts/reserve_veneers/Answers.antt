use Rattle.std.proofs.Common.{arith}
use Rattle.a64_buffer.proofs.Memory.{few_uses}
use Rattle.a64_buffer.proofs.parts.Parts.reserve_veneers.Goals as goal

pub returns-clause-ok : goal.returns-clause-ok
returns-clause-ok g c = λ q. omega (arith, c.in_ok-reserve_veneers.ensures.ok q, c.requires.burdens.third_is, few_uses g.K.MachInstLabelUse.kinds c.args.self.now.uses.items)
