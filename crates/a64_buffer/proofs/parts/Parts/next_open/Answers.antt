use Rattle.std.proofs.Common.{arith}
use Rattle.a64_buffer.proofs.Reaching.{some_item, next_is}
use Rattle.a64_buffer.proofs.parts.Parts.next_open.Goals as goal

pub returns : goal.returns
returns g c = next_is g.K.MachInstLabelUse.kinds g.met.K.MachInstLabelUse.lawful c.args.self.now.uses.items c.args.self.now.queues c.args.limit c.requires.kinded c.requires.low c.requires.limits c.requires.limit (some_item c.args.self.now.queues (omega (arith, c.first_below.ensures.ranks))) c.first_below.result c.first_below.ensures.found
