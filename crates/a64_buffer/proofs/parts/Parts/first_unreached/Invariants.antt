use Rattle.std.proofs.Common.{take, All}
use Rattle.a64_buffer.specs.Buffer.{IsDirect}
use Rattle.a64_buffer.specs.Sound.{seen}
use Rattle.a64_buffer.proofs.parts.Parts.first_unreached.Given as goal

abbrev pub invariant-loop-site : goal.invariant-loop-site
invariant-loop-site g l = All (IsDirect g.K.MachInstLabelUse.kinds (seen l.self).labels) (take l.site-index l.self.uses.items)
