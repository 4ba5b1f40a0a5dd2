use Rattle.std.proofs.Common.{take}
use Rattle.a64_buffer.specs.Buffer.{IsFirstUnbound}
use Rattle.a64_buffer.specs.Sound.{seen}
use Rattle.a64_buffer.proofs.parts.Parts.first_unbound.Given as goal

abbrev pub invariant-loop-site : goal.invariant-loop-site
invariant-loop-site g l = IsFirstUnbound (record (seen l.self) { uses = take l.site-index l.self.uses.items }) l.first
