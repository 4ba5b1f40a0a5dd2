use Rattle.a64_buffer.specs.Sound.{seen}
use Rattle.a64_buffer.proofs.Islands.{owed_short}
use Rattle.a64_buffer.proofs.parts.Parts.island_needed.Goals as goal

pub has_room-requires-clause-owed : goal.has_room-requires-clause-owed
has_room-requires-clause-owed g c = owed_short g.K.MachInstLabelUse.kinds g.met.K.MachInstLabelUse.lawful (seen c.args.self.now) c.requires.whole
