use Rattle.a64_buffer.specs.Classes.{owed}
use Rattle.a64_buffer.specs.Sound.{seen}
use Rattle.a64_buffer.specs.Space.{HasSpace, Keeps}
use Rattle.a64_buffer.specs.Steps.{IsWriting}
use Rattle.a64_buffer.proofs.parts.Parts.write_until.Given as goal

abbrev pub invariant-loop-index : goal.invariant-loop-index
invariant-loop-index g l = record {
  writing : IsWriting g.K.MachInstLabelUse.kinds l.limit (seen l.fn.self) (seen l.self);
  space : HasSpace g.K.MachInstLabelUse.kinds l.self;
  keeps : Keeps g.K.MachInstLabelUse.kinds l.fn.self l.self;
}

-- each use that is given something lessens what is owed
abbrev pub decreases-loop-index : goal.decreases-loop-index
decreases-loop-index g l = owed g.K.MachInstLabelUse.kinds (seen l.self)
