use Rattle.a64_label_use.proofs.FarJumps.{jump_far}
use Rattle.a64_label_use.proofs.label_use.LabelUseMachInstLabelUse.generate_veneer.Goals as goal

pub returns-in-Branch26-clause-far : goal.returns-in-Branch26-clause-far
returns-in-Branch26-clause-far c = λ urgent. jump_far c.write_far.new.buffer c.write_far.ensures.words
