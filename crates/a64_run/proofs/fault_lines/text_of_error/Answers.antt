use Rattle.a64_run.proofs.fault_lines.text_of_error.Goals as goal

pub returns-in-UnknownConstant-clause-text : goal.returns-in-UnknownConstant-clause-text
returns-in-UnknownConstant-clause-text c = rw c.in-UnknownConstant.is c.numbered-in-UnknownConstant.ensures.text

pub returns-in-LabelBoundTwice-clause-text : goal.returns-in-LabelBoundTwice-clause-text
returns-in-LabelBoundTwice-clause-text c = rw (c.in-LabelBoundTwice.is, ← c.from.ensures) c.numbered-in-LabelBoundTwice.ensures.text

pub returns-in-UnboundLabel-clause-text : goal.returns-in-UnboundLabel-clause-text
returns-in-UnboundLabel-clause-text c = rw (c.in-UnboundLabel.is, ← c.from-in-UnboundLabel.ensures) c.numbered-in-UnboundLabel.ensures.text
