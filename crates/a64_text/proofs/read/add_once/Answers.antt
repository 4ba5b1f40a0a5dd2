use Rattle.std.proofs.Common.{true}
use Rattle.a64_text.specs.States.{once_name}
use Rattle.a64_text.proofs.Givens.{at_answer}
use Rattle.a64_text.proofs.read.add_once.Goals as goal

pub returns : goal.returns
returns c = (
  at_answer c.args.state.now.given c.add_name.new.given c.once_name.result (once_name c.args.entry) c.in_ok-add_name.field-0 true c.once_name.ensures c.if-not-branch.false c.in_ok-add_name.ensures,
  λ yes. c.in_ok-add_entry.ensures,
)
