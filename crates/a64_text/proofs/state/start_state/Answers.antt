use Rattle.a64_text.proofs.Givens.{has_none}
use Rattle.a64_text.proofs.state.start_state.Goals as goal

pub returns : goal.returns
returns c = record { file = c.empty_file.ensures; given = has_none c.new.result c.new.ensures.empty }
