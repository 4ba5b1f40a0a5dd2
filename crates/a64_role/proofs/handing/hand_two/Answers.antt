use Rattle.a64_role.proofs.Parts.{tells_then}
use Rattle.a64_role.proofs.handing.hand_two.Goals as goal

pub returns : goal.returns
returns g c = tells_then c.hand-2.result c.in_ok-hand.ensures c.hand-2.ensures
