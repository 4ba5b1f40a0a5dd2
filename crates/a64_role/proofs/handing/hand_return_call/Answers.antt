use Rattle.a64_role.proofs.Parts.{tells_then}
use Rattle.a64_role.proofs.handing.hand_return_call.Goals as goal

pub returns : goal.returns
returns g c = tells_then c.hand_each.result c.in_ok-hand.ensures c.hand_each.ensures
