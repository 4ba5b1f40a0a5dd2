use Rattle.a64_role.proofs.Parts.{tells_then}
use Rattle.a64_role.proofs.handing.hand_call.Goals as goal

pub returns : goal.returns
returns g c =
    let last = c.hand-2.result in
    tells_then last c.in_ok-hand.ensures (tells_then last c.in_ok-hand_each.ensures (tells_then last c.in_ok-hand_each-2.ensures c.hand-2.ensures))
