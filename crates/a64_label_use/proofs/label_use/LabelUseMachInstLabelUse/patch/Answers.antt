use Rattle.std.proofs.Common.{ap, arith}
use Rattle.std.specs.Int.{w32, from_le_bytes}
use Rattle.a64_label_use.specs.LabelUses.{forward_range, backward_range}
use Rattle.a64_label_use.proofs.FarJumps.{lead_far}
use Rattle.a64_label_use.proofs.label_use.LabelUseMachInstLabelUse.patch.Goals as goal

pub returns-in-PCRel32-clause-far : goal.returns-in-PCRel32-clause-far
returns-in-PCRel32-clause-far c = λ self_is zero.
    let is = c.add_distance.ensures in
    let ahead = c.requires.within.ahead in
    let behind = c.requires.within.behind in
    let forward = ap forward_range self_is in
    let backward = ap backward_range self_is in
    lead_far (from_le_bytes w32 c.add_distance.new.buffer) c.args.label_offset c.args.use_offset (omega (arith, is, zero)) (omega (arith, is)) (omega (arith, ahead, forward)) (omega (arith, behind, backward))
