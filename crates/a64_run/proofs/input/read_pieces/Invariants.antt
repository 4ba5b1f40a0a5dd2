use Rattle.std.proofs.Common.{◌≡◌, ◌-◌, ◌<◌, ◌≤◌, length, IfSome}
use Rattle.a64_run.specs.Stages.{HasTaken}
use Rattle.a64_run.proofs.input.read_pieces.Given as goal

-- the bytes that were read are the first of the source, and no read failed
abbrev pub invariant-loop-bytes : goal.invariant-loop-bytes
invariant-loop-bytes g l =
    (length l.bytes.items ≤ 16777217)
    × (0 < length l.piece)
    × IfSome (g.S.Source.left l.initial.source) (λ text. HasTaken text l.bytes.items (g.S.Source.left l.source))
    × (g.S.Source.faults l.source ≡ g.S.Source.faults l.initial.source)

abbrev pub decreases-loop-bytes : goal.decreases-loop-bytes
decreases-loop-bytes g l = 16777217 - length l.bytes.items
