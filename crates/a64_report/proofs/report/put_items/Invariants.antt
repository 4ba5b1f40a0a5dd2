use Rattle.std.proofs.Common.{◌++◌, ◌≤◌, ◌-◌, length}
use Rattle.a64_report.specs.Kept.{item_lines}
use Rattle.a64_io.specs.Streams.{Puts}
use Rattle.a64_report.proofs.report.put_items.Given as goal

-- what waits, and the lines of those that are left behind it
abbrev pub invariant-loop-index : goal.invariant-loop-index
invariant-loop-index g l =
    Puts (g.K.Sink.taken l.initial.sink) (g.K.Sink.faults l.initial.sink) l.initial.piece (g.K.Sink.taken l.sink) (g.K.Sink.faults l.sink) (l.piece ++ item_lines l.places l.index) (item_lines l.places 0)
    × (l.index ≤ length l.places)

abbrev pub decreases-loop-index : goal.decreases-loop-index
decreases-loop-index g l = length l.places - l.index
