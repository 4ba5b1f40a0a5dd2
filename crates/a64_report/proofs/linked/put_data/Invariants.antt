use Rattle.std.proofs.Common.{◌≤◌}
use Rattle.a64_report.specs.LinkLines.{data_text}
use Rattle.a64_report.proofs.Gathering.{PutsFront}
use Rattle.a64_report.proofs.ZeroRuns.{lines_left_from}
use Rattle.a64_report.proofs.linked.put_data.Given as goal

-- the lines of those that are left are still to come, and of the zero words before them
abbrev pub invariant-loop-index : goal.invariant-loop-index
invariant-loop-index g l =
    PutsFront (g.K.Sink.taken l.initial.sink) (g.K.Sink.faults l.initial.sink) l.initial.piece (g.K.Sink.taken l.sink) (g.K.Sink.faults l.sink) l.piece
    (lines_left_from l.words l.from l.index)
    (data_text l.words)
    × (l.from ≤ l.index)
