use Rattle.std.proofs.Common.{drop}
use Rattle.std.specs.List.{flat_map, enumerate_from}
use Rattle.a64_report.specs.LinkLines.{unit_line}
use Rattle.a64_report.proofs.Gathering.{PutsFront}
use Rattle.a64_report.proofs.linked.put_units.Given as goal

-- the lines of those that are left are still to come
abbrev pub invariant-loop-index : goal.invariant-loop-index
invariant-loop-index g l =
    PutsFront (g.K.Sink.taken l.initial.sink) (g.K.Sink.faults l.initial.sink) l.initial.piece (g.K.Sink.taken l.sink) (g.K.Sink.faults l.sink) l.piece
    (flat_map unit_line (enumerate_from l.index (drop l.index l.starts)))
    (flat_map unit_line (enumerate_from 0 l.starts))
