use Rattle.std.proofs.Common.{drop}
use Rattle.std.specs.List.{flat_map}
use Rattle.a64_report.proofs.Gathering.{PutsFront}
use Rattle.a64_report.proofs.report.put_lines.Given as goal

-- the lines of those that are left are still to come
abbrev pub invariant-loop-subject : goal.invariant-loop-subject
invariant-loop-subject g l =
    PutsFront (g.K.Sink.taken l.initial.sink) (g.K.Sink.faults l.initial.sink) l.initial.piece (g.K.Sink.taken l.sink) (g.K.Sink.faults l.sink) l.piece
    (flat_map g.L.LineKind.line (drop l.subject-index l.subjects))
    (flat_map g.L.LineKind.line l.subjects)
