use Rattle.std.proofs.Common.{drop}
use Rattle.a64_report.specs.StubLines.{stub_lines}
use Rattle.a64_report.proofs.Gathering.{PutsFront}
use Rattle.a64_report.proofs.stubs.put_stubs.Given as goal

-- the lines of those that are left are still to come
abbrev pub invariant-loop-index : goal.invariant-loop-index
invariant-loop-index g l =
    PutsFront (g.K.Sink.taken l.initial.sink) (g.K.Sink.faults l.initial.sink) l.initial.piece (g.K.Sink.taken l.sink) (g.K.Sink.faults l.sink) l.piece
    (stub_lines l.index (drop l.index l.places) (drop l.index l.addresses))
    (stub_lines 0 l.places l.addresses)
