use Rattle.std.proofs.Common.{◌+◌, drop}
use Rattle.std.specs.List.{flat_map, enumerate_from}
use Rattle.a64_report.specs.Report.{word_line}
use Rattle.a64_report.proofs.Gathering.{PutsFront}
use Rattle.a64_report.proofs.word_lines.put_word_lines.Given as goal

-- the lines of those that are left are still to come
abbrev pub invariant-loop-index : goal.invariant-loop-index
invariant-loop-index g l =
    PutsFront (g.K.Sink.taken l.initial.sink) (g.K.Sink.faults l.initial.sink) l.initial.piece (g.K.Sink.taken l.sink) (g.K.Sink.faults l.sink) l.piece
    (flat_map word_line (enumerate_from (l.from + l.index) (drop l.index l.words)))
    (flat_map word_line (enumerate_from l.from l.words))
