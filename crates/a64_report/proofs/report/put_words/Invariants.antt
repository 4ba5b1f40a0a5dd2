use Rattle.std.proofs.Common.{◌≡◌, ◌++◌, ◌≤◌, ◌-◌, ◌%◌, length}
use Rattle.a64_report.specs.Kept.{word_lines}
use Rattle.a64_io.specs.Streams.{Puts}
use Rattle.a64_report.proofs.report.put_words.Given as goal

-- what waits, and the lines of those that are left behind it
abbrev pub invariant-loop-place : goal.invariant-loop-place
invariant-loop-place g l =
    Puts (g.K.Sink.taken l.initial.sink) (g.K.Sink.faults l.initial.sink) l.initial.piece (g.K.Sink.taken l.sink) (g.K.Sink.faults l.sink) (l.piece ++ word_lines l.bytes l.place) (word_lines l.bytes 0)
    × (l.place ≤ length l.bytes)
    × (l.place % 4 ≡ 0)

abbrev pub decreases-loop-place : goal.decreases-loop-place
decreases-loop-place g l = length l.bytes - l.place
