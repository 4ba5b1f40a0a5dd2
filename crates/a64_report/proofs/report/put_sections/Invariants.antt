use Rattle.std.proofs.Common.{drop}
use Rattle.std.specs.List.{flat_map}
use Rattle.a64_report.specs.Sections.{section_text}
use Rattle.a64_report.proofs.Gathering.{PutsFront}
use Rattle.a64_report.proofs.report.put_sections.Given as goal

-- the sections that are left are still to come
abbrev pub invariant-loop-section : goal.invariant-loop-section
invariant-loop-section g l =
    PutsFront (g.K.Sink.taken l.initial.sink) (g.K.Sink.faults l.initial.sink) l.initial.piece (g.K.Sink.taken l.sink) (g.K.Sink.faults l.sink) l.piece
    (flat_map (section_text l.code) (drop l.section-index l.sections))
    (flat_map (section_text l.code) l.sections)
