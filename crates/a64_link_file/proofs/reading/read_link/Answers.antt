use Rattle.std.proofs.Common.{refl, ap, map, rules, false, None}
use Rattle.std.specs.Prelude.{List}
use Rattle.a64_link.specs.declared.unit.Unit.{Unit}
use Rattle.a64_link_file.specs.Entries.{State, unit_contents}
use Rattle.a64_link_file.specs.States.{state_of}
use Rattle.a64_link_file.proofs.Counts.{words_few}
use Rattle.a64_link_file.proofs.Answered.{no_file, no_memory}
use Rattle.a64_link_file.proofs.reading.read_link.Goals as goal

-- the state before the first line, of the units that are done
abbrev begun : List Unit → State
begun units = record { base = 0; given = false; done = map unit_contents units; current = None; total = 0 }

pub returns-in_err-read_lines-clause-answers : goal.returns-in_err-read_lines-clause-answers
returns-in_err-read_lines-clause-answers c =
    no_file c.args.bytes.now c.from_residual.result _ c.in_err-read_lines.field-0.0 (search rules) (ap begun c.new.ensures.items) c.in_err-read_lines.ensures

pub returns-in_err-close_unit-clause-answers : goal.returns-in_err-close_unit-clause-answers
returns-in_err-close_unit-clause-answers c = no_memory c.args.bytes.now c.from_residual-in_err-close_unit.result (search rules)

pub returns-clause-few : goal.returns-clause-few
returns-clause-few c =
    words_few _ c.args.bytes.now (state_of c.read_lines.new.lines) c.close_unit.new.lines.done.items (ap (map unit_contents) c.new.ensures.items) refl refl
    c.in_ok-read_lines.ensures.ok (ap (λ (s : State). s.done) c.in_ok-close_unit.ensures)
