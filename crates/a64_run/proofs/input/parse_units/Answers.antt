use Rattle.a64_run.proofs.Inputs.{parsed_units, bad_units}
use Rattle.a64_run.proofs.input.parse_units.Goals as goal

pub returns-in-Ok : goal.returns-in-Ok
returns-in-Ok c = parsed_units c.args.bytes.now c.in-Ok.file c.requires c.in-Ok.ensures.answers c.in-Ok.ensures.few

pub returns-in-Err-BadLine : goal.returns-in-Err-BadLine
returns-in-Err-BadLine c =
    bad_units c.args.bytes.now c.in-Err-BadLine.number c.requires (rw c.in-Err-BadLine.field-0-is at c.in-Err-BadLine.ensures.answers)
