use Rattle.a64_run.proofs.Inputs.{parsed_listing, bad_listing}
use Rattle.a64_run.proofs.input.parse_listing.Goals as goal

pub returns-in-Ok : goal.returns-in-Ok
returns-in-Ok c =
    parsed_listing c.args.bytes.now c.in-Ok.file c.requires c.in-Ok.ensures.answers
    (record { lines = c.in-Ok.ensures.answers.ok; back = c.in-Ok.ensures.back }) c.in-Ok.ensures.listing

pub returns-in-Err-BadLine : goal.returns-in-Err-BadLine
returns-in-Err-BadLine c =
    bad_listing c.args.bytes.now c.in-Err-BadLine.number c.requires (rw c.in-Err-BadLine.field-0-is at c.in-Err-BadLine.ensures.answers)
