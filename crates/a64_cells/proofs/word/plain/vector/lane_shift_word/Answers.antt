use Rattle.a64_cells.proofs.VectorForms.{shift_is_form}
use Rattle.a64_cells.proofs.word.plain.vector.lane_shift_word.Goals as goal

pub shift_word-requires-clause-form : goal.shift_word-requires-clause-form
shift_word-requires-clause-form c =
    rw (c.enc_size.ensures, c.shift_fields.ensures, c.shift_field.ensures)
    (shift_is_form c.args.op c.args.size c.args.imm c.args.rd c.args.rn c.requires.imm)
