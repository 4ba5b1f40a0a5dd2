use Rattle.a64_text.proofs.FloatDups.{no_dup}
use Rattle.a64_text.proofs.make.plain.vector.vec_dup_fp_imm.Goals as goal

pub returns-in_err-float_imm_of : goal.returns-in_err-float_imm_of
returns-in_err-float_imm_of c =
    rw c.from_residual.ensures
    (no_dup c.args.values.now c.lane_size.result c.get-size.result c.get-2.result c.get-size.ensures c.lane_size.ensures c.get-2.ensures c.in_err-float_imm_of.ensures)
