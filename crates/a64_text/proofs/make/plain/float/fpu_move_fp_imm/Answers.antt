use Rattle.std.proofs.Common.{◌∙◌}
use Rattle.a64_text.proofs.FloatMoves.{no_move, move}
use Rattle.a64_text.proofs.make.plain.float.fpu_move_fp_imm.Goals as goal

pub returns-in_err-float_imm_of : goal.returns-in_err-float_imm_of
returns-in_err-float_imm_of c = rw c.from_residual.ensures (no_move c.args.values.now c.get-size.result c.get-2.result c.get-size.ensures c.get-2.ensures c.in_err-float_imm_of.ensures)

pub returns : goal.returns
returns c = move c.args.values.now c.get-size.result c.get-2.result c.get-size.ensures c.get-2.ensures c.in_ok-float_imm_of.field-0 c.from_reg.result (c.from_reg.ensures ∙ c.get.ensures) c.in_ok-float_imm_of.ensures
