use Rattle.std.proofs.Common.{◌∙◌}
use Rattle.a64_text.proofs.Logics.{no_operation, operation}
use Rattle.a64_text.proofs.make.plain.alu_rr_imm_logic.Goals as goal

pub returns-in_err-logic_of : goal.returns-in_err-logic_of
returns-in_err-logic_of c = rw c.from_residual.ensures (no_operation c.args.values.now c.get-size.result c.get-4.result c.get-size.ensures c.get-4.ensures c.in_err-logic_of.ensures)

pub returns : goal.returns
returns c = operation c.args.values.now c.get-size.result c.get-4.result c.get-size.ensures c.get-4.ensures c.in_ok-logic_of.field-0 c.get.result c.from_reg.result c.get-3.result c.get.ensures (c.from_reg.ensures ∙ c.get-2.ensures) c.get-3.ensures c.in_ok-logic_of.ensures
