use Rattle.std.proofs.Common.{◌∙◌, ap}
use Rattle.a64_operand.specs.Operands.{is_imm12}
use Rattle.a64_cells.proofs.Accesses.{addend_good}
use Rattle.a64_cells.proofs.word.memory.address.sum_words.Goals as goal

pub alu_rr_imm12_word-requires-clause-imm12 : goal.alu_rr_imm12_word-requires-clause-imm12
alu_rr_imm12_word-requires-clause-imm12 c = ap is_imm12 c.in-Some.ensures.1 ∙ addend_good c.unsigned_abs.result c.in-Some.ensures.0
