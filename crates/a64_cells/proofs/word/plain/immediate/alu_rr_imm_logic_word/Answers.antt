use Rattle.std.proofs.Common.{ℕ, ◌≡◌, Bool, true, false}
use Rattle.a64_enc_int.specs.Operators.{bit_of}
use Rattle.a64_cells.proofs.LogicForms.{alu_rr_imm_logic_is_form}
use Rattle.a64_cells.proofs.word.plain.immediate.alu_rr_imm_logic_word.Goals as goal

-- a flag as a number
as_bit : (flag : Bool) (n : ℕ) → n ≡ (elim flag [ false ↦ 0 | true ↦ 1 ]) → n ≡ bit_of flag
as_bit false n e = e
as_bit true n e = e

pub logic_imm_word-requires : goal.logic_imm_word-requires
logic_imm_word-requires c =
    let imm = c.logic_imm-imml.result in
    let formed = alu_rr_imm_logic_is_form c.args.op c.args.size c.args.rd c.args.rn c.args.imml imm c.requires.imml c.logic_imm-imml.ensures.value c.logic_imm-imml.ensures.lawful in
    rw (c.sf_bit.ensures, c.opc_bits.ensures.value, as_bit imm.n c.from-n.result c.from-n.ensures, c.from-immr.ensures, c.from-imms.ensures, c.register_field-rn.ensures.value, c.register_field-rd.ensures.value, c.to_reg.ensures) formed
