-- The form of an integer operation with an immediate that has no fault of its own is a form of its row.
use Rattle.std.proofs.Common.{ℕ, ℤ, ◌≡◌, ◌<◌, ◌^◌, true, refl, lit<, arith, rules}
use Rattle.std.specs.Prelude.{◌==◌, not}
use Rattle.std.proofs.lemmas.Bool.{and_parts, leb-true, le-leb, ltb-true}
use Rattle.a64_base.specs.declared.reg.Reg.{Reg}
use Rattle.a64_base.specs.declared.size.OperandSize.{OperandSize}
use Rattle.a64_base.specs.declared.size.OperandSize.TheVariants.{Size32, Size64}
use Rattle.a64_base.specs.OperandSizes.{sf_of, operand_bits}
use Rattle.a64_imms.specs.declared.imm12.Imm12.{Imm12}
use Rattle.a64_imms.specs.declared.move_wide.MoveWideConst.{MoveWideConst}
use Rattle.a64_imms.specs.declared.unsigned.ImmShift.{ImmShift}
use Rattle.a64_imms.specs.declared.unsigned.UImm6.{UImm6}
use Rattle.a64_imms.specs.Offsets.{residue}
use Rattle.a64_ops.specs.declared.operator.ALUOp.{ALUOp}
use Rattle.a64_ops.specs.declared.operator.ALUOp.TheVariants as alu
use Rattle.a64_ops.specs.declared.operator.BfmOp.{BfmOp}
use Rattle.a64_ops.specs.declared.operator.BfmOp.TheVariants.{UBfm, SBfm}
use Rattle.a64_ops.specs.declared.operator.MoveWideOp.{MoveWideOp}
use Rattle.a64_ops.specs.declared.operator.MoveWideOp.TheVariants.{MovZ, MovN}
use Rattle.a64_operand.specs.Operands.{is_bit_of, is_imm12, is_same_register, is_wide_in}
use Rattle.a64_operand.specs.IntegerOperands.{is_bitfield, is_kept_bitfield, is_shift}
use Rattle.a64_plan.specs.Shapes.{IsWithin}
use Rattle.a64_rows.specs.Forms.{IsFormOf}
use Rattle.a64_rows.specs.DataProcessing.{bitfield, move_wide}
use Rattle.a64_enc_int.specs.Branches.{distance_low, distance_high}
use Rattle.a64_enc_int.specs.Operators.{move_wide_opc}
use Rattle.a64_enc_int.specs.Registers.{register_field}
use Rattle.a64_enc_int.proofs.Immediates.{residue_below}
use Rattle.a64_enc_int.proofs.Registers.{field_below}
use Rattle.a64_cells.specs.IntegerForms.{two_registers, alu_rr_imm12_form, mov_wide_form, mov_k_form, shift_opc, shift_immr, shift_imms, alu_rr_imm_shift_form, bfm_opc, adr_form, adrp_form}
use Rattle.a64_cells.proofs.Operands.{bit_below, bit_in, bit_number}
use Rattle.a64_cells.proofs.OneWord.{registers_within, extraction_within, field_widths}

-- ---- additions and subtractions

pub alu_rr_imm12_is_form : (op : ALUOp) (size : OperandSize) (rd rn : Reg) (imm12 : Imm12) → is_imm12 imm12 ≡ true → IsFormOf (alu_rr_imm12_form op size rd rn imm12)
unfolding alu_rr_imm12_form
alu_rr_imm12_is_form op size rd rn imm12 small = let bits = ltb-true imm12.bits 4096 small in search (rules, field_widths, bits)

-- ---- wide moves

wide_in : (size : OperandSize) (imm : MoveWideConst) → is_wide_in size imm ≡ true → imm.bits < 2 ^ 16 → IsWithin size imm
wide_in Size32 imm w fits = let l = leb-true imm.shift 1 w in record { bits_fit = fits; has_place = omega (arith, l) }
wide_in Size64 imm w fits = let l = leb-true imm.shift 3 w in record { bits_fit = fits; has_place = omega (arith, l) }

wide_within : (size : OperandSize) (imm : MoveWideConst) (opc : ℕ) (rd : Reg) → IsWithin size imm → opc < 2 ^ 2 → not (opc == 1) ≡ true
    → IsFormOf (move_wide (record { sf = sf_of size; opc = opc; hw = imm.shift; imm16 = imm.bits; rd = register_field rd }))
wide_within Size32 imm opc rd is o a = let l = is.has_place in ((lit< tt, (o, (omega (arith, l), (is.bits_fit, (field_below rd, tt))))), rw (a, le-leb imm.shift 1 (omega (arith, l))) refl)
wide_within Size64 imm opc rd is o a = ((lit< tt, (o, (is.has_place, (is.bits_fit, (field_below rd, tt))))), rw a refl)

opc_below : (op : MoveWideOp) → (move_wide_opc op < 2 ^ 2) × (not (move_wide_opc op == 1) ≡ true)
opc_below MovZ = (lit< tt, refl)
opc_below MovN = (lit< tt, refl)

-- of a halfword inside a register of the size
pub mov_wide_within : (op : MoveWideOp) (rd : Reg) (imm : MoveWideConst) (size : OperandSize) → IsWithin size imm → IsFormOf (mov_wide_form op rd imm size)
unfolding mov_wide_form
mov_wide_within op rd imm size is = wide_within size imm (move_wide_opc op) rd is (opc_below op).0 (opc_below op).1

pub mov_k_within : (rd : Reg) (imm : MoveWideConst) (size : OperandSize) → IsWithin size imm → IsFormOf (mov_k_form rd imm size)
unfolding mov_k_form
mov_k_within rd imm size is = wide_within size imm 3 rd is (lit< tt) refl

-- which a halfword is that has 16 bits
pub mov_wide_is_form : (op : MoveWideOp) (rd : Reg) (imm : MoveWideConst) (size : OperandSize) → is_wide_in size imm ≡ true → imm.bits < 2 ^ 16 → IsFormOf (mov_wide_form op rd imm size)
mov_wide_is_form op rd imm size wide fits = mov_wide_within op rd imm size (wide_in size imm wide fits)

pub mov_k_is_form : (rd : Reg) (imm : MoveWideConst) (size : OperandSize) → is_wide_in size imm ≡ true → imm.bits < 2 ^ 16 → IsFormOf (mov_k_form rd imm size)
mov_k_is_form rd imm size wide fits = mov_k_within rd imm size (wide_in size imm wide fits)

-- ---- bit fields

bitfield_within : (size : OperandSize) (opc immr imms : ℕ) (rn rd : Reg) → opc < 2 ^ 2 → not (opc == 3) ≡ true → immr < operand_bits size → imms < operand_bits size
    → IsFormOf (bitfield (record { sf = sf_of size; opc = opc; immr = immr; imms = imms; rn = register_field rn; rd = register_field rd }))
bitfield_within size opc immr imms rn rd o a r s =
    let first = bit_in size immr r in
    let last = bit_in size imms s in
    (search (rules, field_widths, first, last), rw (a, bit_number size immr r, bit_number size imms s) refl)

bfm_opc_below : (op : BfmOp) → (bfm_opc op < 2 ^ 2) × (not (bfm_opc op == 3) ≡ true)
bfm_opc_below SBfm = (lit< tt, refl)
bfm_opc_below UBfm = (lit< tt, refl)

pub bitfield_is_form : (size : OperandSize) (op : BfmOp) (rd rn : Reg) (immr imms : UImm6) → is_bitfield size immr imms ≡ true
    → IsFormOf (bitfield (record { sf = sf_of size; opc = bfm_opc op; immr = immr.imm; imms = imms.imm; rn = register_field rn; rd = register_field rd }))
bitfield_is_form size op rd rn immr imms good =
    let (first, last) = and_parts (is_bit_of size immr.imm) (is_bit_of size imms.imm) good in
    bitfield_within size (bfm_opc op) immr.imm imms.imm rn rd (bfm_opc_below op).0 (bfm_opc_below op).1 (bit_below size immr.imm first) (bit_below size imms.imm last)

pub kept_bitfield_is_form : (size : OperandSize) (rd ri rn : Reg) (immr imms : UImm6) → is_kept_bitfield rd ri size immr imms ≡ true
    → IsFormOf (bitfield (record { sf = sf_of size; opc = 1; immr = immr.imm; imms = imms.imm; rn = register_field rn; rd = register_field rd }))
kept_bitfield_is_form size rd ri rn immr imms good =
    let (_, bits) = and_parts (is_same_register rd ri) (is_bitfield size immr imms) good in
    let (first, last) = and_parts (is_bit_of size immr.imm) (is_bit_of size imms.imm) bits in
    bitfield_within size 1 immr.imm imms.imm rn rd (lit< tt) refl (bit_below size immr.imm first) (bit_below size imms.imm last)

-- ---- shifts

shifted_bits : (op : ALUOp) (size : OperandSize) (amount : ℕ) → amount < operand_bits size → (shift_immr op size amount < operand_bits size) × (shift_imms op size amount < operand_bits size)
shifted_bits op Size32 amount h = grind arith
shifted_bits op Size64 amount h = grind arith

shift_opc_below : (op : ALUOp) → (shift_opc op < 2 ^ 2) × (not (shift_opc op == 3) ≡ true)
shift_opc_below op = grind arith

shift_is_form : (op : ALUOp) (size : OperandSize) (rd rn : Reg) (amount : ℕ) → amount < operand_bits size
    → IsFormOf (bitfield (record { sf = sf_of size; opc = shift_opc op; immr = shift_immr op size amount; imms = shift_imms op size amount; rn = register_field rn; rd = register_field rd }))
shift_is_form op size rd rn amount b =
    bitfield_within size (shift_opc op) (shift_immr op size amount) (shift_imms op size amount) rn rd (shift_opc_below op).0 (shift_opc_below op).1 (shifted_bits op size amount b).0 (shifted_bits op size amount b).1

pub alu_rr_imm_shift_is_form : (op : ALUOp) (size : OperandSize) (rd rn : Reg) (immshift : ImmShift) → is_shift op ≡ true → is_bit_of size immshift.imm ≡ true
    → IsFormOf (alu_rr_imm_shift_form op size rd rn immshift)
unfolding alu_rr_imm_shift_form
alu_rr_imm_shift_is_form alu.Extr size rd rn immshift kind bit =
    let below = bit_below size immshift.imm bit in
    extraction_within (two_registers size rd rn rn) (registers_within size rd rn rn) immshift.imm (bit_in size immshift.imm below) (bit_number size immshift.imm below)
alu_rr_imm_shift_is_form alu.Lsl size rd rn immshift kind bit = shift_is_form alu.Lsl size rd rn immshift.imm (bit_below size immshift.imm bit)
alu_rr_imm_shift_is_form alu.Lsr size rd rn immshift kind bit = shift_is_form alu.Lsr size rd rn immshift.imm (bit_below size immshift.imm bit)
alu_rr_imm_shift_is_form alu.Asr size rd rn immshift kind bit = shift_is_form alu.Asr size rd rn immshift.imm (bit_below size immshift.imm bit)
alu_rr_imm_shift_is_form _ size rd rn immshift kind bit = absurd cc

-- ---- addresses

low_below : (off : ℤ) → distance_low off < 2 ^ 2
low_below off = omega arith

high_below : (off : ℤ) → distance_high off < 2 ^ 19
high_below off = let small : residue (2 ^ 21) off < 2 ^ 21 = residue_below (2 ^ 21) off (lit< tt) in omega (arith, small)

pub adr_is_form : (rd : Reg) (off : ℤ) → IsFormOf (adr_form rd off)
unfolding adr_form
adr_is_form rd off = search (rules, field_below, low_below, high_below)

pub adrp_is_form : (rd : Reg) (off : ℤ) → IsFormOf (adrp_form rd off)
unfolding adrp_form
adrp_is_form rd off = search (rules, field_below, low_below, high_below)

-- those of operations with an immediate that the widths of their fields do not give
pub ruleset immediate_forms = (alu_rr_imm12_is_form, adr_is_form, adrp_is_form)
