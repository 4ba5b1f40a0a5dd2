-- The form of an integer operation on registers that has no fault of its own is a form of its row.
use Rattle.std.proofs.Common.{ℕ, ◌≡◌, ◌-◌, ◌<◌, ◌^◌, Bool, true, false, refl, subst, arith, rules}
use Rattle.std.specs.Prelude.{◌&&◌, not, nat_lt, nat_eq, if◌then◌else◌}
use Rattle.std.proofs.lemmas.Bool.{and_parts}
use Rattle.a64_base.specs.declared.cond.Cond.{Cond}
use Rattle.a64_base.specs.declared.reg.Reg.{Reg}
use Rattle.a64_base.specs.declared.shift.ExtendOp.{ExtendOp}
use Rattle.a64_base.specs.declared.size.OperandSize.{OperandSize}
use Rattle.a64_base.specs.declared.size.OperandSize.TheVariants.{Size32, Size64}
use Rattle.a64_base.specs.OperandSizes.{sf_of}
use Rattle.a64_base.specs.Registers.{integer_register}
use Rattle.a64_base.specs.ShiftParts.{Shift}
use Rattle.a64_ops.specs.declared.operator.ALUOp.{ALUOp}
use Rattle.a64_ops.specs.declared.operator.ALUOp.TheVariants.{Orr}
use Rattle.a64_ops.specs.declared.operator.ALUOp3.{ALUOp3}
use Rattle.a64_ops.specs.declared.operator.BitOp.{BitOp}
use Rattle.a64_ops.specs.declared.operator.BitOp.TheVariants.{Rev64}
use Rattle.a64_operand.specs.declared.virtuals.VirtualRegisters.TheVariants.{Refused}
use Rattle.a64_operand.specs.Operands.{is_stack_pointer, is_bit_of}
use Rattle.a64_operand.specs.IntegerOperands.{takes_shift, is_shifted, is_bit_op_at, is_extended}
use Rattle.a64_rows.specs.Forms.{Form, IsFormOf}
use Rattle.a64_rows.specs.DataProcessing.{add_sub_imm, logic_reg, logic_imm, bitfield, data_proc1}
use Rattle.a64_rows.specs.Limits.{is_one_source}
use Rattle.a64_enc_int.specs.Registers.{register_field}
use Rattle.a64_enc_int.proofs.Registers.{field_below}
use Rattle.a64_cells.specs.IntegerForms.{two_registers, no_shift, alu_rrr_form, shifted_form, alu_rrr_extend_form, product_form, bit_opcode, mov_form, extend_form, csel_form}
use Rattle.a64_cells.proofs.Operands.{sf_below, bit_below, bit_in, bit_number, extended, extension_is_form}
use Rattle.a64_cells.proofs.OneWord.{registers_within, no_shift_within, alu_within, shifted_within, extended_within, product_within, field_widths}

-- ---- operations on two registers

pub alu_rrr_is_form : (op : ALUOp) (size : OperandSize) (rd rn rm : Reg) → IsFormOf (alu_rrr_form op size rd rn rm)
unfolding alu_rrr_form
alu_rrr_is_form op size rd rn rm = alu_within (two_registers size rd rn rm) (registers_within size rd rn rm) op no_shift (no_shift_within (sf_of size) (sf_below size)) (grind arith)

pub shifted_is_form : (op : ALUOp) (size : OperandSize) (rd rn rm : Reg) (shiftop : Shift) → is_shifted op size shiftop ≡ true
    → IsFormOf (shifted_form op shiftop (two_registers size rd rn rm))
shifted_is_form op size rd rn rm shiftop good =
    let (takes, bit) = and_parts (takes_shift op size shiftop.op) (is_bit_of size shiftop.amount) good in
    let below = bit_below size shiftop.amount bit in
    shifted_within (two_registers size rd rn rm) (registers_within size rd rn rm) op size shiftop takes
    (record { amount = bit_in size shiftop.amount below; bit = bit_number size shiftop.amount below })

pub alu_rrr_extend_is_form : (op : ALUOp) (size : OperandSize) (rd rn rm : Reg) (extendop : ExtendOp) → IsFormOf (alu_rrr_extend_form op size rd rn rm extendop)
unfolding alu_rrr_extend_form
alu_rrr_extend_is_form op size rd rn rm extendop = extended_within (two_registers size rd rn rm) (registers_within size rd rn rm) op extendop

pub product_is_form : (op : ALUOp3) (size : OperandSize) (rd rn rm ra : Reg) → IsFormOf (product_form op (register_field ra) (two_registers size rd rn rm))
product_is_form op size rd rn rm ra = product_within op (two_registers size rd rn rm) (register_field ra) (registers_within size rd rn rm) (field_below ra)

-- ---- operations on one register, and moves

bit_opcode_below : (op : BitOp) → bit_opcode op < 2 ^ 6
bit_opcode_below op = grind arith

bit_opcode_of : (op : BitOp) (size : OperandSize) → is_bit_op_at op size ≡ true → is_one_source (sf_of size) (bit_opcode op) ≡ true
bit_opcode_of Rev64 size e = grind arith
bit_opcode_of _ size e = refl

pub bit_op_is_form : (op : BitOp) (size : OperandSize) (rd rn : Reg) → is_bit_op_at op size ≡ true
    → IsFormOf (data_proc1 (record { sf = sf_of size; op6 = bit_opcode op; rn = register_field rn; rd = register_field rd }))
bit_op_is_form op size rd rn wide = (search (rules, field_widths, bit_opcode_below), bit_opcode_of op size wide)

pub mov_is_form : (size : OperandSize) (rd rm : Reg) → IsFormOf (mov_form size rd rm)
unfolding mov_form alu_rrr_form
mov_is_form size rd rm = go (is_stack_pointer Refused rm)
  where
    out_of_stack : Form
    out_of_stack = add_sub_imm (record { sf = 1; op = 0; s = 0; sh = 0; imm12 = 0; rn = 31; rd = register_field rd })

    from_register : Form
    from_register = logic_reg (record { sf = sf_of size; opc = 1; sh = 0; n = 0; rm = register_field rm; imm6 = 0; rn = 31; rd = register_field rd })

    go : (stack : Bool) → IsFormOf (if stack then out_of_stack else from_register)
    go true = search (rules, field_below)
    go false = alu_rrr_is_form Orr size rd (integer_register 31) rm

-- ---- extensions

extension_size : (signed : Bool) (to_bits : ℕ) → (size : OperandSize) × (sf_of size ≡ (if signed && nat_lt 32 to_bits then 1 else 0))
extension_size signed to_bits = go (signed && nat_lt 32 to_bits)
  where
    go : (wide : Bool) → (size : OperandSize) × (sf_of size ≡ (if wide then 1 else 0))
    go true = (Size64, refl)
    go false = (Size32, refl)

pub extend_is_form : (rd rn : Reg) (signed : Bool) (from_bits to_bits : ℕ) → is_extended Refused rd signed from_bits to_bits ≡ true → IsFormOf (extend_form rd rn signed from_bits to_bits)
unfolding extend_form
extend_is_form rd rn signed from_bits to_bits good = go (not signed && nat_eq from_bits 1) (not signed && (nat_eq from_bits 32 && nat_eq to_bits 64))
  where
    one_bit : Form
    one_bit = logic_imm (record { sf = 0; opc = 0; n = 0; immr = 0; imms = 0; rn = register_field rn; rd = register_field rd })

    bits : Form
    bits = bitfield (record {
      sf = if signed && nat_lt 32 to_bits then 1 else 0;
      opc = if signed then 0 else 2;
      immr = 0;
      imms = from_bits - 1;
      rn = register_field rn;
      rd = register_field rd;
    })

    go : (one word : Bool) → IsFormOf (if one then one_bit else if word then mov_form Size32 rd rn else bits)
    go true word = search (rules, field_below)
    go false true = mov_is_form Size32 rd rn
    go false false =
        let (size, size_is) = extension_size signed to_bits in
        subst (λ sf. IsFormOf (bitfield (record { sf = sf; opc = if signed then 0 else 2; immr = 0; imms = from_bits - 1; rn = register_field rn; rd = register_field rd }))) size_is
        (extension_is_form rd rn signed from_bits to_bits size (if signed then 0 else 2) (extended rd signed from_bits to_bits good) size_is refl)

-- ---- by a condition

pub csel_is_form : (rd rn rm : Reg) (cond : Cond) → IsFormOf (csel_form rd rn rm cond)
unfolding csel_form
csel_is_form rd rn rm cond = search (rules, field_widths)

-- those of operations on registers that the widths of their fields do not give
pub ruleset register_forms = (alu_rrr_is_form, alu_rrr_extend_is_form, mov_is_form, csel_is_form)
