-- The form of an instruction of one word that has no fault of its own is a form of its row.
use Rattle.std.proofs.Common.{ℕ, ◌≡◌, ◌<◌, ◌^◌, Bool, true, false, refl, arith, rules}
use Rattle.std.specs.Prelude.{◌==◌, not}
use Rattle.std.proofs.lemmas.Bool.Decides.{nat_tests}
use Rattle.a64_base.specs.declared.cond.Cond.{Cond}
use Rattle.a64_base.specs.declared.reg.Reg.{Reg}
use Rattle.a64_base.specs.declared.shift.ExtendOp.{ExtendOp}
use Rattle.a64_base.specs.declared.shift.ShiftOp.{ShiftOp}
use Rattle.a64_base.specs.declared.shift.ShiftOp.TheVariants.{LSL, LSR, ASR, ROR}
use Rattle.a64_base.specs.declared.size.OperandSize.{OperandSize}
use Rattle.a64_base.specs.Conditions.{condition_bits}
use Rattle.a64_base.specs.ShiftParts.{Shift}
use Rattle.a64_base.specs.Shifts.{shift_bits, extend_bits}
use Rattle.a64_imms.specs.declared.unsigned.UImm5.{UImm5}
use Rattle.a64_imms.specs.Flags.{Flags, nzcv_bits}
use Rattle.a64_imms.specs.Unsigned.{uimm5_value}
use Rattle.a64_ops.specs.declared.operator.ALUOp.{ALUOp}
use Rattle.a64_ops.specs.declared.operator.ALUOp.TheVariants as alu
use Rattle.a64_ops.specs.declared.operator.ALUOp3.{ALUOp3}
use Rattle.a64_ops.specs.declared.operator.ALUOp3.TheVariants.{MAdd}
use Rattle.a64_operand.specs.IntegerOperands.{is_no_rotation, takes_shift}
use Rattle.a64_rows.specs.Forms.{IsFormOf}
use Rattle.a64_rows.specs.Limits.{is_bit_number}
use Rattle.a64_rows.specs.DataProcessing.{add_sub_reg, logic_reg}
use Rattle.a64_enc_int.specs.declared.fields.TwoRegisters.{TwoRegisters}
use Rattle.a64_enc_int.specs.Operators.{bit_of}
use Rattle.a64_enc_int.proofs.Registers.{field_below}
use Rattle.a64_cells.specs.IntegerForms.{op_of, s_of, opc_of, n_of, two_registers, no_shift, add_sub, logic, alu_form, extraction, shifted_form, extended_form, product_form}
use Rattle.a64_cells.proofs.Operands.{sf_below}

-- ---- operations on two registers

-- a size flag and registers, each within the width of its field
pub record AreWithin (r : TwoRegisters) : Type 0 where
  pub sf : r.sf < 2
  pub rm : r.rm < 32
  pub rn : r.rn < 32
  pub rd : r.rd < 32

pub registers_within : (size : OperandSize) (rd rn rm : Reg) → AreWithin (two_registers size rd rn rm)
registers_within size rd rn rm = record { sf = sf_below size; rm = field_below rm; rn = field_below rn; rd = field_below rd }

-- a shift within the widths and limits of the rows that have one
pub record IsShift (sf : ℕ) (shift : Shift) : Type 0 where
  pub amount : shift.amount < 2 ^ 6
  pub bit : is_bit_number sf shift.amount ≡ true

pub no_shift_within : (sf : ℕ) → sf < 2 → IsShift sf no_shift
no_shift_within sf h = record { amount = omega arith; bit = grind (arith, nat_tests) }

pub shift_below : (op : ShiftOp) → shift_bits op < 2 ^ 2
shift_below op = grind arith

no_rotation : (op : ShiftOp) → is_no_rotation op ≡ true → not (shift_bits op == 3) ≡ true
no_rotation LSL e = refl
no_rotation LSR e = refl
no_rotation ASR e = refl
no_rotation ROR e = absurd cc

pub op_below : (op : ALUOp) → op_of op < 2
op_below op = grind arith

pub s_below : (op : ALUOp) → s_of op < 2
s_below op = grind arith

pub opc_below : (op : ALUOp) → opc_of op < 4
opc_below op = grind arith

pub n_below : (op : ALUOp) → n_of op < 2
n_below op = grind arith

pub bit_of_below : (bit : Bool) → bit_of bit < 2
bit_of_below true = omega arith
bit_of_below false = omega arith

pub extend_below : (extend : ExtendOp) → extend_bits extend < 2 ^ 3
extend_below extend = grind arith

pub condition_below : (cond : Cond) → condition_bits cond < 2 ^ 4
condition_below cond = grind arith

pub flags_below : (flags : Flags) → nzcv_bits flags < 2 ^ 4
flags_below flags = grind arith

pub imm5_below : (imm : UImm5) → uimm5_value imm < 32
imm5_below imm = imm.below

-- fields that are within their widths whatever the instruction
pub ruleset field_widths = (field_below, sf_below, shift_below, op_below, s_below, opc_below, n_below, bit_of_below, extend_below, condition_below, flags_below, imm5_below)

-- whether the row of an operator has the shift
abbrev has_shift : ALUOp → ShiftOp → Bool
has_shift alu.Add shift = is_no_rotation shift
has_shift alu.Sub shift = is_no_rotation shift
has_shift alu.AddS shift = is_no_rotation shift
has_shift alu.SubS shift = is_no_rotation shift
has_shift _ shift = true

-- the fields of each class of operation are within their widths and the row's limits
module _ (r : TwoRegisters) (w : AreWithin r) where
  add_sub_within : (op : ALUOp) (shift : Shift) → IsShift r.sf shift → is_no_rotation shift.op ≡ true → IsFormOf (add_sub_reg (add_sub op shift r))
  add_sub_within op shift is kept =
      ((w.sf, (op_below op, (s_below op, (shift_below shift.op, (w.rm, (is.amount, (w.rn, (w.rd, tt)))))))), rw (no_rotation shift.op kept) is.bit)

  logic_form_within : (op : ALUOp) (shift : Shift) → IsShift r.sf shift → IsFormOf (logic_reg (logic op shift r))
  logic_form_within op shift is = ((w.sf, (opc_below op, (shift_below shift.op, (n_below op, (w.rm, (is.amount, (w.rn, (w.rd, tt)))))))), is.bit)

  pub extended_within : (op : ALUOp) (extend : ExtendOp) → IsFormOf (extended_form op extend r)
  extended_within op extend = search (rules, field_widths)

  pub extraction_within : (lowest : ℕ) → lowest < 2 ^ 6 → is_bit_number r.sf lowest ≡ true → IsFormOf (extraction lowest r)
  extraction_within lowest small bit = search rules

  pub alu_within : (op : ALUOp) (shift : Shift) → IsShift r.sf shift → has_shift op shift.op ≡ true → IsFormOf (alu_form op shift r)
  alu_within alu.Add shift is has = add_sub_within alu.Add shift is has
  alu_within alu.Sub shift is has = add_sub_within alu.Sub shift is has
  alu_within alu.AddS shift is has = add_sub_within alu.AddS shift is has
  alu_within alu.SubS shift is has = add_sub_within alu.SubS shift is has
  alu_within alu.And shift is has = logic_form_within alu.And shift is
  alu_within alu.Orr shift is has = logic_form_within alu.Orr shift is
  alu_within alu.Eor shift is has = logic_form_within alu.Eor shift is
  alu_within alu.AndS shift is has = logic_form_within alu.AndS shift is
  alu_within alu.AndNot shift is has = logic_form_within alu.AndNot shift is
  alu_within alu.OrrNot shift is has = logic_form_within alu.OrrNot shift is
  alu_within alu.EorNot shift is has = logic_form_within alu.EorNot shift is
  alu_within _ shift is has = search rules

  -- of which the second is shifted, or an extraction
  pub shifted_within : (op : ALUOp) (size : OperandSize) (shift : Shift) → takes_shift op size shift.op ≡ true → IsShift r.sf shift → IsFormOf (shifted_form op shift r)
  shifted_within alu.Add size shift takes is = alu_within alu.Add shift is takes
  shifted_within alu.Sub size shift takes is = alu_within alu.Sub shift is takes
  shifted_within alu.AddS size shift takes is = alu_within alu.AddS shift is takes
  shifted_within alu.SubS size shift takes is = alu_within alu.SubS shift is takes
  shifted_within alu.And size shift takes is = alu_within alu.And shift is refl
  shifted_within alu.Orr size shift takes is = alu_within alu.Orr shift is refl
  shifted_within alu.Eor size shift takes is = alu_within alu.Eor shift is refl
  shifted_within alu.AndS size shift takes is = alu_within alu.AndS shift is refl
  shifted_within alu.AndNot size shift takes is = alu_within alu.AndNot shift is refl
  shifted_within alu.OrrNot size shift takes is = alu_within alu.OrrNot shift is refl
  shifted_within alu.EorNot size shift takes is = alu_within alu.EorNot shift is refl
  shifted_within alu.Extr size shift takes is = extraction_within shift.amount is.amount is.bit
  shifted_within _ size shift takes is = absurd cc

-- ---- products

pub product_within : (op : ALUOp3) (r : TwoRegisters) (ra : ℕ) → AreWithin r → ra < 32 → IsFormOf (product_form op ra r)
product_within MAdd r ra w a = search rules
product_within _ r ra w a = search rules
