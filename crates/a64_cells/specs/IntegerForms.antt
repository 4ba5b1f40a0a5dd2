-- The fields of integer instructions that operators give, and the forms of those that are irregular
-- or stand in sequences too (Arm Architecture Reference Manual, DDI 0487, C4.1, "Data Processing --
-- Immediate", "Data Processing -- Register", and of "Branches, Exception Generating and System
-- instructions" the hints and the moves of the flags). PlainForms has the form of each instruction.
use Rattle.std.specs.Prelude.{ℕ, ℤ, ◌-◌, ◌%◌, Bool, not, ◌&&◌, nat_eq, nat_lt, if◌then◌else◌}
use Rattle.a64_base.specs.declared.cond.Cond.{Cond}
use Rattle.a64_base.specs.declared.reg.Reg.{Reg}
use Rattle.a64_base.specs.declared.shift.ExtendOp.{ExtendOp}
use Rattle.a64_base.specs.declared.shift.ShiftOp.TheVariants.{LSL}
use Rattle.a64_base.specs.declared.size.OperandSize.{OperandSize}
use Rattle.a64_base.specs.declared.size.OperandSize.TheVariants.{Size32}
use Rattle.a64_base.specs.Conditions.{condition_bits}
use Rattle.a64_base.specs.OperandSizes.{sf_of, operand_bits}
use Rattle.a64_base.specs.ShiftParts.{Shift}
use Rattle.a64_base.specs.Shifts.{shift_bits, extend_bits}
use Rattle.a64_ops.specs.declared.operator.ALUOp.{ALUOp}
use Rattle.a64_ops.specs.declared.operator.ALUOp.TheVariants.{Add, Sub, AddS, SubS, And, Orr, Eor}
use Rattle.a64_ops.specs.declared.operator.ALUOp.TheVariants.{AndS, AndNot, OrrNot, EorNot, Adc}
use Rattle.a64_ops.specs.declared.operator.ALUOp.TheVariants.{Sbc, AdcS, SbcS, UDiv, SDiv, Lsl, Lsr}
use Rattle.a64_ops.specs.declared.operator.ALUOp.TheVariants.{Asr, Extr, SMulH, UMulH}
use Rattle.a64_ops.specs.declared.operator.ALUOp3.{ALUOp3}
use Rattle.a64_ops.specs.declared.operator.ALUOp3.TheVariants.{MAdd, MSub, UMAddL, SMAddL}
use Rattle.a64_ops.specs.declared.operator.BfmOp.{BfmOp}
use Rattle.a64_ops.specs.declared.operator.BfmOp.TheVariants.{UBfm, SBfm}
use Rattle.a64_ops.specs.declared.operator.BitOp.{BitOp}
use Rattle.a64_ops.specs.declared.operator.BitOp.TheVariants.{RBit, Clz, Cls, Rev16, Rev32, Rev64}
use Rattle.a64_ops.specs.declared.operator.MoveWideOp.{MoveWideOp}
use Rattle.a64_imms.specs.declared.imm12.Imm12.{Imm12}
use Rattle.a64_imms.specs.declared.imm_logic.ImmLogic.{ImmLogic}
use Rattle.a64_imms.specs.declared.move_wide.MoveWideConst.{MoveWideConst}
use Rattle.a64_imms.specs.declared.unsigned.ImmShift.{ImmShift}
use Rattle.a64_imms.specs.Logic.{inverted}
use Rattle.a64_operand.specs.declared.virtuals.VirtualRegisters.TheVariants.{Refused}
use Rattle.a64_operand.specs.Operands.{is_stack_pointer}
use Rattle.a64_enc_int.specs.declared.fields.TwoRegisters.{TwoRegisters}
use Rattle.a64_enc_int.specs.Branches.{distance_low, distance_high}
use Rattle.a64_enc_int.specs.Operators.{bit_of, move_wide_opc}
use Rattle.a64_enc_int.specs.Registers.{register_field}
use Rattle.a64_rows.specs.Forms.{Form}
use Rattle.a64_rows.specs.Control.{hint, nzcv}
use Rattle.a64_rows.specs.DataProcessing.{AddSubRegFields, add_sub_reg, LogicRegFields, logic_reg}
use Rattle.a64_rows.specs.DataProcessing.{add_sub_ext, AddSubCarryFields, add_sub_carry}
use Rattle.a64_rows.specs.DataProcessing.{DataProc2Fields, data_proc2, MulHighFields, mul_high}
use Rattle.a64_rows.specs.DataProcessing.{mul_add, mul_add_long, add_sub_imm, LogicImmFields}
use Rattle.a64_rows.specs.DataProcessing.{logic_imm, bitfield, extract, move_wide, cond_select, adr}

-- ---- fields that operators give

-- the field op: 1 for those that subtract
abbrev pub op_of : ALUOp → ℕ
op_of Sub = 1
op_of SubS = 1
op_of Sbc = 1
op_of SbcS = 1
op_of _ = 0

-- the field S: 1 for those that add or subtract and set the flags
abbrev pub s_of : ALUOp → ℕ
s_of AddS = 1
s_of SubS = 1
s_of AdcS = 1
s_of SbcS = 1
s_of _ = 0

-- the field opc of the logical operators
abbrev pub opc_of : ALUOp → ℕ
opc_of Orr = 1
opc_of OrrNot = 1
opc_of Eor = 2
opc_of EorNot = 2
opc_of AndS = 3
opc_of _ = 0

-- the field N of logical operations on registers: 1 for those that invert the second operand
abbrev pub n_of : ALUOp → ℕ
n_of AndNot = 1
n_of OrrNot = 1
n_of EorNot = 1
n_of _ = 0

-- the field opcode of operations on two sources
abbrev pub opcode_of : ALUOp → ℕ
opcode_of UDiv = 2
opcode_of SDiv = 3
opcode_of Lsl = 8
opcode_of Lsr = 9
opcode_of Asr = 10
opcode_of Extr = 11
opcode_of _ = 0

-- ---- operations on two registers

-- the size flag and the registers as a word has them
abbrev pub two_registers : OperandSize → Reg → Reg → Reg → TwoRegisters
two_registers size rd rn rm = record {
  sf = sf_of size;
  rm = register_field rm;
  rn = register_field rn;
  rd = register_field rd;
}

-- a register that is not shifted
abbrev pub no_shift : Shift
no_shift = record { op = LSL; amount = 0 }

-- an addition or subtraction of a register that is shifted
abbrev pub add_sub : ALUOp → Shift → TwoRegisters → AddSubRegFields
add_sub op shift r = record {
  sf = r.sf;
  op = op_of op;
  s = s_of op;
  sh = shift_bits shift.op;
  rm = r.rm;
  imm6 = shift.amount;
  rn = r.rn;
  rd = r.rd;
}

-- a logical operation with a register that is shifted, and inverted where N is 1
abbrev pub logic : ALUOp → Shift → TwoRegisters → LogicRegFields
logic op shift r =
    record {
      sf = r.sf;
      opc = opc_of op;
      sh = shift_bits shift.op;
      n = n_of op;
      rm = r.rm;
      imm6 = shift.amount;
      rn = r.rn;
      rd = r.rd;
    }

-- an addition or subtraction with the carry
abbrev pub with_carry : ALUOp → TwoRegisters → AddSubCarryFields
with_carry op r = record { sf = r.sf; op = op_of op; s = s_of op; rm = r.rm; rn = r.rn; rd = r.rd }

-- a division or a shift
abbrev pub two_sources : ALUOp → TwoRegisters → DataProc2Fields
two_sources op r = record { sf = r.sf; rm = r.rm; op6 = opcode_of op; rn = r.rn; rd = r.rd }

-- the upper half of a product, the unsigned one where U is 1
abbrev pub high_product : ℕ → TwoRegisters → MulHighFields
high_product u r = record { u = u; rm = r.rm; rn = r.rn; rd = r.rd }

-- an operation on two registers, by the class of its operator; those that add or subtract and the
-- logical ones shift the second
abbrev pub alu_form : ALUOp → Shift → TwoRegisters → Form
-- Add/subtract (shifted register)
alu_form Add shift r = add_sub_reg (add_sub Add shift r)
alu_form Sub shift r = add_sub_reg (add_sub Sub shift r)
alu_form AddS shift r = add_sub_reg (add_sub AddS shift r)
alu_form SubS shift r = add_sub_reg (add_sub SubS shift r)
-- Logical (shifted register)
alu_form And shift r = logic_reg (logic And shift r)
alu_form Orr shift r = logic_reg (logic Orr shift r)
alu_form Eor shift r = logic_reg (logic Eor shift r)
alu_form AndS shift r = logic_reg (logic AndS shift r)
alu_form AndNot shift r = logic_reg (logic AndNot shift r)
alu_form OrrNot shift r = logic_reg (logic OrrNot shift r)
alu_form EorNot shift r = logic_reg (logic EorNot shift r)
-- Add/subtract (with carry)
alu_form Adc shift r = add_sub_carry (with_carry Adc r)
alu_form Sbc shift r = add_sub_carry (with_carry Sbc r)
alu_form AdcS shift r = add_sub_carry (with_carry AdcS r)
alu_form SbcS shift r = add_sub_carry (with_carry SbcS r)
-- Data-processing (2 source)
alu_form UDiv shift r = data_proc2 (two_sources UDiv r)
alu_form SDiv shift r = data_proc2 (two_sources SDiv r)
alu_form Lsl shift r = data_proc2 (two_sources Lsl r)
alu_form Lsr shift r = data_proc2 (two_sources Lsr r)
alu_form Asr shift r = data_proc2 (two_sources Asr r)
alu_form Extr shift r = data_proc2 (two_sources Extr r)
-- Data-processing (3 source)
alu_form SMulH shift r = mul_high (high_product 0 r)
alu_form UMulH shift r = mul_high (high_product 1 r)

-- ---- operations on registers

unfoldable pub alu_rrr_form : ALUOp → OperandSize → Reg → Reg → Reg → Form
alu_rrr_form op size rd rn rm = alu_form op no_shift (two_registers size rd rn rm)

-- an extraction of bits from two registers, one behind the other (Extract)
abbrev pub extraction : ℕ → TwoRegisters → Form
extraction lowest r = extract (record { sf = r.sf; rm = r.rm; imms = lowest; rn = r.rn; rd = r.rd })

-- an operation on two registers of which the second is shifted: an extraction, or one of `alu_form`
abbrev pub shifted_form : ALUOp → Shift → TwoRegisters → Form
shifted_form Extr shift r = extraction shift.amount r
shifted_form op shift r = alu_form op shift r

-- an addition or subtraction of a register that is extended
abbrev pub extended_form : ALUOp → ExtendOp → TwoRegisters → Form
extended_form op extendop r =
    add_sub_ext (record {
      sf = r.sf;
      op = op_of op;
      s = s_of op;
      rm = r.rm;
      ext = extend_bits extendop;
      rn = r.rn;
      rd = r.rd;
    })

-- Add/subtract (extended register)
unfoldable pub alu_rrr_extend_form : ALUOp → OperandSize → Reg → Reg → Reg → ExtendOp → Form
alu_rrr_extend_form op size rd rn rm extendop =
    extended_form op extendop (two_registers size rd rn rm)

-- a product that is added to a register or taken from it
abbrev pub product_form : ALUOp3 → ℕ → TwoRegisters → Form
product_form MAdd ra r =
    mul_add (record { sf = r.sf; rm = r.rm; sub = 0; ra = ra; rn = r.rn; rd = r.rd })
product_form MSub ra r =
    mul_add (record { sf = r.sf; rm = r.rm; sub = 1; ra = ra; rn = r.rn; rd = r.rd })
product_form SMAddL ra r = mul_add_long (record { u = 0; rm = r.rm; ra = ra; rn = r.rn; rd = r.rd })
product_form UMAddL ra r = mul_add_long (record { u = 1; rm = r.rm; ra = ra; rn = r.rn; rd = r.rd })

-- the field opcode of operations on one source
abbrev pub bit_opcode : BitOp → ℕ
bit_opcode RBit = 0
bit_opcode Rev16 = 1
bit_opcode Rev32 = 2
bit_opcode Rev64 = 3
bit_opcode Clz = 4
bit_opcode Cls = 5

-- a move: an or with the zero register (Logical (shifted register)), or out of the stack pointer,
-- which no such operation reads, an addition of 0 (Add/subtract (immediate))
unfoldable pub mov_form : OperandSize → Reg → Reg → Form
mov_form size rd rm =
    if is_stack_pointer Refused rm
    then add_sub_imm (record {
      sf = 1;
      op = 0;
      s = 0;
      sh = 0;
      imm12 = 0;
      rn = 31;
      rd = register_field rd;
    })
    else
    logic_reg (record {
      sf = sf_of size;
      opc = 1;
      sh = 0;
      n = 0;
      rm = register_field rm;
      imm6 = 0;
      rn = 31;
      rd = register_field rd;
    })

-- ---- by a condition

-- Conditional select, CSEL
unfoldable pub csel_form : Reg → Reg → Reg → Cond → Form
csel_form rd rn rm cond =
    cond_select (record {
      op = 0;
      rm = register_field rm;
      cond = condition_bits cond;
      o2 = 0;
      rn = register_field rn;
      rd = register_field rd;
    })

-- ---- with immediates

-- an addition or subtraction of an immediate, shifted left by 12 or not (Add/subtract (immediate))
unfoldable pub alu_rr_imm12_form : ALUOp → OperandSize → Reg → Reg → Imm12 → Form
alu_rr_imm12_form op size rd rn imm12 =
    add_sub_imm (record {
      sf = sf_of size;
      op = op_of op;
      s = s_of op;
      sh = bit_of imm12.shift12;
      imm12 = imm12.bits;
      rn = register_field rn;
      rd = register_field rd;
    })

-- the fields of a logical operation with the immediate N, immr and imms
abbrev pub logic_fields : ALUOp → OperandSize → Reg → Reg → ImmLogic → LogicImmFields
logic_fields op size rd rn imm =
    record {
      sf = sf_of size;
      opc = opc_of op;
      n = bit_of imm.n;
      immr = imm.r;
      imms = imm.s;
      rn = register_field rn;
      rd = register_field rd;
    }

-- the operators that invert the second operand take the immediate of the complement
abbrev pub taken : ALUOp → ImmLogic → ImmLogic
taken AndNot imm = inverted imm
taken OrrNot imm = inverted imm
taken EorNot imm = inverted imm
taken _ imm = imm

-- Logical (immediate)
unfoldable pub alu_rr_imm_logic_form : ALUOp → OperandSize → Reg → Reg → ImmLogic → Form
alu_rr_imm_logic_form op size rd rn imml = logic_imm (logic_fields op size rd rn (taken op imml))

-- a wide move (Move wide (immediate), MOVN and MOVZ)
unfoldable pub mov_wide_form : MoveWideOp → Reg → MoveWideConst → OperandSize → Form
mov_wide_form op rd imm size =
    move_wide (record {
      sf = sf_of size;
      opc = move_wide_opc op;
      hw = imm.shift;
      imm16 = imm.bits;
      rd = register_field rd;
    })

-- a wide move that keeps the other halfwords (Move wide (immediate), MOVK)
unfoldable pub mov_k_form : Reg → MoveWideConst → OperandSize → Form
mov_k_form rd imm size =
    move_wide (record {
      sf = sf_of size;
      opc = 3;
      hw = imm.shift;
      imm16 = imm.bits;
      rd = register_field rd;
    })

-- ---- shifts, bitfields and extensions

-- the field opc of a shift to the right with the sign (SBFM), and of the other shifts (UBFM)
abbrev pub shift_opc : ALUOp → ℕ
shift_opc Asr = 0
shift_opc _ = 2

-- by how many bits a shift rotates to the right: a shift to the left by what is left of the size
abbrev pub shift_immr : ALUOp → OperandSize → ℕ → ℕ
shift_immr Lsl size amount = (operand_bits size - amount) % operand_bits size
shift_immr _ size amount = amount

-- the highest bit of what a shift keeps
abbrev pub shift_imms : ALUOp → OperandSize → ℕ → ℕ
shift_imms Lsl size amount = operand_bits size - 1 - amount
shift_imms _ size amount = operand_bits size - 1

-- a rotation, which is an extraction from one register twice (Extract), or a shift (Bitfield)
unfoldable pub alu_rr_imm_shift_form : ALUOp → OperandSize → Reg → Reg → ImmShift → Form
alu_rr_imm_shift_form Extr size rd rn immshift =
    extraction immshift.imm (two_registers size rd rn rn)
alu_rr_imm_shift_form op size rd rn immshift =
    bitfield (record {
      sf = sf_of size;
      opc = shift_opc op;
      immr = shift_immr op size immshift.imm;
      imms = shift_imms op size immshift.imm;
      rn = register_field rn;
      rd = register_field rd;
    })

-- an extension. That of one bit without a sign is an and with 1, the bitmask of the fields 0, 0 and
-- 0 (Logical (immediate)). That of 32 bits to 64 without a sign is a move of 32 bits, which clears
-- the others. Else the lowest bits are a bitfield (Bitfield, SBFM and UBFM)
unfoldable pub extend_form : Reg → Reg → Bool → ℕ → ℕ → Form
extend_form rd rn signed from_bits to_bits =
    if not signed && nat_eq from_bits 1
    then logic_imm (record {
      sf = 0;
      opc = 0;
      n = 0;
      immr = 0;
      imms = 0;
      rn = register_field rn;
      rd = register_field rd;
    })
    else if not signed && (nat_eq from_bits 32 && nat_eq to_bits 64)
    then mov_form Size32 rd rn
    else
    bitfield (record {
      sf = if signed && nat_lt 32 to_bits then 1 else 0;
      opc = if signed then 0 else 2;
      immr = 0;
      imms = from_bits - 1;
      rn = register_field rn;
      rd = register_field rd;
    })

-- the field opc of a bitfield move that sets all bits
abbrev pub bfm_opc : BfmOp → ℕ
bfm_opc SBfm = 0
bfm_opc UBfm = 2

-- ---- addresses

-- PC-rel. addressing, ADR: immlo is the lowest two bits of the distance, and immhi the next 19
unfoldable pub adr_form : Reg → ℤ → Form
adr_form rd off =
    adr (record { page = 0; lo = distance_low off; hi = distance_high off; rd = register_field rd })

-- PC-rel. addressing, ADRP
unfoldable pub adrp_form : Reg → ℤ → Form
adrp_form rd off =
    adr (record { page = 1; lo = distance_low off; hi = distance_high off; rd = register_field rd })

-- ---- hints and flags

-- Hints, NOP
unfoldable pub nop4_form : Form
nop4_form = hint (record { crm = 0; op2 = 0 })

-- System register move, MSR NZCV
unfoldable pub mov_to_nzcv_form : Reg → Form
mov_to_nzcv_form rn = nzcv (record { read = 0; rt = register_field rn })

-- System register move, MRS NZCV
unfoldable pub mov_from_nzcv_form : Reg → Form
mov_from_nzcv_form rd = nzcv (record { read = 1; rt = register_field rd })
