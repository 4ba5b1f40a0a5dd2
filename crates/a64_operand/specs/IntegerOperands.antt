-- What must hold of the operands of integer instructions (Arm Architecture Reference Manual, C6.2).
use Rattle.std.specs.Prelude.{ℕ, Bool, true, false, not, ◌&&◌, ◌||◌, nat_le, nat_eq, if◌then◌else◌}
use Rattle.a64_base.specs.declared.reg.Reg.{Reg}
use Rattle.a64_base.specs.declared.reg.RegKind.TheVariants.{Real}
use Rattle.a64_base.specs.RegisterNumbers.{RealRegister}
use Rattle.a64_base.specs.ShiftParts.{Shift}
use Rattle.a64_base.specs.declared.shift.ShiftOp.{ShiftOp}
use Rattle.a64_base.specs.declared.shift.ShiftOp.TheVariants.{LSL, LSR, ROR}
use Rattle.a64_base.specs.declared.size.OperandSize.{OperandSize}
use Rattle.a64_base.specs.declared.size.OperandSize.TheVariants.{Size32, Size64}
use Rattle.a64_base.specs.OperandSizes.{is_32_bits, is_64_bits}
use Rattle.a64_imms.specs.declared.imm12.Imm12.{Imm12}
use Rattle.a64_imms.specs.declared.imm_logic.ImmLogic.{ImmLogic}
use Rattle.a64_imms.specs.declared.move_wide.MoveWideConst.{MoveWideConst}
use Rattle.a64_imms.specs.declared.unsigned.ImmShift.{ImmShift}
use Rattle.a64_imms.specs.declared.unsigned.UImm6.{UImm6}
use Rattle.a64_ops.specs.declared.operator.ALUOp.{ALUOp}
use Rattle.a64_ops.specs.declared.operator.ALUOp.TheVariants as alu
use Rattle.a64_ops.specs.declared.operator.ALUOp3.{ALUOp3}
use Rattle.a64_ops.specs.declared.operator.ALUOp3.TheVariants.{UMAddL, SMAddL}
use Rattle.a64_ops.specs.declared.operator.BitOp.{BitOp}
use Rattle.a64_ops.specs.declared.operator.BitOp.TheVariants.{Rev64}
use Rattle.a64_operand.specs.declared.class.Class.{Class}
use Rattle.a64_operand.specs.declared.class.Class.TheVariants.{Zero, Stack}
use Rattle.a64_operand.specs.declared.virtuals.VirtualRegisters.{VirtualRegisters}
use Rattle.a64_operand.specs.Operands.{is_int, is_register, is_register_or_zero}
use Rattle.a64_operand.specs.Operands.{is_register_or_stack, is_stack_pointer, is_same_register}
use Rattle.a64_operand.specs.Operands.{is_bit_of, is_imm12, is_logic_of, is_wide_in}

-- ---- operations on registers

-- the high halves of products are there at 64 bits alone
abbrev pub is_high_product : ALUOp → Bool
is_high_product alu.SMulH = true
is_high_product alu.UMulH = true
is_high_product _ = false

abbrev pub is_product_at : ALUOp → OperandSize → Bool
is_product_at op size = not (is_high_product op) || is_64_bits size

-- the long products are those of 32-bit operands alone
abbrev pub is_long_product : ALUOp3 → Bool
is_long_product UMAddL = true
is_long_product SMAddL = true
is_long_product _ = false

abbrev pub is_long_product_at : ALUOp3 → OperandSize → Bool
is_long_product_at op size = not (is_long_product op) || is_32_bits size

-- the operators that add or subtract
abbrev pub is_add_sub : ALUOp → Bool
is_add_sub alu.Add = true
is_add_sub alu.Sub = true
is_add_sub alu.AddS = true
is_add_sub alu.SubS = true
is_add_sub _ = false

-- where their results may go, with an immediate or an extended register: of one that sets the flags
-- into the zero register, which drops it, of the others into the stack pointer
abbrev pub add_sub_class : ALUOp → Class
add_sub_class alu.Add = Stack
add_sub_class alu.Sub = Stack
add_sub_class _ = Zero

abbrev pub is_no_rotation : ShiftOp → Bool
is_no_rotation ROR = false
is_no_rotation _ = true

-- how an extraction from two registers is written: as a shift to the left at 32 bits, and to the
-- right at 64
abbrev pub is_extraction : OperandSize → ShiftOp → Bool
is_extraction Size32 LSL = true
is_extraction Size64 LSR = true
is_extraction _ _ = false

-- the shifts of the second operand that an operator takes
abbrev pub takes_shift : ALUOp → OperandSize → ShiftOp → Bool
takes_shift alu.Add size shift = is_no_rotation shift
takes_shift alu.Sub size shift = is_no_rotation shift
takes_shift alu.AddS size shift = is_no_rotation shift
takes_shift alu.SubS size shift = is_no_rotation shift
takes_shift alu.And size shift = true
takes_shift alu.Orr size shift = true
takes_shift alu.Eor size shift = true
takes_shift alu.AndS size shift = true
takes_shift alu.AndNot size shift = true
takes_shift alu.OrrNot size shift = true
takes_shift alu.EorNot size shift = true
takes_shift alu.Extr size shift = is_extraction size shift
takes_shift _ size shift = false

-- by an amount below the size
abbrev pub is_shifted : ALUOp → OperandSize → Shift → Bool
is_shifted op size shiftop = takes_shift op size shiftop.op && is_bit_of size shiftop.amount

-- the bytes of a doubleword are reversed at 64 bits alone
abbrev pub is_rev64 : BitOp → Bool
is_rev64 Rev64 = true
is_rev64 _ = false

abbrev pub is_bit_op_at : BitOp → OperandSize → Bool
is_bit_op_at op size = not (is_rev64 op) || is_64_bits size

-- ---- moves

-- a move at 64 bits: between registers, or out of the stack pointer, into which the zero register
-- cannot be its result
abbrev pub are_move_registers : VirtualRegisters → Reg → Reg → Bool
are_move_registers virtuals rd rm =
    (is_register_or_zero virtuals rd && is_register_or_zero virtuals rm)
    || (is_register virtuals rd && is_stack_pointer virtuals rm)

unfoldable pub is_move : VirtualRegisters → OperandSize → Reg → Reg → Bool
is_move virtuals Size32 rd rm = is_register virtuals rd && is_register_or_zero virtuals rm
is_move virtuals Size64 rd rm = are_move_registers virtuals rd rm

-- x21, x29 and x30
abbrev pub is_fixed_result : RealRegister → Bool
is_fixed_result p =
    is_int p.class && (nat_eq p.number 21 || (nat_eq p.number 29 || nat_eq p.number 30))

-- these, and the stack pointer
abbrev pub is_fixed_operand : RealRegister → Bool
is_fixed_operand p = is_fixed_result p || (is_int p.class && nat_eq p.number 63)

unfoldable pub is_move_from : VirtualRegisters → Reg → RealRegister → Bool
is_move_from virtuals rd rm = is_fixed_operand rm && are_move_registers virtuals rd (Real rm)

unfoldable pub is_move_to : VirtualRegisters → RealRegister → Reg → Bool
is_move_to virtuals rd rm = is_fixed_result rd && are_move_registers virtuals (Real rd) rm

-- ---- immediates

abbrev pub is_add_sub_imm12 : ALUOp → Imm12 → Bool
is_add_sub_imm12 op imm12 = is_add_sub op && is_imm12 imm12

-- the logical operators
abbrev pub is_logic : ALUOp → Bool
is_logic alu.And = true
is_logic alu.Orr = true
is_logic alu.Eor = true
is_logic alu.AndNot = true
is_logic alu.OrrNot = true
is_logic alu.EorNot = true
is_logic alu.AndS = true
is_logic _ = false

-- where their results may go, with an immediate, likewise
abbrev pub logic_class : ALUOp → Class
logic_class alu.AndS = Zero
logic_class _ = Stack

abbrev pub is_logic_imm : ALUOp → OperandSize → ImmLogic → Bool
is_logic_imm op size imml = is_logic op && is_logic_of size imml

-- the operators that shift or rotate by an amount
abbrev pub is_shift : ALUOp → Bool
is_shift alu.Lsl = true
is_shift alu.Lsr = true
is_shift alu.Asr = true
is_shift alu.Extr = true
is_shift _ = false

abbrev pub is_shift_by : ALUOp → OperandSize → ImmShift → Bool
is_shift_by op size immshift = is_shift op && is_bit_of size immshift.imm

-- the register whose other halfwords stay is the result
abbrev pub is_kept : Reg → Reg → MoveWideConst → OperandSize → Bool
is_kept rd rn imm size = is_same_register rd rn && is_wide_in size imm

-- ---- bitfields

-- an extension to at most 64 bits, of 32 bits at most where they are unsigned
abbrev pub is_extension : Bool → ℕ → ℕ → Bool
is_extension signed from_bits to_bits =
    (nat_le 1 from_bits && (nat_le from_bits to_bits && nat_le to_bits 64))
    && (signed || nat_le from_bits 32)

-- one bit that is unsigned is kept by an operation that may set the stack pointer, and 32 are moved
-- by one whose result is a register
abbrev pub is_extend_result : VirtualRegisters → Bool → ℕ → ℕ → Reg → Bool
is_extend_result virtuals signed from_bits to_bits rd =
    if not signed && nat_eq from_bits 1 then is_register_or_stack virtuals rd
    else if not signed && (nat_eq from_bits 32 && nat_eq to_bits 64) then is_register virtuals rd
    else is_register_or_zero virtuals rd

unfoldable pub is_extended : VirtualRegisters → Reg → Bool → ℕ → ℕ → Bool
is_extended virtuals rd signed from_bits to_bits =
    is_extension signed from_bits to_bits && is_extend_result virtuals signed from_bits to_bits rd

abbrev pub is_bitfield : OperandSize → UImm6 → UImm6 → Bool
is_bitfield size immr imms = is_bit_of size immr.imm && is_bit_of size imms.imm

-- the register whose other bits stay is the result
abbrev pub is_kept_bitfield : Reg → Reg → OperandSize → UImm6 → UImm6 → Bool
is_kept_bitfield rd ri size immr imms = is_same_register rd ri && is_bitfield size immr imms
