-- Parts of the texts of integer instructions.
use Rattle.std.specs.Prelude.{ℕ, nat_eq, Bool, false, ◌&&◌, ◌||◌, not, if◌then◌else◌, List, [], ◌∷◌}
use Rattle.std.specs.Prelude.{codes}
use Rattle.a64_base.specs.declared.reg.Reg.{Reg}
use Rattle.a64_base.specs.declared.size.OperandSize.{OperandSize}
use Rattle.a64_base.specs.declared.size.OperandSize.TheVariants.{Size32, Size64}
use Rattle.a64_base.specs.OperandSizes.{is_64_bits, operand_of_bits}
use Rattle.a64_imms.specs.declared.imm12.Imm12.{Imm12}
use Rattle.a64_imms.specs.Imm12s.{imm12_value}
use Rattle.a64_ops.specs.declared.operator.ALUOp.{ALUOp}
use Rattle.a64_ops.specs.declared.operator.ALUOp.TheVariants as alu_ops
use Rattle.a64_ops.specs.declared.operator.ALUOp3.{ALUOp3}
use Rattle.a64_ops.specs.declared.operator.ALUOp3.TheVariants as alu_op3s
use Rattle.a64_ops.specs.Names.{alu_op_name}
use Rattle.a64_operand_text.specs.declared.operand.Operand.TheVariants as operand
use Rattle.a64_operand_text.specs.Lines.{line_text}

-- an addition of 0 at 64 bits, which moves to or from the stack pointer
abbrev pub is_move : ALUOp → OperandSize → Imm12 → Bool
is_move alu_ops.Add size imm12 = is_64_bits size && nat_eq imm12.bits 0
is_move _ size imm12 = false

-- an operation on an immediate of 12 bits
unfoldable pub alu_rr_imm12_text : ALUOp → OperandSize → Reg → Reg → Imm12 → List ℕ
alu_rr_imm12_text op size rd rn imm12 =
    if is_move op size imm12
    then line_text (codes "mov") (operand.Sized size rd ∷ operand.Sized size rn ∷ [])
    else line_text (alu_op_name op) (operand.Sized size rd ∷ operand.Sized size rn
    ∷ operand.Number (imm12_value imm12) ∷ [])

-- the size of the sum of a product: of a long one 64 bits
abbrev pub sum_size : ALUOp3 → OperandSize → OperandSize
sum_size alu_op3s.MAdd size = size
sum_size alu_op3s.MSub size = size
sum_size alu_op3s.UMAddL size = Size64
sum_size alu_op3s.SMAddL size = Size64

-- whether an extension from so many bits has a name of its own
abbrev pub has_extension_name : Bool → ℕ → Bool
has_extension_name signed from_bits =
    nat_eq from_bits 8 || (nat_eq from_bits 16 || (signed && nat_eq from_bits 32))

-- that name
abbrev pub extension_name : Bool → ℕ → List ℕ
extension_name signed from_bits =
    if nat_eq from_bits 8 then (if signed then codes "sxtb" else codes "uxtb") else
    if nat_eq from_bits 16 then (if signed then codes "sxth" else codes "uxth") else
    codes "sxtw"

-- the name of a copy of the lowest bits
abbrev pub lowest_bits_name : Bool → List ℕ
lowest_bits_name signed = if signed then codes "sbfx" else codes "ubfx"

-- the size of an extended register: one without a sign clears what is above
abbrev pub extended_size : Bool → ℕ → OperandSize
extended_size signed to_bits = if signed then operand_of_bits to_bits else Size32

-- an extension by a bitfield move: by its own name, or as a copy of the lowest bits
unfoldable pub field_extend_text : Reg → Reg → Bool → ℕ → ℕ → List ℕ
field_extend_text rd rn signed from_bits to_bits =
    if has_extension_name signed from_bits
    then line_text (extension_name signed from_bits)
    (operand.Sized (extended_size signed to_bits) rd ∷ operand.Sized Size32 rn ∷ [])
    else line_text (lowest_bits_name signed) (operand.Sized (operand_of_bits to_bits) rd
    ∷ operand.Sized (operand_of_bits to_bits) rn ∷ operand.Number 0 ∷ operand.Number from_bits
    ∷ [])

-- an extension: of one bit without a sign an and with 1, of 32 bits to 64 without a sign a move of
-- 32 bits, else a bitfield move
unfoldable pub extend_text : Reg → Reg → Bool → ℕ → ℕ → List ℕ
extend_text rd rn signed from_bits to_bits =
    if not signed && nat_eq from_bits 1
    then line_text (codes "and") (operand.Sized Size32 rd ∷ operand.Sized Size32 rn
    ∷ operand.Number 1 ∷ []) else
    if not signed && (nat_eq from_bits 32 && nat_eq to_bits 64)
    then line_text (codes "mov") (operand.Sized Size32 rd ∷ operand.Sized Size32 rn ∷ [])
    else field_extend_text rd rn signed from_bits to_bits
