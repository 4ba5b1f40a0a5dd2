-- The texts of loads and stores, and of the addresses of their modes.
use Rattle.std.specs.Prelude.{ℕ, ℤ, pos, zero, Bool, true, false, if◌then◌else◌, List, [], ◌∷◌}
use Rattle.std.specs.Prelude.{◌++◌, codes}
use Rattle.std.specs.Int.RustNames.{unsigned_abs}
use Rattle.std.specs.List.{flat_map}
use Rattle.a64_base.specs.declared.ir_type.IrType.{IrType}
use Rattle.a64_base.specs.declared.ir_type.IrType.TheVariants as types
use Rattle.a64_base.specs.declared.reg.Reg.{Reg}
use Rattle.a64_base.specs.declared.size.OperandSize.{OperandSize}
use Rattle.a64_base.specs.declared.size.OperandSize.TheVariants.{Size32, Size64}
use Rattle.a64_base.specs.Registers.{integer_register}
use Rattle.a64_imms.specs.Scales.{type_bytes}
use Rattle.a64_ops.specs.declared.access.AccessOp.{AccessOp}
use Rattle.a64_operand.specs.declared.atomic.AtomicCAS128Args.{AtomicCAS128Args}
use Rattle.a64_plan.specs.declared.step.ConstStep.{ConstStep}
use Rattle.a64_plan.specs.Plans.{plan_of}
use Rattle.a64_inst.specs.declared.frame.FrameLayout.{FrameLayout}
use Rattle.a64_inst.specs.declared.mode.AMode.{AMode}
use Rattle.a64_inst.specs.declared.mode.AMode.TheVariants as modes
use Rattle.a64_inst.specs.Accesses.{access_type}
use Rattle.a64_inst.specs.Constants.{step_into}
use Rattle.a64_inst.specs.FinalModes.{FinalMode, SignedOffset, ScaledOffset, Other, mode_for}
use Rattle.a64_inst.specs.FinalModes.{final_steps}
use Rattle.a64_inst.specs.MemoryOperands.{is_addend}
use Rattle.a64_inst.specs.ModeTexts.{final_text}
use Rattle.a64_operand_text.specs.declared.operand.Operand.TheVariants as operand
use Rattle.a64_operand_text.specs.AccessTexts.{access_name, access_operand}
use Rattle.a64_operand_text.specs.Operands.{operand_text}
use Rattle.a64_operand_text.specs.Lines.{line_text}
use Rattle.a64_operand_text.specs.Texts.{own_text}

-- ---- loads and stores of one register

-- a mode that is written with a signed offset of 9 bits
abbrev pub is_unscaled : AMode → Bool
is_unscaled (modes.Unscaled rn simm9) = true
is_unscaled _ = false

-- the steps that a mode needs before it, into x16, each with a semicolon behind it
abbrev pub step_before : ConstStep → List ℕ
step_before step = own_text (step_into (integer_register 16) step) ++ codes " ; "

abbrev pub steps_before : FrameLayout → IrType → AMode → List ℕ
steps_before frame ty mem = flat_map step_before (final_steps frame ty mem)

-- the name, the register, and the mode that stands in the instruction
abbrev pub held_text : FrameLayout → AccessOp → Reg → AMode → List ℕ
held_text frame op reg mem =
    access_name (is_unscaled mem) op ++ (codes " " ++ (operand_text (access_operand op reg)
    ++ (codes ", "
    ++ final_text (type_bytes (access_type op)) (mode_for false frame (access_type op) mem))))

unfoldable pub access_text : FrameLayout → AccessOp → Reg → AMode → List ℕ
access_text frame op reg mem = steps_before frame (access_type op) mem ++ held_text frame op reg mem

-- ---- addresses

-- the steps of a constant into a register, with nothing between them
abbrev pub steps_text : Reg → List ConstStep → List ℕ
steps_text reg steps = flat_map (λ step. own_text (step_into reg step)) steps

abbrev pub is_negative : ℤ → Bool
is_negative (pos n) = false
is_negative _ = true

-- what adds an offset, or takes its amount away where it is negative
abbrev pub sum_name : ℤ → List ℕ
sum_name offset = if is_negative offset then codes "sub" else codes "add"

-- a base and an offset that an addition holds
abbrev pub near_sum_text : Reg → Reg → ℤ → List ℕ
near_sum_text rd rn offset =
    line_text (sum_name offset) (operand.X rd ∷ operand.X rn ∷ operand.Number (unsigned_abs offset)
    ∷ [])

-- a base and an offset, of which x17 gets the amount first
abbrev pub far_sum_text : Reg → Reg → ℤ → List ℕ
far_sum_text rd rn offset =
    steps_text (integer_register 17) (plan_of (unsigned_abs offset))
    ++ line_text (sum_name offset) (operand.X rd ∷ operand.X rn ∷ operand.X (integer_register 17)
    ∷ [])

-- a base and an offset
unfoldable pub sum_text : Reg → Reg → ℤ → List ℕ
sum_text rd rn (pos zero) = line_text (codes "mov") (operand.X rd ∷ operand.X rn ∷ [])
sum_text rd rn offset =
    if is_addend (unsigned_abs offset) then near_sum_text rd rn offset
    else far_sum_text rd rn offset

-- the address of a mode that stands in an instruction; other modes have none
abbrev pub final_address_text : Reg → FinalMode → List ℕ
final_address_text rd (SignedOffset rn offset) = sum_text rd rn offset
final_address_text rd (ScaledOffset rn offset ty) = sum_text rd rn (pos offset)
final_address_text rd (Other (modes.RegExtended rn rm extendop)) =
    line_text (codes "add") (operand.X rd ∷ operand.X rn ∷ operand.X rm ∷ operand.Extend extendop
    ∷ [])
final_address_text rd (Other _) = []

unfoldable pub address_text : FrameLayout → Reg → AMode → List ℕ
address_text frame rd mem =
    steps_text (integer_register 16) (final_steps frame types.I8 mem)
    ++ final_address_text rd (mode_for false frame types.I8 mem)

-- ---- atomic accesses

-- what stands behind the name of an access of bytes and of halfwords
abbrev pub width_suffix : IrType → List ℕ
width_suffix types.I8 = codes "b"
width_suffix types.I16 = codes "h"
width_suffix _ = []

-- the size of its registers
abbrev pub width_size : IrType → OperandSize
width_size types.I64 = Size64
width_size _ = Size32

-- a comparison and exchange of one register
abbrev pub cas_text : IrType → Reg → Reg → Reg → Reg → List ℕ
cas_text ty rd rs rt rn =
    codes "casal"
    ++ line_text (width_suffix ty) (operand.Sized (width_size ty) rd
    ∷ operand.Sized (width_size ty) rs
    ∷ operand.Sized (width_size ty) rt ∷ operand.Base rn ∷ [])

-- a comparison and exchange of two registers
abbrev pub cas128_text : AtomicCAS128Args → List ℕ
cas128_text args =
    line_text (codes "caspal") (operand.X args.rd_lo ∷ operand.X args.rd_hi ∷ operand.X args.rs_lo
    ∷ operand.X args.rs_hi
    ∷ operand.X args.rt_lo ∷ operand.X args.rt_hi ∷ operand.Base args.rn ∷ [])
