-- The forms of loops of atomic accesses: an exclusive load, words between, an exclusive store, and
-- a branch back to the load where the store failed (Arm Architecture Reference Manual, DDI 0487,
-- C3.2, load-exclusive and store-exclusive).
use Rattle.std.specs.Prelude.{ℕ, pos, negsuc, ◌+◌, ◌*◌, true, List, [], ◌∷◌, ◌++◌, Option, None}
use Rattle.std.specs.Prelude.{Some}
use Rattle.a64_base.specs.declared.cond.Cond.{Cond}
use Rattle.a64_base.specs.declared.cond.Cond.TheVariants.{Ne, Lo, Hi, Lt, Gt}
use Rattle.a64_base.specs.declared.cond.CondBrKind.TheVariants as branches
use Rattle.a64_base.specs.declared.ir_type.IrType.{IrType}
use Rattle.a64_base.specs.declared.ir_type.IrType.TheVariants.{I8, I16, I64}
use Rattle.a64_base.specs.declared.reg.Reg.{Reg}
use Rattle.a64_base.specs.declared.shift.ExtendOp.{ExtendOp}
use Rattle.a64_base.specs.declared.shift.ExtendOp.TheVariants.{UXTB, UXTH, SXTB, SXTH}
use Rattle.a64_base.specs.declared.size.OperandSize.{OperandSize}
use Rattle.a64_base.specs.declared.size.OperandSize.TheVariants.{Size32, Size64}
use Rattle.a64_base.specs.declared.target.BranchTarget.TheVariants.{ResolvedOffset}
use Rattle.a64_base.specs.Registers.{integer_register}
use Rattle.a64_ops.specs.declared.operator.ALUOp.{ALUOp}
use Rattle.a64_ops.specs.declared.operator.ALUOp.TheVariants as alu
use Rattle.a64_ops.specs.declared.operator.AtomicRMWLoopOp.{AtomicRMWLoopOp}
use Rattle.a64_ops.specs.declared.operator.AtomicRMWLoopOp.TheVariants as loops
use Rattle.a64_rows.specs.Forms.{Form}
use Rattle.a64_rows.specs.Memory.{load_ex, store_ex}
use Rattle.a64_enc_int.specs.Operators.{access_size}
use Rattle.a64_enc_int.specs.Registers.{register_field}
use Rattle.a64_cells.specs.ControlForms.{cond_br_form}
use Rattle.a64_cells.specs.IntegerForms.{alu_rrr_form, alu_rrr_extend_form, csel_form, extend_form}

-- ---- registers

-- whether the store failed
abbrev pub failed_register : Reg
failed_register = integer_register 24

abbrev pub address_register : Reg
address_register = integer_register 25

abbrev pub operand_register : Reg
operand_register = integer_register 26

-- what was there before
abbrev pub old_register : Reg
old_register = integer_register 27

-- what is stored, but for an exchange
abbrev pub new_register : Reg
new_register = integer_register 28

-- ---- the accesses

-- an exclusive load with acquire (LDAXR)
unfoldable pub load_exclusive_form : IrType → Reg → Reg → Form
load_exclusive_form ty rt rn =
    load_ex (record { sz = access_size ty; rn = register_field rn; rt = register_field rt })

-- an exclusive store with release, of which the first register gets whether it failed (STLXR)
unfoldable pub store_exclusive_form : IrType → Reg → Reg → Reg → Form
store_exclusive_form ty rs rt rn =
    store_ex (record {
      sz = access_size ty;
      rs = register_field rs;
      rn = register_field rn;
      rt = register_field rt;
    })

-- a branch back over so many words, the store and the load, where the store failed (CBNZ)
abbrev pub back_form : ℕ → Form
back_form between =
    cond_br_form (ResolvedOffset (negsuc (4 * between + 7)))
    (branches.NotZero failed_register Size64)

-- ---- words between

-- a comparison of what was there with a register, of which the lowest bits are extended where they
-- are fewer (CMP)
abbrev pub compared_form : OperandSize → Option ExtendOp → Form
compared_form size None =
    alu_rrr_form alu.SubS size (integer_register 31) old_register operand_register
compared_form size (Some extendop) =
    alu_rrr_extend_form alu.SubS size (integer_register 31) old_register operand_register extendop

-- the extensions of values of 8 and 16 bits: with zeros, and with their sign
abbrev pub zero_extend_of : IrType → Option ExtendOp
zero_extend_of I8 = Some UXTB
zero_extend_of I16 = Some UXTH
zero_extend_of _ = None

abbrev pub sign_extend_of : IrType → Option ExtendOp
sign_extend_of I8 = Some SXTB
sign_extend_of I16 = Some SXTH
sign_extend_of _ = None

-- the size of an operation on values of a type
abbrev pub loop_size : IrType → OperandSize
loop_size I64 = Size64
loop_size _ = Size32

-- an operation on what was there and the operand
abbrev pub operation_form : ALUOp → IrType → Form
operation_form op ty = alu_rrr_form op (loop_size ty) new_register old_register operand_register

-- the complement of what that gave
abbrev pub complement_form : IrType → Form
complement_form ty =
    alu_rrr_form alu.OrrNot (loop_size ty) new_register (integer_register 31) new_register

-- the loaded 8 or 16 bits, extended with their sign to 32
abbrev pub sign_forms : IrType → List Form
sign_forms I8 = extend_form old_register old_register true 8 32 ∷ []
sign_forms I16 = extend_form old_register old_register true 16 32 ∷ []
sign_forms _ = []

-- the choice between what was there and the operand, by a condition on their comparison
abbrev pub choice_forms : IrType → Option ExtendOp → Cond → List Form
choice_forms ty extendop cond =
    compared_form (loop_size ty) extendop
    ∷ csel_form new_register old_register operand_register cond ∷ []

-- what an operation makes of what was there and the operand; an exchange makes nothing
abbrev pub operator_forms : IrType → AtomicRMWLoopOp → List Form
operator_forms ty loops.Add = operation_form alu.Add ty ∷ []
operator_forms ty loops.Sub = operation_form alu.Sub ty ∷ []
operator_forms ty loops.And = operation_form alu.And ty ∷ []
operator_forms ty loops.Nand = operation_form alu.And ty ∷ complement_form ty ∷ []
operator_forms ty loops.Eor = operation_form alu.Eor ty ∷ []
operator_forms ty loops.Orr = operation_form alu.Orr ty ∷ []
operator_forms ty loops.Smax = sign_forms ty ++ choice_forms ty (sign_extend_of ty) Gt
operator_forms ty loops.Smin = sign_forms ty ++ choice_forms ty (sign_extend_of ty) Lt
operator_forms ty loops.Umax = choice_forms ty (zero_extend_of ty) Hi
operator_forms ty loops.Umin = choice_forms ty (zero_extend_of ty) Lo
operator_forms ty loops.Xchg = []

-- the register of what is stored: an exchange stores the operand itself
abbrev pub stored_register : AtomicRMWLoopOp → Reg
stored_register loops.Xchg = operand_register
stored_register _ = new_register

-- a comparison with the value that is awaited, and a branch out of the loop where another was there
abbrev pub awaited_forms : IrType → List Form
awaited_forms ty =
    compared_form Size64 (zero_extend_of ty)
    ∷ cond_br_form (ResolvedOffset (pos 12)) (branches.Cond Ne) ∷ []
