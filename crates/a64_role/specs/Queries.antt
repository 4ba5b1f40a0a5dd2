-- What is asked of an instruction beside the roles of its registers, and what makes instructions.
use Rattle.std.specs.Prelude.{ℕ, ◌≡◌, ◌↔◌, ◌||◌, ⊤, nat_eq, nat_le, nat_lt, Bool, true, false}
use Rattle.std.specs.Prelude.{if◌then◌else◌, IsTrue, List, [], ◌∷◌, Option, Some, None, is_some}
use Rattle.a64_base.specs.declared.convention.CallConv.{CallConv}
use Rattle.a64_base.specs.declared.convention.CallConv.TheVariants as conventions
use Rattle.a64_base.specs.declared.entity.MachLabel.{MachLabel}
use Rattle.a64_base.specs.declared.ir_type.IrType.{IrType}
use Rattle.a64_base.specs.declared.ir_type.IrType.TheVariants.{I8, I16, I32, I64, I128, F16, F32}
use Rattle.a64_base.specs.declared.ir_type.IrType.TheVariants.{F64, F128, I8X2, I8X4, I8X8, I8X16}
use Rattle.a64_base.specs.declared.ir_type.IrType.TheVariants.{I8X32}
use Rattle.a64_base.specs.declared.reg.PReg.{PReg}
use Rattle.a64_base.specs.declared.reg.Reg.{Reg}
use Rattle.a64_base.specs.declared.reg.RegClass.{RegClass}
use Rattle.a64_base.specs.declared.reg.RegClass.TheVariants.{Int, Float}
use Rattle.a64_base.specs.declared.set.PRegSet.{PRegSet}
use Rattle.a64_base.specs.declared.size.OperandSize.TheVariants.{Size64}
use Rattle.a64_base.specs.declared.target.BranchTarget.TheVariants.{Label}
use Rattle.a64_base.specs.RegisterNumbers.{IsRegisterNumber}
use Rattle.a64_base.specs.Registers.{class_of}
use Rattle.a64_base.specs.Sets.{has}
use Rattle.a64_base.specs.Types.{type_bits}
use Rattle.a64_inst.specs.declared.inst.Inst.{Inst}
use Rattle.a64_inst.specs.declared.inst.Inst.TheVariants as insts
use Rattle.a64_inst.specs.Accesses.{access_of}
use Rattle.a64_ops.specs.declared.system.BranchTargetType.TheVariants.{J}
use Rattle.a64_role.specs.declared.clobbers.ClobberTable.{ClobberTable}
use Rattle.a64_role.specs.Marks.{is_pair_access}

-- the register that a move writes, and the one that it reads, of a whole register
abbrev pub move_of : Inst → Option (Reg × Reg)
move_of (insts.Mov Size64 rd rm) = Some (rd, rm)
move_of (insts.FpuMove64 rd rn) = Some (rd, rn)
move_of (insts.FpuMove128 rd rn) = Some (rd, rn)
move_of _ = None

-- the loads and stores of pairs of registers, but for stores of pairs of vector registers, and
-- those of one register
abbrev pub is_mem_access : Inst → Bool
is_mem_access inst = is_pair_access inst || is_some (access_of inst)

-- ---- registers that calls change

-- those that a function of a convention may change
abbrev pub clobbers_of : ClobberTable → CallConv → PRegSet
clobbers_of table conventions.SystemV = table.system_v
clobbers_of table conventions.Tail = table.tail
clobbers_of table conventions.AppleAarch64 = table.apple_aarch64

-- a set has a register that another lacks
pub record HasMore (set other : PRegSet) : Type 0 where
  pub register : PReg
  pub real : IsRegisterNumber register.class register.number
  pub member : has set register ≡ true
  pub lacked : has other register ≡ false

-- what an instruction changes counts among what its function changes: never what the arguments of
-- the function do, and of a call only where the function that is called may change a register that
-- the caller may not
abbrev pub IsIncludedInClobbers : ClobberTable → Inst → Type 0
IsIncludedInClobbers table (insts.Args args) = ⊥
IsIncludedInClobbers table (insts.Call info) =
    HasMore (clobbers_of table info.callee_conv) (clobbers_of table info.caller_conv)
IsIncludedInClobbers table (insts.CallInd info) =
    HasMore (clobbers_of table info.callee_conv) (clobbers_of table info.caller_conv)
IsIncludedInClobbers table _ = ⊤

-- ---- instructions that are made

-- a move of a value between registers of a class: of an integer register always whole
abbrev pub class_move : RegClass → Reg → Reg → IrType → Inst
class_move Int to from ty = insts.Mov Size64 to from
class_move Float to from ty =
    if nat_le (type_bits ty) 64 then insts.FpuMove64 to from else insts.FpuMove128 to from

abbrev pub move_inst : Reg → Reg → IrType → Inst
move_inst to from ty = class_move (class_of to) to from ty

abbrev pub jump_inst : MachLabel → Inst
jump_inst label = insts.Jump (Label label)

-- an operation that does nothing, of at most so many bytes
abbrev pub nop_inst : ℕ → Inst
nop_inst size = if nat_lt size 4 then insts.Nop0 else insts.Nop4

-- the start of a block that is jumped to by an address, where control flow is checked
abbrev pub block_start : Bool → Bool → Option Inst
block_start true true = Some (insts.Bti J)
block_start _ _ = None

-- ---- classes of registers for types

-- the type of lanes of 8 bits that is as wide as a vector, in bits
abbrev pub bytes_type : ℕ → IrType
bytes_type bits =
    if nat_eq bits 16 then I8X2 else if nat_eq bits 32 then I8X4 else if nat_eq bits 64 then I8X8
    else I8X16

-- the classes of the registers in which a value of a type stands, and the types of its parts there
abbrev pub classes_of : IrType → Option (List RegClass × List IrType)
classes_of I8 = Some (Int ∷ [], I8 ∷ [])
classes_of I16 = Some (Int ∷ [], I16 ∷ [])
classes_of I32 = Some (Int ∷ [], I32 ∷ [])
classes_of I64 = Some (Int ∷ [], I64 ∷ [])
classes_of I128 = Some (Int ∷ Int ∷ [], I64 ∷ I64 ∷ [])
classes_of F16 = Some (Float ∷ [], F16 ∷ [])
classes_of F32 = Some (Float ∷ [], F32 ∷ [])
classes_of F64 = Some (Float ∷ [], F64 ∷ [])
classes_of F128 = Some (Float ∷ [], F128 ∷ [])
classes_of I8X32 = None
classes_of ty = Some (Float ∷ [], bytes_type (type_bits ty) ∷ [])

-- the type of all that a register of a class holds
abbrev pub canonical_type : RegClass → IrType
canonical_type Int = I64
canonical_type Float = I8X16
