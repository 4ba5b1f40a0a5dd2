-- The texts of the fields of a line.
use Rattle.std.specs.Prelude.{ℕ, ◌≡◌, ◌==◌, ◌≤◌, ◌<◌, ◌*◌, ◌^◌, ◌++◌, if◌then◌else◌, codes, false}
use Rattle.std.specs.Prelude.{List, [], ◌∷◌, Option, Some, None}
use Rattle.std.specs.List.{list_any, join_with_byte}
use Rattle.std.specs.Fmt.{decimal, signed_decimal}
use Rattle.a64_base.specs.RegisterNumbers.{RealRegister, IsRegisterNumber}
use Rattle.a64_base.specs.declared.entity.MachLabel.{MachLabel}
use Rattle.a64_base.specs.declared.entity.TrapCode.{TrapCode}
use Rattle.a64_base.specs.declared.entity.UserStackMap.{UserStackMap}
use Rattle.a64_imms.specs.declared.offset.SImm9.{SImm9}
use Rattle.a64_imms.specs.Offsets.{IsOffset9}
use Rattle.a64_base.specs.declared.reg.Reg.{Reg}
use Rattle.a64_base.specs.declared.reg.RegKind.TheVariants.{Real, Virtual}
use Rattle.a64_base.specs.declared.reg.RegClass.{RegClass}
use Rattle.a64_base.specs.declared.reg.RegClass.TheVariants.{Int, Float}
use Rattle.a64_base.specs.declared.size.OperandSize.{OperandSize}
use Rattle.a64_base.specs.declared.size.OperandSize.TheVariants.{Size32, Size64}
use Rattle.a64_base.specs.declared.size.ScalarSize.{ScalarSize}
use Rattle.a64_base.specs.declared.size.ScalarSize.TheVariants as scalar_sizes
use Rattle.a64_base.specs.declared.size.VectorSize.{VectorSize}
use Rattle.a64_base.specs.declared.size.VectorSize.TheVariants as vector_sizes
use Rattle.a64_base.specs.declared.target.BranchTarget.{BranchTarget}
use Rattle.a64_base.specs.declared.target.BranchTarget.TheVariants as targets
use Rattle.a64_imms.specs.declared.imm12.Imm12.{Imm12}
use Rattle.a64_imms.specs.declared.imm_logic.ImmLogic.{ImmLogic}
use Rattle.a64_imms.specs.declared.move_wide.MoveWideConst.{MoveWideConst}
use Rattle.a64_base.specs.ShiftParts.{Shift}
use Rattle.a64_imms.specs.declared.flags.NZCV.{NZCV}
use Rattle.a64_imms.specs.declared.unsigned.ImmShift.{ImmShift}
use Rattle.a64_imms.specs.declared.unsigned.UImm5.{UImm5}
use Rattle.a64_imms.specs.declared.unsigned.UImm6.{UImm6}
use Rattle.a64_imms.specs.Flags.{flags_of, nzcv_bits}
use Rattle.a64_imms.specs.Unsigned.{uimm5_value}
use Rattle.a64_tokens.specs.Operators.{shift_op_text}
use Rattle.a64_imms.specs.Imm12s.{imm12_value, HasImm12}
use Rattle.a64_imms.specs.Logic.{logic_value, IsLogicOf}
use Rattle.a64_tokens.specs.Reads.{IsU8, IsU32, IsU64, IsI32}

-- the byte stands nowhere in the text
abbrev pub HasNo : ℕ → List ℕ → Type 0
HasNo byte text = list_any (λ b. b == byte) text ≡ false

-- a label is L and its number
abbrev pub label_text : MachLabel → List ℕ
label_text label = codes "L" ++ decimal label.0

abbrev pub IsLabel : MachLabel → Type 0
IsLabel label = IsU32 label.0

-- a branch target is its label, or its distance in bytes
abbrev pub target_text : BranchTarget → List ℕ
target_text (targets.Label label) = label_text label
target_text (targets.ResolvedOffset offset) = signed_decimal offset

abbrev pub IsTarget : BranchTarget → Type 0
IsTarget (targets.Label label) = IsLabel label
IsTarget (targets.ResolvedOffset offset) = IsI32 offset

-- a size is its number of bits
abbrev pub size_text : OperandSize → List ℕ
size_text Size32 = codes "32"
size_text Size64 = codes "64"

-- so is that of a scalar in a vector register
abbrev pub scalar_size_text : ScalarSize → List ℕ
scalar_size_text scalar_sizes.Size8 = codes "8"
scalar_size_text scalar_sizes.Size16 = codes "16"
scalar_size_text scalar_sizes.Size32 = codes "32"
scalar_size_text scalar_sizes.Size64 = codes "64"
scalar_size_text scalar_sizes.Size128 = codes "128"

-- the lanes of a vector register are the bits of one, x, and how many there are
abbrev pub vector_size_text : VectorSize → List ℕ
vector_size_text vector_sizes.Size8x8 = codes "8x8"
vector_size_text vector_sizes.Size8x16 = codes "8x16"
vector_size_text vector_sizes.Size16x4 = codes "16x4"
vector_size_text vector_sizes.Size16x8 = codes "16x8"
vector_size_text vector_sizes.Size32x2 = codes "32x2"
vector_size_text vector_sizes.Size32x4 = codes "32x4"
vector_size_text vector_sizes.Size64x2 = codes "64x2"

-- of the integer registers of the machine two have names without a number
abbrev pub integer_text : ℕ → List ℕ
integer_text n =
    if n == 31 then codes "xzr" else
    if n == 63 then codes "sp" else
    (codes "x" ++ decimal n)

abbrev pub real_text : RegClass → ℕ → List ℕ
real_text Int n = integer_text n
real_text Float n = codes "v" ++ decimal n

abbrev pub virtual_text : RegClass → ℕ → List ℕ
virtual_text Int n = codes "%i" ++ decimal n
virtual_text Float n = codes "%f" ++ decimal n

abbrev pub preg_text : RealRegister → List ℕ
preg_text p = real_text p.class p.number

abbrev pub IsPReg : RealRegister → Type 0
IsPReg p = IsRegisterNumber p.class p.number

abbrev pub reg_text : Reg → List ℕ
reg_text (Real p) = preg_text p
reg_text (Virtual index class) = virtual_text class index

abbrev pub IsReg : Reg → Type 0
IsReg (Real p) = IsPReg p
IsReg (Virtual index class) = IsU32 index

-- an immediate of 12 bits is its value, for which the constructor gives it
abbrev pub imm12_text : Imm12 → List ℕ
imm12_text imm = decimal (imm12_value imm)

abbrev pub IsImm12 : Imm12 → Type 0
IsImm12 imm = HasImm12 (imm12_value imm) imm

-- a bitmask immediate is its value, for which the constructor gives it at the size
abbrev pub logic_text : ImmLogic → List ℕ
logic_text imm = decimal (logic_value imm)

abbrev pub IsLogicAt : OperandSize → ImmLogic → Type 0
IsLogicAt size imm = IsU64 (logic_value imm) × IsLogicOf size (logic_value imm) imm

-- a halfword and its shift in bits, with a comma between
abbrev pub wide_text : MoveWideConst → List ℕ
wide_text imm = join_with_byte 44 (decimal imm.bits ∷ decimal (16 * imm.shift) ∷ [])

abbrev pub IsWide : MoveWideConst → Type 0
IsWide imm = (imm.bits < 2 ^ 16) × (imm.shift ≤ 3)

-- small immediates are their values, for which their constructors give them
abbrev pub imm_shift_text : ImmShift → List ℕ
imm_shift_text imm = decimal imm.imm

abbrev pub IsImmShift : ImmShift → Type 0
IsImmShift imm = imm.imm < 64

abbrev pub uimm5_text : UImm5 → List ℕ
uimm5_text imm = decimal (uimm5_value imm)

abbrev pub uimm6_text : UImm6 → List ℕ
uimm6_text imm = decimal imm.imm

abbrev pub IsUImm6 : UImm6 → Type 0
IsUImm6 imm = imm.imm < 64

-- flags are their four bits, as a number
abbrev pub nzcv_text : NZCV → List ℕ
nzcv_text flags = decimal (nzcv_bits (flags_of flags))

-- a signed offset is its value, for which the constructor gives it
abbrev pub offset9_text : SImm9 → List ℕ
offset9_text imm = signed_decimal imm.value

abbrev pub IsSImm9 : SImm9 → Type 0
IsSImm9 imm = IsOffset9 imm.value

-- what is known of an access is a dash where it does not trap, else the code of its trap
abbrev pub flags_text : Option TrapCode → List ℕ
flags_text None = codes "-"
flags_text (Some code) = decimal code.0

abbrev pub IsFlags : Option TrapCode → Type 0
IsFlags None = Unit {0}
IsFlags (Some code) = IsU8 code.0

-- the map of the stack at a call is a dash where there is none, else its number
abbrev pub map_text : Option UserStackMap → List ℕ
map_text None = codes "-"
map_text (Some map) = decimal map.0

abbrev pub IsMapNumber : Option UserStackMap → Type 0
IsMapNumber None = Unit {0}
IsMapNumber (Some map) = IsU32 map.0

-- a name without parentheses, and something in parentheses behind it
abbrev pub call_text : List ℕ × List ℕ → List ℕ
call_text call = call.0 ++ 40 ∷ (call.1 ++ 41 ∷ [])

abbrev pub IsCall : List ℕ × List ℕ → Type 0
IsCall call = HasNo 40 call.0

-- a shift is its operator, and in parentheses its amount
abbrev pub shift_text : Shift → List ℕ
shift_text shift = call_text (shift_op_text shift.op, decimal shift.amount)

abbrev pub IsShift : Shift → Type 0
IsShift shift = shift.amount ≤ 63
