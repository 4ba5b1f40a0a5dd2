-- Which operands an instruction may have (Arm Architecture Reference Manual, C6 and C7).
use Rattle.std.specs.Prelude.{ℕ, ℤ, pos, negsuc, ◌+◌, ◌%◌, ◌^◌, Bool, true, false, not, ◌&&◌, ◌||◌}
use Rattle.std.specs.Prelude.{nat_lt, nat_le, nat_eq}
use Rattle.a64_base.specs.declared.reg.Reg.{Reg}
use Rattle.a64_base.specs.declared.reg.RegKind.TheVariants.{Real, Virtual}
use Rattle.a64_base.specs.declared.reg.RegClass.{RegClass}
use Rattle.a64_base.specs.declared.reg.RegClass.TheVariants.{Int, Float}
use Rattle.a64_base.specs.declared.size.OperandSize.{OperandSize}
use Rattle.a64_base.specs.declared.size.OperandSize.TheVariants.{Size32, Size64}
use Rattle.a64_base.specs.declared.size.ScalarSize.{ScalarSize}
use Rattle.a64_base.specs.declared.size.ScalarSize.TheVariants as scalars
use Rattle.a64_base.specs.declared.size.ScalarSize.TheVariants.{Size8, Size16, Size128}
use Rattle.a64_base.specs.declared.size.VectorSize.{VectorSize}
use Rattle.a64_base.specs.OperandSizes.{operand_bits}
use Rattle.a64_base.specs.VectorSizes.{lane_of}
use Rattle.a64_imms.specs.declared.imm12.Imm12.{Imm12}
use Rattle.a64_imms.specs.declared.imm_logic.ImmLogic.{ImmLogic}
use Rattle.a64_imms.specs.declared.move_wide.MoveWideConst.{MoveWideConst}
use Rattle.a64_imms.specs.Logic.{is_imm_logic}
use Rattle.a64_operand.specs.declared.class.Class.{Class}
use Rattle.a64_operand.specs.declared.class.Class.TheVariants.{Zero, Stack, Vector, Own}
use Rattle.a64_operand.specs.declared.virtuals.VirtualRegisters.{VirtualRegisters}
use Rattle.a64_operand.specs.declared.virtuals.VirtualRegisters.TheVariants.{Refused, Allowed}

-- ---- registers

abbrev pub are_allowed : VirtualRegisters → Bool
are_allowed Refused = false
are_allowed Allowed = true

abbrev pub is_int : RegClass → Bool
is_int Int = true
is_int Float = false

-- x0 to x30, or the zero register. Of a virtual register, where they are allowed, the class alone
-- counts.
abbrev pub is_register_or_zero : VirtualRegisters → Reg → Bool
is_register_or_zero virtuals (Real p) = is_int p.class && nat_lt p.number 32
is_register_or_zero virtuals (Virtual index class) = are_allowed virtuals && is_int class

-- x0 to x30, or the stack pointer
abbrev pub is_register_or_stack : VirtualRegisters → Reg → Bool
is_register_or_stack virtuals (Real p) =
    is_int p.class && (nat_lt p.number 31 || nat_eq p.number 63)
is_register_or_stack virtuals (Virtual index class) = are_allowed virtuals && is_int class

-- x0 to x30
abbrev pub is_register : VirtualRegisters → Reg → Bool
is_register virtuals (Real p) = is_int p.class && nat_lt p.number 31
is_register virtuals (Virtual index class) = are_allowed virtuals && is_int class

-- v0 to v31
abbrev pub is_vector_register : VirtualRegisters → Reg → Bool
is_vector_register virtuals (Real p) = not (is_int p.class) && nat_lt p.number 32
is_vector_register virtuals (Virtual index class) = are_allowed virtuals && not (is_int class)

-- one of a class
abbrev pub is_of : VirtualRegisters → Class → Reg → Bool
is_of virtuals Zero reg = is_register_or_zero virtuals reg
is_of virtuals Stack reg = is_register_or_stack virtuals reg
is_of virtuals Vector reg = is_vector_register virtuals reg
is_of virtuals Own reg = true

-- the integer register with this number
abbrev pub is_fixed_register : VirtualRegisters → ℕ → Reg → Bool
is_fixed_register virtuals number (Real p) = is_int p.class && nat_eq p.number number
is_fixed_register virtuals number (Virtual index class) = are_allowed virtuals && is_int class

-- the stack pointer
abbrev pub is_stack_pointer : VirtualRegisters → Reg → Bool
is_stack_pointer virtuals reg = is_fixed_register virtuals 63 reg

abbrev pub is_same_class : RegClass → RegClass → Bool
is_same_class Int Int = true
is_same_class Float Float = true
is_same_class _ _ = false

-- a register of either class, the zero register and the stack pointer among them
abbrev pub is_any_register : VirtualRegisters → Reg → Bool
is_any_register virtuals (Real p) = true
is_any_register virtuals (Virtual index class) = are_allowed virtuals

-- two registers may be one: a virtual one may be any
abbrev pub is_same_register : Reg → Reg → Bool
is_same_register (Real p) (Real q) = is_same_class p.class q.class && nat_eq p.number q.number
is_same_register _ _ = true

-- two registers may be two: a virtual one may be any
abbrev pub is_other_register : Reg → Reg → Bool
is_other_register (Real p) (Real q) =
    not (is_same_class p.class q.class && nat_eq p.number q.number)
is_other_register _ _ = true

-- ---- lanes

-- how many lanes of a size a vector register of 128 bits has
abbrev pub lanes_of : ScalarSize → ℕ
lanes_of Size8 = 16
lanes_of Size16 = 8
lanes_of scalars.Size32 = 4
lanes_of scalars.Size64 = 2
lanes_of Size128 = 1

-- a number is that of a lane of a whole register
abbrev pub is_lane : VectorSize → ℕ → Bool
is_lane size idx = nat_lt idx (lanes_of (lane_of size))

-- ---- immediates and offsets

-- a halfword stands inside a register of the size
abbrev pub is_wide_in : OperandSize → MoveWideConst → Bool
is_wide_in Size32 imm = nat_le imm.shift 1
is_wide_in Size64 imm = nat_le imm.shift 3

-- a number of bits that is below a size
abbrev pub is_bit_of : OperandSize → ℕ → Bool
is_bit_of size bit = nat_lt bit (operand_bits size)

-- an immediate of 12 bits has no more
abbrev pub is_imm12 : Imm12 → Bool
is_imm12 imm = nat_lt imm.bits 4096

abbrev pub is_same_size : OperandSize → OperandSize → Bool
is_same_size Size32 Size32 = true
is_same_size Size64 Size64 = true
is_same_size _ _ = false

-- a bitmask immediate is one of the size, with the fields that its constructor gives
abbrev pub is_logic_of : OperandSize → ImmLogic → Bool
is_logic_of size imm = is_same_size imm.size size && is_imm_logic imm

-- an offset that a branch or a load can hold which reaches so many bytes: a multiple of 4, from
-- minus the reach to 4 below it
abbrev pub is_offset : ℕ → ℤ → Bool
is_offset reach (pos n) = nat_eq (n % 4) 0 && nat_lt n reach
is_offset reach (negsuc n) = nat_eq (n % 4) 3 && nat_lt n reach

-- an offset to an address near the code, in its unit: above -2^20, and below 2^20
abbrev pub is_near : ℤ → Bool
is_near (pos n) = nat_lt n (2 ^ 20)
is_near (negsuc n) = nat_lt (n + 1) (2 ^ 20)
