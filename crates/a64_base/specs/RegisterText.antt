-- Names of registers in listings.
use Rattle.std.specs.Prelude.{ℕ, ◌==◌, if◌then◌else◌, List, ◌++◌, Bool, true, false, IsTrue, codes}
use Rattle.std.specs.Prelude.{decimal}
use Rattle.a64_base.specs.declared.reg.Reg.{Reg}
use Rattle.a64_base.specs.declared.reg.RegKind.TheVariants.{Real, Virtual}
use Rattle.a64_base.specs.declared.reg.RegClass.{RegClass}
use Rattle.a64_base.specs.declared.reg.RegClass.TheVariants.{Int, Float}
use Rattle.a64_base.specs.declared.size.OperandSize.{OperandSize}
use Rattle.a64_base.specs.declared.size.OperandSize.TheVariants as operands
use Rattle.a64_base.specs.declared.size.ScalarSize.{ScalarSize}
use Rattle.a64_base.specs.declared.size.ScalarSize.TheVariants.{Size8, Size16, Size32, Size64}
use Rattle.a64_base.specs.declared.size.ScalarSize.TheVariants.{Size128}
use Rattle.a64_base.specs.declared.size.VectorSize.{VectorSize}
use Rattle.a64_base.specs.declared.size.VectorSize.TheVariants.{Size8x8, Size8x16, Size16x4}
use Rattle.a64_base.specs.declared.size.VectorSize.TheVariants.{Size16x8, Size32x2, Size32x4}
use Rattle.a64_base.specs.declared.size.VectorSize.TheVariants.{Size64x2}

-- the letter before the number of an integer register
abbrev pub letter_of : OperandSize → List ℕ
letter_of operands.Size32 = codes "w"
letter_of operands.Size64 = codes "x"

-- the name of the zero register
abbrev pub zero_of : OperandSize → List ℕ
zero_of operands.Size32 = codes "wzr"
zero_of operands.Size64 = codes "xzr"

-- the name of the integer register with this number
abbrev pub integer_name : OperandSize → ℕ → List ℕ
integer_name size n =
    if n == 29 then codes "fp" else
    if n == 30 then codes "lr" else
    if n == 31 then zero_of size else
    if n == 63 then codes "sp" else
    (letter_of size ++ decimal n)

-- the name of a register of the machine, where an integer register has this size, and a float
-- register has this letter
abbrev pub real_name : OperandSize → List ℕ → RegClass → ℕ → List ℕ
real_name size letter Int n = integer_name size n
real_name size letter Float n = letter ++ decimal n

-- the name of a virtual register
abbrev pub virtual_name : RegClass → ℕ → List ℕ
virtual_name Int index = codes "%i" ++ decimal index
virtual_name Float index = codes "%f" ++ decimal index

-- the name of a register, where an integer register has this size
abbrev pub sized_text : OperandSize → Reg → List ℕ
sized_text size (Real p) = real_name size (codes "v") p.class p.number
sized_text size (Virtual index class) = virtual_name class index

-- the letter of a scalar in a vector register
abbrev pub scalar_letter : ScalarSize → List ℕ
scalar_letter Size8 = codes "b"
scalar_letter Size16 = codes "h"
scalar_letter Size32 = codes "s"
scalar_letter Size64 = codes "d"
scalar_letter Size128 = codes "q"

-- the name of a register, where a vector register holds a scalar of this size
abbrev pub scalar_text : ScalarSize → Reg → List ℕ
scalar_text scalar (Real p) = real_name operands.Size64 (scalar_letter scalar) p.class p.number
scalar_text scalar (Virtual index class) = virtual_name class index

-- the lanes behind the name of a vector register
abbrev pub lanes_suffix : VectorSize → List ℕ
lanes_suffix Size8x8 = codes ".8b"
lanes_suffix Size8x16 = codes ".16b"
lanes_suffix Size16x4 = codes ".4h"
lanes_suffix Size16x8 = codes ".8h"
lanes_suffix Size32x2 = codes ".2s"
lanes_suffix Size32x4 = codes ".4s"
lanes_suffix Size64x2 = codes ".2d"

-- the name of a vector register with its lanes
abbrev pub vector_text : VectorSize → Reg → List ℕ
vector_text size reg = sized_text operands.Size64 reg ++ lanes_suffix size

-- lanes have at most 64 bits
abbrev pub has_lanes : ScalarSize → Bool
has_lanes Size8 = true
has_lanes Size16 = true
has_lanes Size32 = true
has_lanes Size64 = true
has_lanes Size128 = false

abbrev pub HasLanes : ScalarSize → Type 0
HasLanes size = IsTrue (has_lanes size)

-- the lane behind the name of a vector register, up to its index
abbrev pub lane_suffix : ScalarSize → List ℕ
lane_suffix Size8 = codes ".b["
lane_suffix Size16 = codes ".h["
lane_suffix Size32 = codes ".s["
lane_suffix Size64 = codes ".d["
lane_suffix Size128 = codes ""

-- the name of one lane of a vector register
abbrev pub element_text : ℕ → ScalarSize → Reg → List ℕ
element_text index size reg =
    sized_text operands.Size64 reg ++ lane_suffix size ++ decimal index ++ codes "]"
