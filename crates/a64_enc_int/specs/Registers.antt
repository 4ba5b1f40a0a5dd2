-- How a word names registers.
use Rattle.std.specs.Prelude.{ℕ, ◌≡◌, ◌%◌, ◌==◌, if◌then◌else◌}
use Rattle.a64_base.specs.declared.reg.Reg.{Reg}
use Rattle.a64_base.specs.declared.reg.RegKind.TheVariants.{Real, Virtual}
use Rattle.a64_base.specs.declared.reg.RegClass.{RegClass}
use Rattle.a64_base.specs.declared.reg.RegClass.TheVariants.{Int, Float}

-- a register of the machine
abbrev pub IsReal : Reg → Type 0
IsReal (Real p) = Unit {0}
IsReal (Virtual index class) = ⊥

-- a register of the machine, of this class
abbrev pub IsOfClass : RegClass → Reg → Type 0
IsOfClass class (Real p) = p.class ≡ class
IsOfClass class (Virtual index other) = ⊥

-- a general register of the machine, the zero register or the stack pointer
abbrev pub IsGeneral : Reg → Type 0
IsGeneral reg = IsOfClass Int reg

-- the class of the register that a load or store has in Rt: a vector register where V is 1
abbrev pub data_class : ℕ → RegClass
data_class vector = if vector == 1 then Float else Int

-- the field that names a register: the lower five bits of its number, which are 31 for the stack
-- pointer too
abbrev pub register_field : Reg → ℕ
register_field (Real p) = p.number % 32
register_field (Virtual index class) = 0
