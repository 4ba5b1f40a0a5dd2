-- The registers of the machine, as clauses see them: a number and a class.
use Rattle.std.specs.Prelude.{ℕ, ◌==◌, ◌||◌, nat_lt, Bool, IsTrue}
use Rattle.a64_base.specs.declared.reg.RegClass.{RegClass}
use Rattle.a64_base.specs.declared.reg.RegClass.TheVariants.{Int, Float}

-- a register of the machine. Of the integer registers 31 is the zero register, and 63 the stack
-- pointer
pub record RealRegister : Type 0 where
  pub number : ℕ
  pub class : RegClass

-- the numbers that a class has
abbrev pub is_register_number : RegClass → ℕ → Bool
is_register_number Int n = nat_lt n 32 || (n == 63)
is_register_number Float n = nat_lt n 32

abbrev pub IsRegisterNumber : RegClass → ℕ → Type 0
IsRegisterNumber class n = IsTrue (is_register_number class n)
