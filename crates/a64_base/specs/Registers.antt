-- Registers, real and virtual.
use Rattle.std.specs.Prelude.{ℕ, Bool, true, false, Option, Some, None, ◌<◌, ◌^◌}
use Rattle.a64_base.specs.RegisterNumbers.{IsRegisterNumber}
use Rattle.a64_base.specs.declared.reg.Bank.{Bank}
use Rattle.a64_base.specs.declared.reg.Bank.TheVariants as banks
use Rattle.a64_base.specs.declared.reg.PReg.{PReg}
use Rattle.a64_base.specs.declared.reg.RegKind.{RegKind}
use Rattle.a64_base.specs.declared.reg.RegKind.TheVariants.{Real, Virtual}
use Rattle.a64_base.specs.declared.reg.RegClass.{RegClass}
use Rattle.a64_base.specs.declared.reg.RegClass.TheVariants.{Int, Float}

-- the class of a register
abbrev pub class_of : RegKind → RegClass
class_of (Real p) = p.class
class_of (Virtual index class) = class

-- whether a register is virtual
abbrev pub is_virtual_register : RegKind → Bool
is_virtual_register (Real p) = false
is_virtual_register (Virtual index class) = true

-- the machine's register, where it is one
abbrev pub real_of : RegKind → Option PReg
real_of (Real p) = Some p
real_of (Virtual index class) = None

-- the integer register with this number
abbrev pub integer_register : ℕ → RegKind
integer_register n = Real (record { number = n; class = Int })

-- the float register with this number
abbrev pub float_register : ℕ → RegKind
float_register n = Real (record { number = n; class = Float })

-- the register of a bank with this number
abbrev pub kind_of : Bank → ℕ → RegKind
kind_of banks.Int n = Real (record { number = n; class = Int })
kind_of banks.Float n = Real (record { number = n; class = Float })
kind_of banks.VirtualInt n = Virtual n Int
kind_of banks.VirtualFloat n = Virtual n Float

-- whether a bank has this number
abbrev pub IsNumbered : Bank → ℕ → Type 0
IsNumbered banks.Int n = IsRegisterNumber Int n
IsNumbered banks.Float n = IsRegisterNumber Float n
IsNumbered banks.VirtualInt n = n < 2 ^ 32
IsNumbered banks.VirtualFloat n = n < 2 ^ 32

-- the number of a register in its bank
abbrev pub number_of : RegKind → ℕ
number_of (Real p) = p.number
number_of (Virtual index class) = index

-- the bank of the machine's registers of a class
abbrev pub real_bank : RegClass → Bank
real_bank Int = banks.Int
real_bank Float = banks.Float

-- the bank of the virtual registers of a class
abbrev pub virtual_bank : RegClass → Bank
virtual_bank Int = banks.VirtualInt
virtual_bank Float = banks.VirtualFloat

-- the bank of a register
abbrev pub bank_of : RegKind → Bank
bank_of (Real p) = real_bank p.class
bank_of (Virtual index class) = virtual_bank class
