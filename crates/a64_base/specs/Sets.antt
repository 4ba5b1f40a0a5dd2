-- Sets of the machine's registers.
use Rattle.std.specs.Prelude.{ℕ, ◌==◌, if◌then◌else◌, Bool}
use Rattle.a64_base.specs.Bits.{has_bit}
use Rattle.a64_base.specs.declared.reg.PReg.{PReg}
use Rattle.a64_base.specs.declared.reg.RegClass.{RegClass}
use Rattle.a64_base.specs.declared.reg.RegClass.TheVariants.{Int, Float}
use Rattle.a64_base.specs.declared.set.PRegSet.{PRegSet}

-- whether a set has the register of a class with a number
abbrev pub has_number : PRegSet → RegClass → ℕ → Bool
has_number set Int n = if n == 63 then set.stack else has_bit set.integers n
has_number set Float n = has_bit set.floats n

-- whether a set has a register
abbrev pub has : PRegSet → PReg → Bool
has set p = has_number set p.class p.number
