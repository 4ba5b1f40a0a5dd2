-- The texts of sets of registers.
use Rattle.std.specs.Prelude.{ℕ, zero, suc, ◌-◌, nat_lt, nat_eq, if◌then◌else◌, List, [], ◌∷◌}
use Rattle.a64_base.specs.RegisterNumbers.{RealRegister}
use Rattle.a64_base.specs.Sets.{has}
use Rattle.a64_base.specs.declared.reg.RegClass.TheVariants.{Int, Float}
use Rattle.a64_base.specs.declared.set.PRegSet.{PRegSet}
use Rattle.a64_tokens.specs.Fields.{preg_text}
use Rattle.a64_tokens.specs.Lists.{list_text}
use Rattle.a64_tokens.specs.Reads.{IsU32}

-- the registers of the machine in the order in which lists have them: the integer registers by
-- number, of which the stack pointer has the highest, and behind them the float registers
abbrev pub nth_register : ℕ → RealRegister
nth_register n =
    if nat_lt n 32 then record { number = n; class = Int } else
    if nat_eq n 32 then record { number = 63; class = Int } else
    record { number = n - 33; class = Float }

-- those that a set has, of so many from the nth on
abbrev pub members_from : PRegSet → ℕ → ℕ → List RealRegister
members_from set n zero = []
members_from set n (suc more) =
    if has set (nth_register n) then nth_register n ∷ members_from set (suc n) more
    else members_from set (suc n) more

-- all that a set has, in their order
unfoldable pub members : PRegSet → List RealRegister
members set = members_from set 0 65

abbrev pub clobbers_text : PRegSet → List ℕ
clobbers_text set = list_text preg_text (members set)

-- a set has no other registers than those of the machine
abbrev pub IsPRegSet : PRegSet → Type 0
IsPRegSet set = IsU32 set.integers × IsU32 set.floats
