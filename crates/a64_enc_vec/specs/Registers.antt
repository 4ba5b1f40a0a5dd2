-- Vector registers.
use Rattle.a64_base.specs.declared.reg.Reg.{Reg}
use Rattle.a64_base.specs.declared.reg.RegClass.TheVariants.{Float}
use Rattle.a64_enc_int.specs.Registers.{IsOfClass}

-- a vector register of the machine
abbrev pub IsVector : Reg → Type 0
IsVector reg = IsOfClass Float reg
