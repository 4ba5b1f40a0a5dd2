-- The texts of registers in which values enter and leave functions.
use Rattle.std.specs.Prelude.{ℕ, List, [], ◌∷◌}
use Rattle.std.specs.List.{join_with_byte}
use Rattle.a64_base.specs.declared.reg.Reg.{Reg}
use Rattle.a64_inst.specs.declared.pair.ArgPair.{ArgPair}
use Rattle.a64_inst.specs.declared.pair.RetPair.{RetPair}
use Rattle.a64_tokens.specs.Fields.{reg_text, IsReg}

-- two registers, with = between
abbrev pub register_pair_text : Reg × Reg → List ℕ
register_pair_text pair = join_with_byte 61 (reg_text pair.0 ∷ reg_text pair.1 ∷ [])

abbrev pub IsRegisterPair : Reg × Reg → Type 0
IsRegisterPair pair = IsReg pair.0 × IsReg pair.1

-- an argument is the register that the function knows it by, and the one in which it comes
abbrev pub arg_pair_text : ArgPair → List ℕ
arg_pair_text arg = register_pair_text (arg.vreg, arg.preg)

abbrev pub IsArgPair : ArgPair → Type 0
IsArgPair arg = IsRegisterPair (arg.vreg, arg.preg)

-- a result is the register that the function knows it by, and the one in which it goes
abbrev pub ret_pair_text : RetPair → List ℕ
ret_pair_text ret = register_pair_text (ret.vreg, ret.preg)

abbrev pub IsRetPair : RetPair → Type 0
IsRetPair ret = IsRegisterPair (ret.vreg, ret.preg)
