-- The texts of what is passed to a function that is called, of what comes back, and of what it
-- changes.
use Rattle.std.specs.Prelude.{ℕ, List, [], ◌∷◌}
use Rattle.std.specs.List.{join_with_byte, AllByRecursion}
use Rattle.a64_base.specs.declared.set.PRegSet.{PRegSet}
use Rattle.a64_inst.specs.declared.call.CallArgPair.{CallArgPair}
use Rattle.a64_inst.specs.declared.call.CallRetPair.{CallRetPair}
use Rattle.a64_read.specs.Clobbers.{clobbers_text, IsPRegSet}
use Rattle.a64_tokens.specs.Fields.{reg_text, IsReg}
use Rattle.a64_tokens.specs.Lists.{list_text}
use Rattle.a64_read.specs.Locations.{location_text, IsLocation}
use Rattle.a64_read.specs.RegisterPairs.{register_pair_text, IsRegisterPair}

-- what is passed is the register that the caller knows it by, and the one in which it goes
abbrev pub call_arg_text : CallArgPair → List ℕ
call_arg_text arg = register_pair_text (arg.vreg, arg.preg)

abbrev pub IsCallArg : CallArgPair → Type 0
IsCallArg arg = IsRegisterPair (arg.vreg, arg.preg)

-- a result is the register that the caller knows it by, and where the function leaves it, with =
-- between
abbrev pub call_ret_text : CallRetPair → List ℕ
call_ret_text ret = join_with_byte 61 (reg_text ret.vreg ∷ location_text ret.location ∷ [])

abbrev pub IsCallRet : CallRetPair → Type 0
IsCallRet ret = IsReg ret.vreg × IsLocation ret.location

-- what is passed, what comes back and what is changed
abbrev pub CallLists : Type 0
CallLists = List CallArgPair × List CallRetPair × PRegSet

abbrev pub call_lists_text : CallLists → List ℕ × List ℕ × List ℕ
call_lists_text lists =
    (list_text call_arg_text lists.0, list_text call_ret_text lists.1, clobbers_text lists.2)

abbrev pub AreCallLists : CallLists → Type 0
AreCallLists lists =
    AllByRecursion IsCallArg lists.0 × AllByRecursion IsCallRet lists.1 × IsPRegSet lists.2
