-- Written by `python3 tools/instructions.py` from tables/instructions.txt.
-- Behind which instructions execution never goes on, whatever their operands.
use Rattle.std.specs.Prelude.{Bool, true, false}
use Rattle.a64_inst.specs.declared.inst.Inst.{Inst}
use Rattle.a64_inst.specs.declared.inst.Inst.TheVariants as insts

-- one that always goes to a label, to an address in a register or to another function, or that is
-- none and traps
abbrev pub stops : Inst → Bool
stops (insts.Udf trap_code) = true
stops (insts.IndirectBr rn targets) = true
stops insts.Ret = true
stops (insts.AuthenticatedRet key is_hint) = true
stops (insts.JTSequence default targets ridx rtmp1 rtmp2) = true
stops (insts.ReturnCall info) = true
stops (insts.ReturnCallInd info) = true
stops _ = false
