-- Written by `python3 tools/instructions.py` from tables/instructions.txt.
-- The instructions that the worst cases of size and of growth bound.
use Rattle.std.specs.Prelude.{Bool, true, false}
use Rattle.a64_inst.specs.declared.inst.Inst.{Inst}
use Rattle.a64_inst.specs.declared.inst.Inst.TheVariants as insts

-- neither a call, nor a return that calls, nor a jump through a table, nor a place for an island
abbrev pub is_bounded : Inst → Bool
is_bounded (insts.EmitIsland needed_space) = false
is_bounded (insts.JTSequence default targets ridx rtmp1 rtmp2) = false
is_bounded (insts.Call info) = false
is_bounded (insts.CallInd info) = false
is_bounded (insts.ReturnCall info) = false
is_bounded (insts.ReturnCallInd info) = false
is_bounded _ = true
