-- Written by `python3 tools/instructions.py` from tables/instructions.txt.
-- Which instructions that are no loads or stores of one register are one word that is no use.
use Rattle.std.specs.Prelude.{Bool, true, false}
use Rattle.a64_inst.specs.declared.frame.FrameLayout.{FrameLayout}
use Rattle.a64_inst.specs.declared.inst.Inst.{Inst}
use Rattle.a64_inst.specs.declared.inst.Inst.TheVariants as insts
use Rattle.a64_inst.specs.LoneForms.{is_lone_mode, is_lone_return, is_resolved}

-- most are one word
abbrev pub is_lone_other : FrameLayout → Inst → Bool
is_lone_other frame (insts.CondBr taken not_taken kind) = false
is_lone_other frame (insts.TrapIf kind trap_code) = false
is_lone_other frame (insts.AuthenticatedRet key is_hint) = is_lone_return key is_hint
is_lone_other frame (insts.Jump dest) = is_resolved dest
is_lone_other frame (insts.TestBitAndBranch kind taken not_taken rn bit) = false
is_lone_other frame (insts.LabelAddress dst label) = false
is_lone_other frame insts.Nop0 = false
is_lone_other frame (insts.Word8 value) = false
is_lone_other frame (insts.EmitIsland needed_space) = false
is_lone_other frame (insts.Args args) = false
is_lone_other frame (insts.Rets rets) = false
is_lone_other frame (insts.DummyUse reg) = false
is_lone_other frame insts.SequencePoint = false
is_lone_other frame (insts.JTSequence default targets ridx rtmp1 rtmp2) = false
is_lone_other frame (insts.LoadExtNameGot rd name) = false
is_lone_other frame (insts.LoadExtNameNear rd name offset) = false
is_lone_other frame (insts.LoadExtNameFar rd name offset) = false
is_lone_other frame (insts.StackProbeLoop start end step) = false
is_lone_other frame (insts.AtomicRMWLoop ty op flags addr operand oldval scratch1 scratch2) = false
is_lone_other frame (insts.AtomicCASLoop ty flags addr expected replacement oldval scratch) = false
is_lone_other frame (insts.VecCSel rd rn rm cond) = false
is_lone_other frame (insts.Call info) = false
is_lone_other frame (insts.CallInd info) = false
is_lone_other frame (insts.ReturnCall info) = false
is_lone_other frame (insts.ReturnCallInd info) = false
is_lone_other frame (insts.LoadAddr rd mem) = is_lone_mode rd frame mem
is_lone_other frame _ = true
