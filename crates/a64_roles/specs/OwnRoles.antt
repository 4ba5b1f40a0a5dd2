-- Written by `python3 tools/instructions.py` from tables/instructions.txt.
-- What each instruction does with its registers, in the order in which a visitor is told it.
use Rattle.std.specs.Prelude.{Bool, true, false, List, [], ◌∷◌, ◌++◌}
use Rattle.a64_base.specs.Registers.{float_register, integer_register}
use Rattle.a64_inst.specs.declared.inst.Inst.{Inst}
use Rattle.a64_inst.specs.declared.inst.Inst.TheVariants as insts
use Rattle.a64_inst.specs.Sheets.{sheet}
use Rattle.a64_role.specs.declared.role.Role.{Role}
use Rattle.a64_role.specs.declared.role.Role.TheVariants.{RegUse, RegDef, RegEarlyDef, RegReuseDef}
use Rattle.a64_role.specs.declared.role.Role.TheVariants.{RegFixedUse, RegFixedDef}
use Rattle.a64_role.specs.Lists.{call_roles, field_roles, kind_roles, mode_roles, pair_mode_roles}
use Rattle.a64_role.specs.Lists.{pair_swap_roles, return_call_roles}
use Rattle.a64_roles.specs.Sequences.{args_roles, rets_roles, rmw_loop_roles}

-- whether the result is the register of the operand that is read behind it
abbrev pub is_tied : Inst → Bool
is_tied (insts.BitfieldMoveMod size rd ri rn immr imms) = true
is_tied (insts.FpuRRIMod fpu_op rd ri rn) = true
is_tied (insts.VecRRRLongMod alu_op rd ri rn rm high_half) = true
is_tied (insts.VecRRRMod alu_op rd ri rn rm size) = true
is_tied (insts.VecShiftImmMod op rd ri rn size imm) = true
is_tied (insts.VecFmlaElem alu_op rd ri rn rm size idx) = true
is_tied (insts.MovToVec rd ri rn idx size) = true
is_tied (insts.VecMovElement rd ri rn dest_idx src_idx size) = true
is_tied _ = false

-- the roles of all instructions but the loads and stores of one register
abbrev pub own_roles : Inst → List Role
own_roles (insts.MovK rd rn imm size) = RegUse rn ∷ RegReuseDef rd 0 ∷ []
own_roles (insts.VecRRNarrowLow op rd rn lane_size) = RegUse rn ∷ RegDef rd ∷ []
own_roles (insts.VecRRNarrowHigh op rd ri rn lane_size) =
    RegUse rn ∷ RegReuseDef rd 2 ∷ RegUse ri ∷ []
own_roles (insts.VecTbl rd rn rm) = RegUse rn ∷ RegUse rm ∷ RegDef rd ∷ []
own_roles (insts.VecTblExt rd ri rn rm) = RegUse rn ∷ RegUse rm ∷ RegReuseDef rd 3 ∷ RegUse ri ∷ []
own_roles (insts.VecTbl2 rd rn rn2 rm) =
    RegFixedUse rn (float_register 30) ∷ RegFixedUse rn2 (float_register 31) ∷ RegUse rm ∷ RegDef rd
    ∷ []
own_roles (insts.VecTbl2Ext rd ri rn rn2 rm) =
    RegFixedUse rn (float_register 30) ∷ RegFixedUse rn2 (float_register 31) ∷ RegUse rm
    ∷ RegReuseDef rd 4 ∷ RegUse ri ∷ []
own_roles (insts.CondBr taken not_taken kind) = kind_roles kind
own_roles (insts.TrapIf kind trap_code) = kind_roles kind
own_roles (insts.MovToNZCV rn) = RegUse rn ∷ []
own_roles (insts.MovFromNZCV rd) = RegDef rd ∷ []
own_roles (insts.IndirectBr rn targets) = RegUse rn ∷ []
own_roles (insts.TestBitAndBranch kind taken not_taken rn bit) = RegUse rn ∷ []
own_roles (insts.LabelAddress dst label) = RegDef dst ∷ []
own_roles (insts.Args args) = args_roles args
own_roles (insts.Rets rets) = rets_roles rets
own_roles (insts.DummyUse reg) = RegUse reg ∷ []
own_roles (insts.JTSequence default targets ridx rtmp1 rtmp2) =
    RegUse ridx ∷ RegEarlyDef rtmp1 ∷ RegEarlyDef rtmp2 ∷ []
own_roles (insts.LoadExtNameGot rd name) = RegDef rd ∷ []
own_roles (insts.LoadExtNameNear rd name offset) = RegDef rd ∷ []
own_roles (insts.LoadExtNameFar rd name offset) = RegDef rd ∷ []
own_roles (insts.StackProbeLoop start end step) = RegEarlyDef start ∷ RegUse end ∷ []
own_roles (insts.AtomicRMWLoop ty op flags addr operand oldval scratch1 scratch2) =
    rmw_loop_roles op addr operand oldval scratch1 scratch2
own_roles (insts.AtomicCASLoop ty flags addr expected replacement oldval scratch) =
    RegFixedUse addr (integer_register 25) ∷ RegFixedUse expected (integer_register 26)
    ∷ RegFixedUse replacement (integer_register 28) ∷ RegFixedDef oldval (integer_register 27)
    ∷ RegFixedDef scratch (integer_register 24) ∷ []
own_roles (insts.VecCSel rd rn rm cond) = RegDef rd ∷ RegUse rn ∷ RegUse rm ∷ []
own_roles (insts.Call info) = call_roles info.uses info.defs info.clobbers
own_roles (insts.CallInd info) =
    (RegUse info.dest ∷ []) ++ call_roles info.uses info.defs info.clobbers
own_roles (insts.ReturnCall info) = return_call_roles info.uses
own_roles (insts.ReturnCallInd info) =
    (RegFixedUse info.dest (integer_register 1) ∷ []) ++ return_call_roles info.uses
own_roles (insts.AtomicCAS128 args) = pair_swap_roles args
own_roles (insts.VecLoadReplicate rd rn size flags) = RegDef rd ∷ RegUse rn ∷ []
own_roles (insts.StoreRelease access_ty rt rn flags) = RegUse rn ∷ RegUse rt ∷ []
own_roles (insts.LoadAcquire access_ty rt rn flags) = RegUse rn ∷ RegDef rt ∷ []
own_roles (insts.AtomicCAS rd rs rt rn ty flags) =
    RegReuseDef rd 1 ∷ RegUse rs ∷ RegUse rt ∷ RegUse rn ∷ []
own_roles (insts.StoreP64 rt rt2 mem flags) = (RegUse rt ∷ RegUse rt2 ∷ []) ++ pair_mode_roles mem
own_roles (insts.LoadP64 rt rt2 mem flags) = (RegDef rt ∷ RegDef rt2 ∷ []) ++ pair_mode_roles mem
own_roles (insts.FpuStoreP64 rt rt2 mem flags) =
    (RegUse rt ∷ RegUse rt2 ∷ []) ++ pair_mode_roles mem
own_roles (insts.FpuLoadP64 rt rt2 mem flags) = (RegDef rt ∷ RegDef rt2 ∷ []) ++ pair_mode_roles mem
own_roles (insts.FpuStoreP128 rt rt2 mem flags) =
    (RegUse rt ∷ RegUse rt2 ∷ []) ++ pair_mode_roles mem
own_roles (insts.FpuLoadP128 rt rt2 mem flags) =
    (RegDef rt ∷ RegDef rt2 ∷ []) ++ pair_mode_roles mem
own_roles (insts.AtomicRMW ty op rs rt rn flags) = RegUse rs ∷ RegDef rt ∷ RegUse rn ∷ []
own_roles (insts.LoadAddr rd mem) = (RegDef rd ∷ []) ++ mode_roles mem
-- the others: the registers among the fields of their sheets, in their order; what has no sheet has
-- none
own_roles inst = field_roles (is_tied inst) (sheet inst)
