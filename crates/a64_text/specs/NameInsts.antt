-- Written by `python3 tools/instructions.py` from tables/instructions.txt.
-- The instruction that each name makes of the fields at their places. A name whose fields are not
-- all that its instruction is made of has no equation of its own here, but one in what makes it
-- (Makes).
use Rattle.std.specs.Prelude.{List, Option}
use Rattle.a64_base.specs.declared.entity.TrapCode.{TrapCode}
use Rattle.a64_base.specs.declared.reg.Reg.{Reg}
use Rattle.a64_inst.specs.declared.inst.Inst.{Inst}
use Rattle.a64_inst.specs.declared.inst.Inst.TheVariants as insts
use Rattle.a64_inst.specs.declared.mode.PairAMode.{PairAMode}
use Rattle.a64_text.specs.declared.name.ImmediateName.{ImmediateName}
use Rattle.a64_text.specs.declared.name.ImmediateName.TheVariants as immediate
use Rattle.a64_text.specs.declared.name.RegisterName.{RegisterName}
use Rattle.a64_text.specs.declared.name.RegisterName.TheVariants as register
use Rattle.a64_text.specs.declared.name.FloatName.{FloatName}
use Rattle.a64_text.specs.declared.name.FloatName.TheVariants as float
use Rattle.a64_text.specs.declared.name.VectorName.{VectorName}
use Rattle.a64_text.specs.declared.name.VectorName.TheVariants as vector
use Rattle.a64_text.specs.declared.name.VectorMoveName.{VectorMoveName}
use Rattle.a64_text.specs.declared.name.VectorMoveName.TheVariants as vector_move
use Rattle.a64_text.specs.declared.name.SystemName.{SystemName}
use Rattle.a64_text.specs.declared.name.SystemName.TheVariants as system
use Rattle.a64_text.specs.declared.name.ControlName.{ControlName}
use Rattle.a64_text.specs.declared.name.ControlName.TheVariants as control
use Rattle.a64_text.specs.declared.name.SequenceName.{SequenceName}
use Rattle.a64_text.specs.declared.name.SequenceName.TheVariants as sequence
use Rattle.a64_text.specs.declared.name.MemoryName.{MemoryName}
use Rattle.a64_text.specs.declared.name.MemoryName.TheVariants as memory
use Rattle.a64_text.specs.declared.name.PairName.{PairName}
use Rattle.a64_text.specs.declared.name.PairName.TheVariants as pair
use Rattle.a64_tokens.specs.declared.value.Value.{Value}
use Rattle.a64_read.specs.At.{alu_op3_at, alu_op_at, api_key_at, atomic_rmw_loop_op_at}
use Rattle.a64_read.specs.At.{atomic_rmw_op_at, bfm_op_at, bit_op_at, branch_target_type_at}
use Rattle.a64_read.specs.At.{cond_at, cond_br_kind_at, extend_at, flags_at, fpu_op1_at}
use Rattle.a64_read.specs.At.{fpu_op2_at, fpu_op3_at, fpu_op_ri_at, fpu_op_ri_mod_at}
use Rattle.a64_read.specs.At.{fpu_round_mode_at, fpu_to_int_op_at, i32_at, i64_at, imm12_at}
use Rattle.a64_read.specs.At.{imm_shift_at, int_to_fpu_op_at, label_at, mode_at, move_wide_op_at}
use Rattle.a64_read.specs.At.{nzcv_at, preg_at, reg_at, scalar_size_at, shift_at, size_at}
use Rattle.a64_read.specs.At.{target_at, test_bit_kind_at, truth_at, type_at, u32_at, u64_at}
use Rattle.a64_read.specs.At.{u8_at, uimm5_at, uimm6_at, vector_size_at, wide_at}
use Rattle.a64_read.specs.VecAt.{vec_alu_mod_op_at, vec_alu_op_at, vec_extend_op_at}
use Rattle.a64_read.specs.VecAt.{vec_lanes_op_at, vec_misc2_at, vec_pair_op_at, vec_rr_long_op_at}
use Rattle.a64_read.specs.VecAt.{vec_rr_narrow_op_at, vec_rr_pair_long_op_at}
use Rattle.a64_read.specs.VecAt.{vec_rrr_long_mod_op_at, vec_rrr_long_op_at}
use Rattle.a64_read.specs.VecAt.{vec_shift_imm_mod_op_at, vec_shift_imm_op_at}

abbrev pub immediate_of : ImmediateName → List Value → Inst
immediate_of immediate.Adr values = insts.Adr (reg_at values 0) (i32_at values 1)
immediate_of immediate.Adrp values = insts.Adrp (reg_at values 0) (i32_at values 1)
immediate_of immediate.AluRRImm12 values =
    insts.AluRRImm12 (alu_op_at values 0) (size_at values 1) (reg_at values 2) (reg_at values 3)
    (imm12_at values 4)
immediate_of immediate.MovWide values =
    insts.MovWide (move_wide_op_at values 0) (reg_at values 1) (wide_at values 2) (size_at values 3)
immediate_of immediate.MovK values =
    insts.MovK (reg_at values 0) (reg_at values 1) (wide_at values 2) (size_at values 3)
immediate_of immediate.AluRRImmShift values =
    insts.AluRRImmShift (alu_op_at values 0) (size_at values 1) (reg_at values 2) (reg_at values 3)
    (imm_shift_at values 4)
immediate_of immediate.Extend values =
    insts.Extend (reg_at values 0) (reg_at values 1) (truth_at values 2) (u8_at values 3)
    (u8_at values 4)
immediate_of immediate.BitfieldMove values =
    insts.BitfieldMove (size_at values 0) (bfm_op_at values 1) (reg_at values 2) (reg_at values 3)
    (uimm6_at values 4) (uimm6_at values 5)
immediate_of _ values =
    insts.BitfieldMoveMod (size_at values 0) (reg_at values 1) (reg_at values 2) (reg_at values 3)
    (uimm6_at values 4) (uimm6_at values 5)

abbrev pub register_of : RegisterName → List Value → Inst
register_of register.AluRRR values =
    insts.AluRRR (alu_op_at values 0) (size_at values 1) (reg_at values 2) (reg_at values 3)
    (reg_at values 4)
register_of register.BitRR values =
    insts.BitRR (bit_op_at values 0) (size_at values 1) (reg_at values 2) (reg_at values 3)
register_of register.AluRRRShift values =
    insts.AluRRRShift (alu_op_at values 0) (size_at values 1) (reg_at values 2) (reg_at values 3)
    (reg_at values 4) (shift_at values 5)
register_of register.Mov values = insts.Mov (size_at values 0) (reg_at values 1) (reg_at values 2)
register_of register.MovFromPReg values = insts.MovFromPReg (reg_at values 0) (preg_at values 1)
register_of register.MovToPReg values = insts.MovToPReg (preg_at values 0) (reg_at values 1)
register_of register.AluRRRExtend values =
    insts.AluRRRExtend (alu_op_at values 0) (size_at values 1) (reg_at values 2) (reg_at values 3)
    (reg_at values 4) (extend_at values 5)
register_of register.CCmp values =
    insts.CCmp (size_at values 0) (reg_at values 1) (reg_at values 2) (nzcv_at values 3)
    (cond_at values 4)
register_of register.CCmpImm values =
    insts.CCmpImm (size_at values 0) (reg_at values 1) (uimm5_at values 2) (nzcv_at values 3)
    (cond_at values 4)
register_of register.CSel values =
    insts.CSel (reg_at values 0) (reg_at values 1) (reg_at values 2) (cond_at values 3)
register_of register.CSet values = insts.CSet (reg_at values 0) (cond_at values 1)
register_of register.CSetm values = insts.CSetm (reg_at values 0) (cond_at values 1)
register_of register.CSNeg values =
    insts.CSNeg (reg_at values 0) (reg_at values 1) (reg_at values 2) (cond_at values 3)
register_of register.AluRRRR values =
    insts.AluRRRR (alu_op3_at values 0) (size_at values 1) (reg_at values 2) (reg_at values 3)
    (reg_at values 4) (reg_at values 5)

abbrev pub float_of : FloatName → List Value → Inst
float_of float.FpuMoveFromVec values =
    insts.FpuMoveFromVec (reg_at values 0) (reg_at values 1) (u8_at values 2)
    (vector_size_at values 3)
float_of float.FpuRRI values =
    insts.FpuRRI (fpu_op_ri_at values 0) (reg_at values 1) (reg_at values 2)
float_of float.FpuRRIMod values =
    insts.FpuRRIMod (fpu_op_ri_mod_at values 0) (reg_at values 1) (reg_at values 2)
    (reg_at values 3)
float_of float.FpuMove128 values = insts.FpuMove128 (reg_at values 0) (reg_at values 1)
float_of float.FpuToInt values =
    insts.FpuToInt (fpu_to_int_op_at values 0) (reg_at values 1) (reg_at values 2)
float_of float.IntToFpu values =
    insts.IntToFpu (int_to_fpu_op_at values 0) (reg_at values 1) (reg_at values 2)
float_of float.MovToFpu values =
    insts.MovToFpu (reg_at values 0) (reg_at values 1) (scalar_size_at values 2)
float_of float.FpuMove32 values = insts.FpuMove32 (reg_at values 0) (reg_at values 1)
float_of float.FpuMove64 values = insts.FpuMove64 (reg_at values 0) (reg_at values 1)
float_of float.FpuExtend values =
    insts.FpuExtend (reg_at values 0) (reg_at values 1) (scalar_size_at values 2)
float_of float.FpuRR values =
    insts.FpuRR (fpu_op1_at values 0) (scalar_size_at values 1) (reg_at values 2) (reg_at values 3)
float_of float.FpuRound values =
    insts.FpuRound (fpu_round_mode_at values 0) (reg_at values 1) (reg_at values 2)
float_of float.FpuCmp values =
    insts.FpuCmp (scalar_size_at values 0) (reg_at values 1) (reg_at values 2)
float_of float.FpuRRR values =
    insts.FpuRRR (fpu_op2_at values 0) (scalar_size_at values 1) (reg_at values 2) (reg_at values 3)
    (reg_at values 4)
float_of float.FpuCSel16 values =
    insts.FpuCSel16 (reg_at values 0) (reg_at values 1) (reg_at values 2) (cond_at values 3)
float_of float.FpuCSel32 values =
    insts.FpuCSel32 (reg_at values 0) (reg_at values 1) (reg_at values 2) (cond_at values 3)
float_of float.FpuCSel64 values =
    insts.FpuCSel64 (reg_at values 0) (reg_at values 1) (reg_at values 2) (cond_at values 3)
float_of _ values =
    insts.FpuRRRR (fpu_op3_at values 0) (scalar_size_at values 1) (reg_at values 2)
    (reg_at values 3) (reg_at values 4) (reg_at values 5)

abbrev pub vector_of : VectorName → List Value → Inst
vector_of vector.VecRRPair values =
    insts.VecRRPair (vec_pair_op_at values 0) (reg_at values 1) (reg_at values 2)
vector_of vector.VecMisc values =
    insts.VecMisc (vec_misc2_at values 0) (reg_at values 1) (reg_at values 2)
    (vector_size_at values 3)
vector_of vector.VecRRLong values =
    insts.VecRRLong (vec_rr_long_op_at values 0) (reg_at values 1) (reg_at values 2)
    (truth_at values 3)
vector_of vector.VecRRNarrowLow values =
    insts.VecRRNarrowLow (vec_rr_narrow_op_at values 0) (reg_at values 1) (reg_at values 2)
    (scalar_size_at values 3)
vector_of vector.VecRRNarrowHigh values =
    insts.VecRRNarrowHigh (vec_rr_narrow_op_at values 0) (reg_at values 1) (reg_at values 2)
    (reg_at values 3) (scalar_size_at values 4)
vector_of vector.VecRRPairLong values =
    insts.VecRRPairLong (vec_rr_pair_long_op_at values 0) (reg_at values 1) (reg_at values 2)
vector_of vector.VecLanes values =
    insts.VecLanes (vec_lanes_op_at values 0) (reg_at values 1) (reg_at values 2)
    (vector_size_at values 3)
vector_of vector.VecRRRLong values =
    insts.VecRRRLong (vec_rrr_long_op_at values 0) (reg_at values 1) (reg_at values 2)
    (reg_at values 3) (truth_at values 4)
vector_of vector.VecRRRLongMod values =
    insts.VecRRRLongMod (vec_rrr_long_mod_op_at values 0) (reg_at values 1) (reg_at values 2)
    (reg_at values 3) (reg_at values 4) (truth_at values 5)
vector_of vector.VecRRR values =
    insts.VecRRR (vec_alu_op_at values 0) (reg_at values 1) (reg_at values 2) (reg_at values 3)
    (vector_size_at values 4)
vector_of vector.VecRRRMod values =
    insts.VecRRRMod (vec_alu_mod_op_at values 0) (reg_at values 1) (reg_at values 2)
    (reg_at values 3) (reg_at values 4) (vector_size_at values 5)
vector_of vector.VecExtend values =
    insts.VecExtend (vec_extend_op_at values 0) (reg_at values 1) (reg_at values 2)
    (truth_at values 3) (scalar_size_at values 4)
vector_of vector.VecShiftImm values =
    insts.VecShiftImm (vec_shift_imm_op_at values 0) (reg_at values 1) (reg_at values 2)
    (vector_size_at values 3) (u8_at values 4)
vector_of vector.VecShiftImmMod values =
    insts.VecShiftImmMod (vec_shift_imm_mod_op_at values 0) (reg_at values 1) (reg_at values 2)
    (reg_at values 3) (vector_size_at values 4) (u8_at values 5)
vector_of vector.VecFmlaElem values =
    insts.VecFmlaElem (vec_alu_mod_op_at values 0) (reg_at values 1) (reg_at values 2)
    (reg_at values 3) (reg_at values 4) (vector_size_at values 5) (u8_at values 6)

abbrev pub vector_move_of : VectorMoveName → List Value → Inst
vector_move_of vector_move.VecTbl values =
    insts.VecTbl (reg_at values 0) (reg_at values 1) (reg_at values 2)
vector_move_of vector_move.VecTblExt values =
    insts.VecTblExt (reg_at values 0) (reg_at values 1) (reg_at values 2) (reg_at values 3)
vector_move_of vector_move.VecTbl2 values =
    insts.VecTbl2 (reg_at values 0) (reg_at values 1) (reg_at values 2) (reg_at values 3)
vector_move_of vector_move.VecTbl2Ext values =
    insts.VecTbl2Ext (reg_at values 0) (reg_at values 1) (reg_at values 2) (reg_at values 3)
    (reg_at values 4)
vector_move_of vector_move.VecExtract values =
    insts.VecExtract (reg_at values 0) (reg_at values 1) (reg_at values 2) (u8_at values 3)
vector_move_of vector_move.VecDupFromFpu values =
    insts.VecDupFromFpu (reg_at values 0) (reg_at values 1) (vector_size_at values 2)
    (u8_at values 3)
vector_move_of vector_move.VecDup values =
    insts.VecDup (reg_at values 0) (reg_at values 1) (vector_size_at values 2)
vector_move_of vector_move.MovFromVecSigned values =
    insts.MovFromVecSigned (reg_at values 0) (reg_at values 1) (u8_at values 2)
    (vector_size_at values 3) (size_at values 4)
vector_move_of vector_move.MovFromVec values =
    insts.MovFromVec (reg_at values 0) (reg_at values 1) (u8_at values 2) (scalar_size_at values 3)
vector_move_of vector_move.MovToVec values =
    insts.MovToVec (reg_at values 0) (reg_at values 1) (reg_at values 2) (u8_at values 3)
    (vector_size_at values 4)
vector_move_of _ values =
    insts.VecMovElement (reg_at values 0) (reg_at values 1) (reg_at values 2) (u8_at values 3)
    (u8_at values 4) (vector_size_at values 5)

abbrev pub system_of : SystemName → List Value → Inst
system_of system.Xpaclri values = insts.Xpaclri
system_of system.Csdb values = insts.Csdb
system_of system.Paci values = insts.Paci (api_key_at values 0)
system_of system.Bti values = insts.Bti (branch_target_type_at values 0)
system_of system.Fence values = insts.Fence
system_of system.Nop4 values = insts.Nop4
system_of system.MovToNZCV values = insts.MovToNZCV (reg_at values 0)
system_of system.MovFromNZCV values = insts.MovFromNZCV (reg_at values 0)
system_of system.Nop0 values = insts.Nop0

abbrev pub control_of : ControlName → List Value → Inst
control_of control.Udf values = insts.Udf (record { 0 = u8_at values 0 })
control_of control.CondBr values =
    insts.CondBr (target_at values 0) (target_at values 1) (cond_br_kind_at values 2)
control_of control.TrapIf values =
    insts.TrapIf (cond_br_kind_at values 0) (record { 0 = u8_at values 1 })
control_of control.Brk values = insts.Brk
control_of control.Ret values = insts.Ret
control_of control.AuthenticatedRet values =
    insts.AuthenticatedRet (api_key_at values 0) (truth_at values 1)
control_of control.Jump values = insts.Jump (target_at values 0)
control_of control.TestBitAndBranch values =
    insts.TestBitAndBranch (test_bit_kind_at values 0) (target_at values 1) (target_at values 2)
    (reg_at values 3) (u8_at values 4)
control_of control.LabelAddress values = insts.LabelAddress (reg_at values 0) (label_at values 1)
control_of control.Word4 values = insts.Word4 (u32_at values 0)
control_of control.Word8 values = insts.Word8 (u64_at values 0)
control_of _ values = insts.EmitIsland (u32_at values 0)

abbrev pub sequence_of : SequenceName → List Value → Inst
sequence_of sequence.DummyUse values = insts.DummyUse (reg_at values 0)
sequence_of sequence.SequencePoint values = insts.SequencePoint
sequence_of sequence.LoadExtNameGot values =
    insts.LoadExtNameGot (reg_at values 0) (record { 0 = u32_at values 1 })
sequence_of sequence.LoadExtNameNear values =
    insts.LoadExtNameNear (reg_at values 0) (record { 0 = u32_at values 1 }) (i64_at values 2)
sequence_of sequence.LoadExtNameFar values =
    insts.LoadExtNameFar (reg_at values 0) (record { 0 = u32_at values 1 }) (i64_at values 2)
sequence_of sequence.StackProbeLoop values =
    insts.StackProbeLoop (reg_at values 0) (reg_at values 1) (imm12_at values 2)
sequence_of _ values =
    insts.VecCSel (reg_at values 0) (reg_at values 1) (reg_at values 2) (cond_at values 3)

abbrev pub memory_of : MemoryName → List Value → Inst
memory_of memory.AtomicRMWLoop values =
    insts.AtomicRMWLoop (type_at values 0) (atomic_rmw_loop_op_at values 1) (flags_at values 2)
    (reg_at values 3) (reg_at values 4) (reg_at values 5) (reg_at values 6) (reg_at values 7)
memory_of memory.AtomicCASLoop values =
    insts.AtomicCASLoop (type_at values 0) (flags_at values 1) (reg_at values 2) (reg_at values 3)
    (reg_at values 4) (reg_at values 5) (reg_at values 6)
memory_of memory.AtomicCAS128 values = insts.AtomicCAS128 (record {
  rd_lo = reg_at values 0;
  rd_hi = reg_at values 1;
  rs_lo = reg_at values 2;
  rs_hi = reg_at values 3;
  rt_lo = reg_at values 4;
  rt_hi = reg_at values 5;
  rn = reg_at values 6;
  flags = flags_at values 7;
})
memory_of memory.VecLoadReplicate values =
    insts.VecLoadReplicate (reg_at values 0) (reg_at values 1) (vector_size_at values 2)
    (flags_at values 3)
memory_of memory.StoreRelease values =
    insts.StoreRelease (type_at values 0) (reg_at values 1) (reg_at values 2) (flags_at values 3)
memory_of memory.LoadAcquire values =
    insts.LoadAcquire (type_at values 0) (reg_at values 1) (reg_at values 2) (flags_at values 3)
memory_of memory.AtomicCAS values =
    insts.AtomicCAS (reg_at values 0) (reg_at values 1) (reg_at values 2) (reg_at values 3)
    (type_at values 4) (flags_at values 5)
memory_of memory.AtomicRMW values =
    insts.AtomicRMW (type_at values 0) (atomic_rmw_op_at values 1) (reg_at values 2)
    (reg_at values 3) (reg_at values 4) (flags_at values 5)
memory_of memory.LoadAddr values = insts.LoadAddr (reg_at values 0) (mode_at values 1)

abbrev pub pair_of : PairName → Reg → Reg → PairAMode → Option TrapCode → Inst
pair_of pair.StoreP64 rt rt2 mem flags = insts.StoreP64 rt rt2 mem flags
pair_of pair.LoadP64 rt rt2 mem flags = insts.LoadP64 rt rt2 mem flags
pair_of pair.FpuStoreP64 rt rt2 mem flags = insts.FpuStoreP64 rt rt2 mem flags
pair_of pair.FpuLoadP64 rt rt2 mem flags = insts.FpuLoadP64 rt rt2 mem flags
pair_of pair.FpuStoreP128 rt rt2 mem flags = insts.FpuStoreP128 rt rt2 mem flags
pair_of pair.FpuLoadP128 rt rt2 mem flags = insts.FpuLoadP128 rt rt2 mem flags
