-- Written by `python3 tools/instructions.py` from tables/instructions.txt.
-- What must hold of the operands of an instruction that is no call, and no load or store of one
-- register.
use Rattle.std.specs.Prelude.{Bool, true, ◌&&◌}
use Rattle.a64_base.specs.declared.ir_type.IrType.TheVariants.{F64, I8X16}
use Rattle.a64_inst.specs.declared.emission.EmitFlags.{EmitFlags}
use Rattle.a64_inst.specs.declared.frame.FrameLayout.{FrameLayout}
use Rattle.a64_operand.specs.declared.virtuals.VirtualRegisters.{VirtualRegisters}
use Rattle.a64_inst.specs.declared.inst.Inst.{Inst}
use Rattle.a64_inst.specs.declared.inst.Inst.TheVariants as insts
use Rattle.a64_operand.specs.Operands.{is_any_register, is_register, is_register_or_zero}
use Rattle.a64_operand.specs.AtomicOperands as atomic
use Rattle.a64_inst.specs.ControlOperands as control
use Rattle.a64_inst.specs.MemoryOperands as memory
use Rattle.a64_inst.specs.SequenceOperands as sequence
use Rattle.a64_operand.specs.VectorOperands as vector
use Rattle.a64_inst.specs.Groups.{group_of}
use Rattle.a64_inst.specs.PlainWords.{fields_fit, is_plain}
use Rattle.a64_inst.specs.Sheets.{has_rest, sheet}

-- they are judged by the frame, the settings, and whether registers may be virtual
module _ (frame : FrameLayout) (flags : EmitFlags) (virtuals : VirtualRegisters) where
  abbrev pub has_plain_operands : Inst → Bool
  has_plain_operands (insts.Udf trap_code) = true
  has_plain_operands (insts.CondBr taken not_taken kind) =
      control.are_cond_br_operands virtuals taken not_taken kind
  has_plain_operands (insts.TrapIf kind trap_code) = control.is_test virtuals kind
  has_plain_operands insts.Brk = true
  has_plain_operands insts.Nop4 = true
  has_plain_operands (insts.MovToNZCV rn) = is_register_or_zero virtuals rn
  has_plain_operands (insts.MovFromNZCV rd) = is_register_or_zero virtuals rd
  has_plain_operands (insts.IndirectBr rn targets) = is_register_or_zero virtuals rn
  has_plain_operands insts.Ret = true
  has_plain_operands (insts.AuthenticatedRet key is_hint) = true
  has_plain_operands (insts.Jump dest) = control.are_jump_operands dest
  has_plain_operands (insts.TestBitAndBranch kind taken not_taken rn bit) =
      control.are_test_bit_operands virtuals taken not_taken rn bit
  has_plain_operands (insts.LabelAddress dst label) = is_register_or_zero virtuals dst
  has_plain_operands insts.Nop0 = true
  has_plain_operands (insts.Word4 value) = true
  has_plain_operands (insts.Word8 value) = true
  has_plain_operands (insts.EmitIsland needed_space) = true
  has_plain_operands (insts.Args args) = sequence.are_args virtuals args
  has_plain_operands (insts.Rets rets) = sequence.are_rets virtuals rets
  has_plain_operands (insts.DummyUse reg) = is_any_register virtuals reg
  has_plain_operands insts.SequencePoint = true
  has_plain_operands (insts.JTSequence default targets ridx rtmp1 rtmp2) =
      sequence.are_table_operands virtuals ridx rtmp1 rtmp2
  has_plain_operands (insts.LoadExtNameGot rd name) = is_register virtuals rd
  has_plain_operands (insts.LoadExtNameNear rd name offset) = is_register virtuals rd
  has_plain_operands (insts.LoadExtNameFar rd name offset) = is_register virtuals rd
  has_plain_operands (insts.StackProbeLoop start end step) =
      sequence.are_probe_operands flags virtuals start end step
  has_plain_operands (insts.AtomicRMWLoop ty op flags addr operand oldval scratch1 scratch2) =
      atomic.are_rmw_loop_operands virtuals ty op addr operand oldval scratch1 scratch2
  has_plain_operands (insts.AtomicCASLoop ty flags addr expected replacement oldval scratch) =
      atomic.are_cas_loop_operands virtuals ty addr expected replacement oldval scratch
  has_plain_operands (insts.VecCSel rd rn rm cond) = vector.are_select_operands virtuals rd rn rm
  has_plain_operands (insts.AtomicCAS128 args) = atomic.are_cas128_operands virtuals args
  has_plain_operands (insts.VecLoadReplicate rd rn size flags) =
      vector.are_replicate_operands virtuals rd rn
  has_plain_operands (insts.StoreRelease access_ty rt rn flags) =
      atomic.are_ordered_operands virtuals access_ty rt rn
  has_plain_operands (insts.LoadAcquire access_ty rt rn flags) =
      atomic.are_ordered_operands virtuals access_ty rt rn
  has_plain_operands (insts.AtomicCAS rd rs rt rn ty flags) =
      atomic.are_cas_operands virtuals rd rs rt rn ty
  has_plain_operands (insts.StoreP64 rt rt2 mem flags) =
      memory.are_pair_operands virtuals rt rt2 mem
  has_plain_operands (insts.LoadP64 rt rt2 mem flags) = memory.are_pair_operands virtuals rt rt2 mem
  has_plain_operands (insts.FpuStoreP64 rt rt2 mem flags) =
      memory.are_float_pair_operands virtuals F64 rt rt2 mem
  has_plain_operands (insts.FpuLoadP64 rt rt2 mem flags) =
      memory.are_float_pair_operands virtuals F64 rt rt2 mem
  has_plain_operands (insts.FpuStoreP128 rt rt2 mem flags) =
      memory.are_float_pair_operands virtuals I8X16 rt rt2 mem
  has_plain_operands (insts.FpuLoadP128 rt rt2 mem flags) =
      memory.are_float_pair_operands virtuals I8X16 rt rt2 mem
  has_plain_operands (insts.AtomicRMW ty op rs rt rn flags) =
      atomic.are_rmw_operands virtuals ty rs rt rn
  has_plain_operands (insts.LoadAddr rd mem) = memory.are_address_operands frame virtuals rd mem
  has_plain_operands inst =
      is_plain (group_of inst) && fields_fit virtuals (sheet inst) (has_rest virtuals inst)
