-- Written by `python3 tools/instructions.py` from tables/instructions.txt.
-- The name and the fields of each instruction.
use Rattle.std.specs.Prelude.{[], ◌∷◌}
use Rattle.a64_inst.specs.declared.inst.Inst.{Inst}
use Rattle.a64_inst.specs.declared.inst.Inst.TheVariants as insts
use Rattle.a64_tokens.specs.declared.value.Value.TheVariants as values
use Rattle.a64_tokens.specs.Fields.{label_text}
use Rattle.a64_tokens.specs.Lists.{list_text}
use Rattle.a64_read.specs.RegisterPairs.{arg_pair_text, ret_pair_text}
use Rattle.a64_text.specs.declared.name.Name.TheVariants as names
use Rattle.a64_text.specs.Parts.{Parts, access_parts, call_parts, pair_parts, return_call_parts}
use Rattle.a64_text.specs.PlainFields.{inst_fields}
use Rattle.a64_text.specs.PlainNames.{plain_name}
use Rattle.a64_text.specs.declared.name.ControlName.TheVariants as control
use Rattle.a64_text.specs.declared.name.SequenceName.TheVariants as sequence
use Rattle.a64_text.specs.declared.name.CallName.TheVariants as call
use Rattle.a64_text.specs.declared.name.PairName.TheVariants as pair
use Rattle.a64_text.specs.declared.name.MemoryName.TheVariants as memory
use Rattle.a64_ops.specs.declared.access.AccessOp.TheVariants as ops

abbrev pub inst_parts : Inst → Parts
inst_parts (insts.Udf trap_code) = record {
  name = names.Control control.Udf;
  fields = values.U8 trap_code.0 ∷ [];
}
inst_parts (insts.CondBr taken not_taken kind) = record {
  name = names.Control control.CondBr;
  fields = values.Target taken ∷ values.Target not_taken ∷ values.CondBrKind kind ∷ [];
}
inst_parts (insts.TrapIf kind trap_code) = record {
  name = names.Control control.TrapIf;
  fields = values.CondBrKind kind ∷ values.U8 trap_code.0 ∷ [];
}
inst_parts insts.Brk = record { name = names.Control control.Brk; fields = [] }
inst_parts (insts.IndirectBr rn targets) = record {
  name = names.Control control.IndirectBr;
  fields = values.Reg rn ∷ values.List (list_text label_text targets) ∷ [];
}
inst_parts insts.Ret = record { name = names.Control control.Ret; fields = [] }
inst_parts (insts.AuthenticatedRet key is_hint) = record {
  name = names.Control control.AuthenticatedRet;
  fields = values.ApiKey key ∷ values.Bool is_hint ∷ [];
}
inst_parts (insts.Jump dest) = record {
  name = names.Control control.Jump;
  fields = values.Target dest ∷ [];
}
inst_parts (insts.TestBitAndBranch kind taken not_taken rn bit) = record {
  name = names.Control control.TestBitAndBranch;
  fields =
      values.TestBitAndBranchKind kind ∷ values.Target taken ∷ values.Target not_taken
      ∷ values.Reg rn ∷ values.U8 bit ∷ [];
}
inst_parts (insts.LabelAddress dst label) = record {
  name = names.Control control.LabelAddress;
  fields = values.Reg dst ∷ values.Label label ∷ [];
}
inst_parts (insts.Word4 value) = record {
  name = names.Control control.Word4;
  fields = values.U32 value ∷ [];
}
inst_parts (insts.Word8 value) = record {
  name = names.Control control.Word8;
  fields = values.U64 value ∷ [];
}
inst_parts (insts.EmitIsland needed_space) = record {
  name = names.Control control.EmitIsland;
  fields = values.U32 needed_space ∷ [];
}
inst_parts (insts.Args args) = record {
  name = names.Sequence sequence.Args;
  fields = values.List (list_text arg_pair_text args) ∷ [];
}
inst_parts (insts.Rets rets) = record {
  name = names.Sequence sequence.Rets;
  fields = values.List (list_text ret_pair_text rets) ∷ [];
}
inst_parts (insts.DummyUse reg) = record {
  name = names.Sequence sequence.DummyUse;
  fields = values.Reg reg ∷ [];
}
inst_parts insts.SequencePoint = record {
  name = names.Sequence sequence.SequencePoint;
  fields = [];
}
inst_parts (insts.JTSequence default targets ridx rtmp1 rtmp2) = record {
  name = names.Sequence sequence.JTSequence;
  fields =
      values.Label default ∷ values.List (list_text label_text targets) ∷ values.Reg ridx
      ∷ values.Reg rtmp1 ∷ values.Reg rtmp2 ∷ [];
}
inst_parts (insts.LoadExtNameGot rd name) = record {
  name = names.Sequence sequence.LoadExtNameGot;
  fields = values.Reg rd ∷ values.U32 name.0 ∷ [];
}
inst_parts (insts.LoadExtNameNear rd name offset) = record {
  name = names.Sequence sequence.LoadExtNameNear;
  fields = values.Reg rd ∷ values.U32 name.0 ∷ values.I64 offset ∷ [];
}
inst_parts (insts.LoadExtNameFar rd name offset) = record {
  name = names.Sequence sequence.LoadExtNameFar;
  fields = values.Reg rd ∷ values.U32 name.0 ∷ values.I64 offset ∷ [];
}
inst_parts (insts.StackProbeLoop start end step) = record {
  name = names.Sequence sequence.StackProbeLoop;
  fields = values.Reg start ∷ values.Reg end ∷ values.Imm12 step ∷ [];
}
inst_parts (insts.VecCSel rd rn rm cond) = record {
  name = names.Sequence sequence.VecCSel;
  fields = values.Reg rd ∷ values.Reg rn ∷ values.Reg rm ∷ values.Cond cond ∷ [];
}
inst_parts (insts.Call info) = call_parts call.Call (values.U32 info.dest.0) info
inst_parts (insts.CallInd info) = call_parts call.CallInd (values.Reg info.dest) info
inst_parts (insts.ReturnCall info) = return_call_parts call.ReturnCall (values.U32 info.dest.0) info
inst_parts (insts.ReturnCallInd info) =
    return_call_parts call.ReturnCallInd (values.Reg info.dest) info
inst_parts (insts.StoreP64 rt rt2 mem flags) = pair_parts pair.StoreP64 rt rt2 mem flags
inst_parts (insts.LoadP64 rt rt2 mem flags) = pair_parts pair.LoadP64 rt rt2 mem flags
inst_parts (insts.FpuStoreP64 rt rt2 mem flags) = pair_parts pair.FpuStoreP64 rt rt2 mem flags
inst_parts (insts.FpuLoadP64 rt rt2 mem flags) = pair_parts pair.FpuLoadP64 rt rt2 mem flags
inst_parts (insts.FpuStoreP128 rt rt2 mem flags) = pair_parts pair.FpuStoreP128 rt rt2 mem flags
inst_parts (insts.FpuLoadP128 rt rt2 mem flags) = pair_parts pair.FpuLoadP128 rt rt2 mem flags
inst_parts (insts.AtomicRMWLoop ty op flags addr operand oldval scratch1 scratch2) = record {
  name = names.Memory memory.AtomicRMWLoop;
  fields =
      values.Type ty ∷ values.AtomicRmwLoopOp op ∷ values.Flags flags ∷ values.Reg addr
      ∷ values.Reg operand ∷ values.Reg oldval ∷ values.Reg scratch1 ∷ values.Reg scratch2 ∷ [];
}
inst_parts (insts.AtomicCASLoop ty flags addr expected replacement oldval scratch) = record {
  name = names.Memory memory.AtomicCASLoop;
  fields =
      values.Type ty ∷ values.Flags flags ∷ values.Reg addr ∷ values.Reg expected
      ∷ values.Reg replacement ∷ values.Reg oldval ∷ values.Reg scratch ∷ [];
}
inst_parts (insts.AtomicCAS128 args) = record {
  name = names.Memory memory.AtomicCAS128;
  fields =
      values.Reg args.rd_lo ∷ values.Reg args.rd_hi ∷ values.Reg args.rs_lo ∷ values.Reg args.rs_hi
      ∷ values.Reg args.rt_lo ∷ values.Reg args.rt_hi ∷ values.Reg args.rn ∷ values.Flags args.flags
      ∷ [];
}
inst_parts (insts.VecLoadReplicate rd rn size flags) = record {
  name = names.Memory memory.VecLoadReplicate;
  fields = values.Reg rd ∷ values.Reg rn ∷ values.VectorSize size ∷ values.Flags flags ∷ [];
}
inst_parts (insts.StoreRelease access_ty rt rn flags) = record {
  name = names.Memory memory.StoreRelease;
  fields = values.Type access_ty ∷ values.Reg rt ∷ values.Reg rn ∷ values.Flags flags ∷ [];
}
inst_parts (insts.LoadAcquire access_ty rt rn flags) = record {
  name = names.Memory memory.LoadAcquire;
  fields = values.Type access_ty ∷ values.Reg rt ∷ values.Reg rn ∷ values.Flags flags ∷ [];
}
inst_parts (insts.AtomicCAS rd rs rt rn ty flags) = record {
  name = names.Memory memory.AtomicCAS;
  fields =
      values.Reg rd ∷ values.Reg rs ∷ values.Reg rt ∷ values.Reg rn ∷ values.Type ty
      ∷ values.Flags flags ∷ [];
}
inst_parts (insts.AtomicRMW ty op rs rt rn flags) = record {
  name = names.Memory memory.AtomicRMW;
  fields =
      values.Type ty ∷ values.AtomicRmwOp op ∷ values.Reg rs ∷ values.Reg rt ∷ values.Reg rn
      ∷ values.Flags flags ∷ [];
}
inst_parts (insts.LoadAddr rd mem) = record {
  name = names.Memory memory.LoadAddr;
  fields = values.Reg rd ∷ values.Mode mem ∷ [];
}
inst_parts (insts.ULoad8 rd mem flags) = access_parts ops.ULoad8 rd mem flags
inst_parts (insts.SLoad8 rd mem flags) = access_parts ops.SLoad8 rd mem flags
inst_parts (insts.ULoad16 rd mem flags) = access_parts ops.ULoad16 rd mem flags
inst_parts (insts.SLoad16 rd mem flags) = access_parts ops.SLoad16 rd mem flags
inst_parts (insts.ULoad32 rd mem flags) = access_parts ops.ULoad32 rd mem flags
inst_parts (insts.SLoad32 rd mem flags) = access_parts ops.SLoad32 rd mem flags
inst_parts (insts.ULoad64 rd mem flags) = access_parts ops.ULoad64 rd mem flags
inst_parts (insts.FpuLoad16 rd mem flags) = access_parts ops.FpuLoad16 rd mem flags
inst_parts (insts.FpuLoad32 rd mem flags) = access_parts ops.FpuLoad32 rd mem flags
inst_parts (insts.FpuLoad64 rd mem flags) = access_parts ops.FpuLoad64 rd mem flags
inst_parts (insts.FpuLoad128 rd mem flags) = access_parts ops.FpuLoad128 rd mem flags
inst_parts (insts.Store8 rd mem flags) = access_parts ops.Store8 rd mem flags
inst_parts (insts.Store16 rd mem flags) = access_parts ops.Store16 rd mem flags
inst_parts (insts.Store32 rd mem flags) = access_parts ops.Store32 rd mem flags
inst_parts (insts.Store64 rd mem flags) = access_parts ops.Store64 rd mem flags
inst_parts (insts.FpuStore16 rd mem flags) = access_parts ops.FpuStore16 rd mem flags
inst_parts (insts.FpuStore32 rd mem flags) = access_parts ops.FpuStore32 rd mem flags
inst_parts (insts.FpuStore64 rd mem flags) = access_parts ops.FpuStore64 rd mem flags
inst_parts (insts.FpuStore128 rd mem flags) = access_parts ops.FpuStore128 rd mem flags
inst_parts inst = record { name = plain_name inst; fields = inst_fields inst }
