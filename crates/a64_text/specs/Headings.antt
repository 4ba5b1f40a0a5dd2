-- Written by `python3 tools/instructions.py` from tables/instructions.txt.
-- The names of instructions as texts, and their headings: each with the kinds of the fields behind
-- it.
use Rattle.std.specs.Prelude.{ℕ, List, [], ◌∷◌, codes}
use Rattle.a64_read.specs.Heading.{Heading}
use Rattle.a64_tokens.specs.declared.value.Kind.TheVariants as kinds
use Rattle.a64_text.specs.declared.name.ImmediateName.{ImmediateName}
use Rattle.a64_text.specs.declared.name.ImmediateName.TheVariants as immediate
use Rattle.a64_text.specs.declared.name.RegisterName.{RegisterName}
use Rattle.a64_text.specs.declared.name.RegisterName.TheVariants as register
use Rattle.a64_text.specs.declared.name.FloatName.{FloatName}
use Rattle.a64_text.specs.declared.name.FloatName.TheVariants as float
use Rattle.a64_text.specs.declared.name.VectorName.{VectorName}
use Rattle.a64_text.specs.declared.name.VectorName.TheVariants as vector
use Rattle.a64_text.specs.declared.name.VectorMoveName.{VectorMoveName}
use Rattle.a64_text.specs.declared.name.VectorMoveName.TheVariants as vector_move
use Rattle.a64_text.specs.declared.name.SystemName.{SystemName}
use Rattle.a64_text.specs.declared.name.SystemName.TheVariants as system
use Rattle.a64_text.specs.declared.name.ControlName.{ControlName}
use Rattle.a64_text.specs.declared.name.ControlName.TheVariants as control
use Rattle.a64_text.specs.declared.name.SequenceName.{SequenceName}
use Rattle.a64_text.specs.declared.name.SequenceName.TheVariants as sequence
use Rattle.a64_text.specs.declared.name.CallName.{CallName}
use Rattle.a64_text.specs.declared.name.CallName.TheVariants as call
use Rattle.a64_text.specs.declared.name.PairName.{PairName}
use Rattle.a64_text.specs.declared.name.PairName.TheVariants as pair
use Rattle.a64_text.specs.declared.name.MemoryName.{MemoryName}
use Rattle.a64_text.specs.declared.name.MemoryName.TheVariants as memory
use Rattle.a64_ops.specs.declared.access.AccessOp.{AccessOp}
use Rattle.a64_ops.specs.declared.access.AccessOp.TheVariants as ops
use Rattle.a64_text.specs.NameInsts.{float_of, immediate_of, register_of, system_of}
use Rattle.a64_text.specs.NameInsts.{vector_move_of, vector_of}
use Rattle.a64_text.specs.PlainFields.{plain_heading}

abbrev pub immediate_text : ImmediateName → List ℕ
immediate_text immediate.Adr = codes "Adr"
immediate_text immediate.Adrp = codes "Adrp"
immediate_text immediate.AluRRImm12 = codes "AluRRImm12"
immediate_text immediate.AluRRImmLogic = codes "AluRRImmLogic"
immediate_text immediate.MovWide = codes "MovWide"
immediate_text immediate.MovK = codes "MovK"
immediate_text immediate.AluRRImmShift = codes "AluRRImmShift"
immediate_text immediate.Extend = codes "Extend"
immediate_text immediate.BitfieldMove = codes "BitfieldMove"
immediate_text immediate.BitfieldMoveMod = codes "BitfieldMoveMod"

abbrev pub immediate_heading : ImmediateName → Heading
immediate_heading immediate.AluRRImmLogic = record {
  text = immediate_text immediate.AluRRImmLogic;
  kinds = kinds.AluOp ∷ kinds.Size ∷ kinds.Reg ∷ kinds.Reg ∷ kinds.U64 ∷ [];
}
immediate_heading name = plain_heading (immediate_text name) (immediate_of name [])

abbrev pub register_text : RegisterName → List ℕ
register_text register.AluRRR = codes "AluRRR"
register_text register.BitRR = codes "BitRR"
register_text register.AluRRRShift = codes "AluRRRShift"
register_text register.Mov = codes "Mov"
register_text register.MovFromPReg = codes "MovFromPReg"
register_text register.MovToPReg = codes "MovToPReg"
register_text register.AluRRRExtend = codes "AluRRRExtend"
register_text register.CCmp = codes "CCmp"
register_text register.CCmpImm = codes "CCmpImm"
register_text register.CSel = codes "CSel"
register_text register.CSet = codes "CSet"
register_text register.CSetm = codes "CSetm"
register_text register.CSNeg = codes "CSNeg"
register_text register.AluRRRR = codes "AluRRRR"

abbrev pub register_heading : RegisterName → Heading
register_heading name = plain_heading (register_text name) (register_of name [])

abbrev pub float_text : FloatName → List ℕ
float_text float.FpuMoveFromVec = codes "FpuMoveFromVec"
float_text float.FpuRRI = codes "FpuRRI"
float_text float.FpuRRIMod = codes "FpuRRIMod"
float_text float.FpuMove128 = codes "FpuMove128"
float_text float.FpuToInt = codes "FpuToInt"
float_text float.IntToFpu = codes "IntToFpu"
float_text float.MovToFpu = codes "MovToFpu"
float_text float.FpuMove32 = codes "FpuMove32"
float_text float.FpuMove64 = codes "FpuMove64"
float_text float.FpuExtend = codes "FpuExtend"
float_text float.FpuRR = codes "FpuRR"
float_text float.FpuRound = codes "FpuRound"
float_text float.FpuCmp = codes "FpuCmp"
float_text float.FpuMoveFPImm = codes "FpuMoveFPImm"
float_text float.FpuRRR = codes "FpuRRR"
float_text float.FpuCSel16 = codes "FpuCSel16"
float_text float.FpuCSel32 = codes "FpuCSel32"
float_text float.FpuCSel64 = codes "FpuCSel64"
float_text float.FpuRRRR = codes "FpuRRRR"

abbrev pub float_heading : FloatName → Heading
float_heading float.FpuMoveFPImm = record {
  text = float_text float.FpuMoveFPImm;
  kinds = kinds.Reg ∷ kinds.U8 ∷ kinds.ScalarSize ∷ [];
}
float_heading name = plain_heading (float_text name) (float_of name [])

abbrev pub vector_text : VectorName → List ℕ
vector_text vector.VecRRPair = codes "VecRRPair"
vector_text vector.VecMisc = codes "VecMisc"
vector_text vector.VecRRLong = codes "VecRRLong"
vector_text vector.VecRRNarrowLow = codes "VecRRNarrowLow"
vector_text vector.VecRRNarrowHigh = codes "VecRRNarrowHigh"
vector_text vector.VecRRPairLong = codes "VecRRPairLong"
vector_text vector.VecLanes = codes "VecLanes"
vector_text vector.VecRRRLong = codes "VecRRRLong"
vector_text vector.VecRRRLongMod = codes "VecRRRLongMod"
vector_text vector.VecRRR = codes "VecRRR"
vector_text vector.VecRRRMod = codes "VecRRRMod"
vector_text vector.VecExtend = codes "VecExtend"
vector_text vector.VecShiftImm = codes "VecShiftImm"
vector_text vector.VecShiftImmMod = codes "VecShiftImmMod"
vector_text vector.VecFmlaElem = codes "VecFmlaElem"

abbrev pub vector_heading : VectorName → Heading
vector_heading name = plain_heading (vector_text name) (vector_of name [])

abbrev pub vector_move_text : VectorMoveName → List ℕ
vector_move_text vector_move.VecTbl = codes "VecTbl"
vector_move_text vector_move.VecTblExt = codes "VecTblExt"
vector_move_text vector_move.VecTbl2 = codes "VecTbl2"
vector_move_text vector_move.VecTbl2Ext = codes "VecTbl2Ext"
vector_move_text vector_move.VecExtract = codes "VecExtract"
vector_move_text vector_move.VecDupFromFpu = codes "VecDupFromFpu"
vector_move_text vector_move.VecDup = codes "VecDup"
vector_move_text vector_move.MovFromVecSigned = codes "MovFromVecSigned"
vector_move_text vector_move.MovFromVec = codes "MovFromVec"
vector_move_text vector_move.MovToVec = codes "MovToVec"
vector_move_text vector_move.VecMovElement = codes "VecMovElement"
vector_move_text vector_move.VecDupFPImm = codes "VecDupFPImm"
vector_move_text vector_move.VecDupImm = codes "VecDupImm"

abbrev pub vector_move_heading : VectorMoveName → Heading
vector_move_heading vector_move.VecDupFPImm = record {
  text = vector_move_text vector_move.VecDupFPImm;
  kinds = kinds.Reg ∷ kinds.U8 ∷ kinds.VectorSize ∷ [];
}
vector_move_heading vector_move.VecDupImm = record {
  text = vector_move_text vector_move.VecDupImm;
  kinds = kinds.Reg ∷ kinds.MovImm ∷ kinds.Bool ∷ kinds.VectorSize ∷ [];
}
vector_move_heading name = plain_heading (vector_move_text name) (vector_move_of name [])

abbrev pub system_text : SystemName → List ℕ
system_text system.Xpaclri = codes "Xpaclri"
system_text system.Csdb = codes "Csdb"
system_text system.Paci = codes "Paci"
system_text system.Bti = codes "Bti"
system_text system.Fence = codes "Fence"
system_text system.Nop4 = codes "Nop4"
system_text system.MovToNZCV = codes "MovToNZCV"
system_text system.MovFromNZCV = codes "MovFromNZCV"
system_text system.Nop0 = codes "Nop0"

abbrev pub system_heading : SystemName → Heading
system_heading name = plain_heading (system_text name) (system_of name [])

abbrev pub control_heading : ControlName → Heading
control_heading control.Udf = record { text = codes "Udf"; kinds = kinds.U8 ∷ [] }
control_heading control.CondBr = record {
  text = codes "CondBr";
  kinds = kinds.Target ∷ kinds.Target ∷ kinds.CondBrKind ∷ [];
}
control_heading control.TrapIf = record {
  text = codes "TrapIf";
  kinds = kinds.CondBrKind ∷ kinds.U8 ∷ [];
}
control_heading control.Brk = record { text = codes "Brk"; kinds = [] }
control_heading control.IndirectBr = record {
  text = codes "IndirectBr";
  kinds = kinds.Reg ∷ kinds.List ∷ [];
}
control_heading control.Ret = record { text = codes "Ret"; kinds = [] }
control_heading control.AuthenticatedRet = record {
  text = codes "AuthenticatedRet";
  kinds = kinds.ApiKey ∷ kinds.Bool ∷ [];
}
control_heading control.Jump = record { text = codes "Jump"; kinds = kinds.Target ∷ [] }
control_heading control.TestBitAndBranch = record {
  text = codes "TestBitAndBranch";
  kinds = kinds.TestBitAndBranchKind ∷ kinds.Target ∷ kinds.Target ∷ kinds.Reg ∷ kinds.U8 ∷ [];
}
control_heading control.LabelAddress = record {
  text = codes "LabelAddress";
  kinds = kinds.Reg ∷ kinds.Label ∷ [];
}
control_heading control.Word4 = record { text = codes "Word4"; kinds = kinds.U32 ∷ [] }
control_heading control.Word8 = record { text = codes "Word8"; kinds = kinds.U64 ∷ [] }
control_heading control.EmitIsland = record { text = codes "EmitIsland"; kinds = kinds.U32 ∷ [] }

abbrev pub sequence_heading : SequenceName → Heading
sequence_heading sequence.Args = record { text = codes "Args"; kinds = kinds.List ∷ [] }
sequence_heading sequence.Rets = record { text = codes "Rets"; kinds = kinds.List ∷ [] }
sequence_heading sequence.DummyUse = record { text = codes "DummyUse"; kinds = kinds.Reg ∷ [] }
sequence_heading sequence.SequencePoint = record { text = codes "SequencePoint"; kinds = [] }
sequence_heading sequence.JTSequence = record {
  text = codes "JTSequence";
  kinds = kinds.Label ∷ kinds.List ∷ kinds.Reg ∷ kinds.Reg ∷ kinds.Reg ∷ [];
}
sequence_heading sequence.LoadExtNameGot = record {
  text = codes "LoadExtNameGot";
  kinds = kinds.Reg ∷ kinds.U32 ∷ [];
}
sequence_heading sequence.LoadExtNameNear = record {
  text = codes "LoadExtNameNear";
  kinds = kinds.Reg ∷ kinds.U32 ∷ kinds.I64 ∷ [];
}
sequence_heading sequence.LoadExtNameFar = record {
  text = codes "LoadExtNameFar";
  kinds = kinds.Reg ∷ kinds.U32 ∷ kinds.I64 ∷ [];
}
sequence_heading sequence.StackProbeLoop = record {
  text = codes "StackProbeLoop";
  kinds = kinds.Reg ∷ kinds.Reg ∷ kinds.Imm12 ∷ [];
}
sequence_heading sequence.VecCSel = record {
  text = codes "VecCSel";
  kinds = kinds.Reg ∷ kinds.Reg ∷ kinds.Reg ∷ kinds.Cond ∷ [];
}

abbrev pub call_heading : CallName → Heading
call_heading call.Call = record {
  text = codes "Call";
  kinds =
      kinds.U32 ∷ kinds.List ∷ kinds.List ∷ kinds.List ∷ kinds.Convention ∷ kinds.Convention
      ∷ kinds.U32 ∷ kinds.Bool ∷ kinds.Map ∷ [];
}
call_heading call.CallInd = record {
  text = codes "CallInd";
  kinds =
      kinds.Reg ∷ kinds.List ∷ kinds.List ∷ kinds.List ∷ kinds.Convention ∷ kinds.Convention
      ∷ kinds.U32 ∷ kinds.Bool ∷ kinds.Map ∷ [];
}
call_heading call.ReturnCall = record {
  text = codes "ReturnCall";
  kinds = kinds.U32 ∷ kinds.List ∷ kinds.U32 ∷ kinds.Key ∷ kinds.Bool ∷ [];
}
call_heading call.ReturnCallInd = record {
  text = codes "ReturnCallInd";
  kinds = kinds.Reg ∷ kinds.List ∷ kinds.U32 ∷ kinds.Key ∷ kinds.Bool ∷ [];
}

abbrev pub pair_text : PairName → List ℕ
pair_text pair.StoreP64 = codes "StoreP64"
pair_text pair.LoadP64 = codes "LoadP64"
pair_text pair.FpuStoreP64 = codes "FpuStoreP64"
pair_text pair.FpuLoadP64 = codes "FpuLoadP64"
pair_text pair.FpuStoreP128 = codes "FpuStoreP128"
pair_text pair.FpuLoadP128 = codes "FpuLoadP128"

abbrev pub pair_heading : PairName → Heading
pair_heading name = record {
  text = pair_text name;
  kinds = kinds.Reg ∷ kinds.Reg ∷ kinds.PairMode ∷ kinds.Flags ∷ [];
}

abbrev pub memory_heading : MemoryName → Heading
memory_heading memory.AtomicRMWLoop = record {
  text = codes "AtomicRMWLoop";
  kinds =
      kinds.Type ∷ kinds.AtomicRmwLoopOp ∷ kinds.Flags ∷ kinds.Reg ∷ kinds.Reg ∷ kinds.Reg
      ∷ kinds.Reg ∷ kinds.Reg ∷ [];
}
memory_heading memory.AtomicCASLoop = record {
  text = codes "AtomicCASLoop";
  kinds = kinds.Type ∷ kinds.Flags ∷ kinds.Reg ∷ kinds.Reg ∷ kinds.Reg ∷ kinds.Reg ∷ kinds.Reg ∷ [];
}
memory_heading memory.AtomicCAS128 = record {
  text = codes "AtomicCAS128";
  kinds =
      kinds.Reg ∷ kinds.Reg ∷ kinds.Reg ∷ kinds.Reg ∷ kinds.Reg ∷ kinds.Reg ∷ kinds.Reg
      ∷ kinds.Flags ∷ [];
}
memory_heading memory.VecLoadReplicate = record {
  text = codes "VecLoadReplicate";
  kinds = kinds.Reg ∷ kinds.Reg ∷ kinds.VectorSize ∷ kinds.Flags ∷ [];
}
memory_heading memory.StoreRelease = record {
  text = codes "StoreRelease";
  kinds = kinds.Type ∷ kinds.Reg ∷ kinds.Reg ∷ kinds.Flags ∷ [];
}
memory_heading memory.LoadAcquire = record {
  text = codes "LoadAcquire";
  kinds = kinds.Type ∷ kinds.Reg ∷ kinds.Reg ∷ kinds.Flags ∷ [];
}
memory_heading memory.AtomicCAS = record {
  text = codes "AtomicCAS";
  kinds = kinds.Reg ∷ kinds.Reg ∷ kinds.Reg ∷ kinds.Reg ∷ kinds.Type ∷ kinds.Flags ∷ [];
}
memory_heading memory.AtomicRMW = record {
  text = codes "AtomicRMW";
  kinds = kinds.Type ∷ kinds.AtomicRmwOp ∷ kinds.Reg ∷ kinds.Reg ∷ kinds.Reg ∷ kinds.Flags ∷ [];
}
memory_heading memory.LoadAddr = record {
  text = codes "LoadAddr";
  kinds = kinds.Reg ∷ kinds.Mode ∷ [];
}

abbrev pub access_text : AccessOp → List ℕ
access_text ops.ULoad8 = codes "ULoad8"
access_text ops.SLoad8 = codes "SLoad8"
access_text ops.ULoad16 = codes "ULoad16"
access_text ops.SLoad16 = codes "SLoad16"
access_text ops.ULoad32 = codes "ULoad32"
access_text ops.SLoad32 = codes "SLoad32"
access_text ops.ULoad64 = codes "ULoad64"
access_text ops.FpuLoad16 = codes "FpuLoad16"
access_text ops.FpuLoad32 = codes "FpuLoad32"
access_text ops.FpuLoad64 = codes "FpuLoad64"
access_text ops.FpuLoad128 = codes "FpuLoad128"
access_text ops.Store8 = codes "Store8"
access_text ops.Store16 = codes "Store16"
access_text ops.Store32 = codes "Store32"
access_text ops.Store64 = codes "Store64"
access_text ops.FpuStore16 = codes "FpuStore16"
access_text ops.FpuStore32 = codes "FpuStore32"
access_text ops.FpuStore64 = codes "FpuStore64"
access_text ops.FpuStore128 = codes "FpuStore128"

abbrev pub access_heading : AccessOp → Heading
access_heading name = record {
  text = access_text name;
  kinds = kinds.Reg ∷ kinds.Mode ∷ kinds.Flags ∷ [];
}
