-- The fields of entries, and their texts.
use Rattle.std.specs.Prelude.{ℕ, ℤ, List, ◌≡◌, Bool, Option, Some, IfSome}
use Rattle.std.specs.Fmt.{decimal, signed_decimal}
use Rattle.a64_ops.specs.declared.operator.ALUOp.{ALUOp}
use Rattle.a64_ops.specs.declared.operator.ALUOp3.{ALUOp3}
use Rattle.a64_ops.specs.declared.operator.BitOp.{BitOp}
use Rattle.a64_ops.specs.declared.operator.AtomicRMWOp.{AtomicRMWOp}
use Rattle.a64_ops.specs.declared.operator.AtomicRMWLoopOp.{AtomicRMWLoopOp}
use Rattle.a64_ops.specs.declared.operator.BfmOp.{BfmOp}
use Rattle.a64_ops.specs.declared.operator.MoveWideOp.{MoveWideOp}
use Rattle.a64_ops.specs.declared.float.FPUOp1.{FPUOp1}
use Rattle.a64_ops.specs.declared.float.FPUOp2.{FPUOp2}
use Rattle.a64_ops.specs.declared.float.FPUOp3.{FPUOp3}
use Rattle.a64_ops.specs.declared.float.FpuToIntOp.{FpuToIntOp}
use Rattle.a64_ops.specs.declared.float.IntToFpuOp.{IntToFpuOp}
use Rattle.a64_ops.specs.declared.float.FpuRoundMode.{FpuRoundMode}
use Rattle.a64_ops.specs.declared.system.BranchTargetType.{BranchTargetType}
use Rattle.a64_ops.specs.declared.vector.VecALUOp.{VecALUOp}
use Rattle.a64_ops.specs.declared.vector.VecALUModOp.{VecALUModOp}
use Rattle.a64_ops.specs.declared.vector.VecMisc2.{VecMisc2}
use Rattle.a64_ops.specs.declared.vector.VecLanesOp.{VecLanesOp}
use Rattle.a64_ops.specs.declared.vector.VecExtendOp.{VecExtendOp}
use Rattle.a64_ops.specs.declared.vector.VecRRLongOp.{VecRRLongOp}
use Rattle.a64_ops.specs.declared.vector.VecRRNarrowOp.{VecRRNarrowOp}
use Rattle.a64_ops.specs.declared.vector.VecPairOp.{VecPairOp}
use Rattle.a64_ops.specs.declared.vector.VecRRPairLongOp.{VecRRPairLongOp}
use Rattle.a64_ops.specs.declared.vector.VecRRRLongOp.{VecRRRLongOp}
use Rattle.a64_ops.specs.declared.vector.VecRRRLongModOp.{VecRRRLongModOp}
use Rattle.a64_ops.specs.declared.vector.VecShiftImmOp.{VecShiftImmOp}
use Rattle.a64_ops.specs.declared.vector.VecShiftImmModOp.{VecShiftImmModOp}
use Rattle.a64_base.specs.declared.size.OperandSize.{OperandSize}
use Rattle.a64_base.specs.declared.size.ScalarSize.{ScalarSize}
use Rattle.a64_base.specs.declared.size.VectorSize.{VectorSize}
use Rattle.a64_base.specs.declared.reg.Reg.{Reg}
use Rattle.a64_base.specs.RegisterNumbers.{RealRegister}
use Rattle.a64_imms.specs.declared.imm12.Imm12.{Imm12}
use Rattle.a64_imms.specs.declared.move_wide.MoveWideConst.{MoveWideConst}
use Rattle.a64_imms.specs.declared.unsigned.ImmShift.{ImmShift}
use Rattle.a64_imms.specs.declared.unsigned.UImm5.{UImm5}
use Rattle.a64_imms.specs.declared.unsigned.UImm6.{UImm6}
use Rattle.a64_base.specs.ShiftParts.{Shift}
use Rattle.a64_base.specs.declared.shift.ExtendOp.{ExtendOp}
use Rattle.a64_base.specs.declared.cond.Cond.{Cond}
use Rattle.a64_base.specs.declared.cond.CondBrKind.{CondBrKind}
use Rattle.a64_base.specs.declared.cond.TestBitAndBranchKind.{TestBitAndBranchKind}
use Rattle.a64_imms.specs.declared.flags.NZCV.{NZCV}
use Rattle.a64_base.specs.declared.target.BranchTarget.{BranchTarget}
use Rattle.a64_base.specs.declared.entity.MachLabel.{MachLabel}
use Rattle.a64_tokens.specs.declared.emit_flag.EmitFlag.{EmitFlag}
use Rattle.a64_tokens.specs.declared.frame_field.FrameField.{FrameField}
use Rattle.a64_base.specs.declared.convention.CallConv.{CallConv}
use Rattle.a64_base.specs.declared.entity.TrapCode.{TrapCode}
use Rattle.a64_base.specs.declared.entity.UserStackMap.{UserStackMap}
use Rattle.a64_base.specs.declared.key.APIKey.{APIKey}
use Rattle.a64_base.specs.declared.ir_type.IrType.{IrType}
use Rattle.a64_imms.specs.declared.offset.SImm9.{SImm9}
use Rattle.a64_operand.specs.declared.fpu_op.FPUOpRI.{FPUOpRI}
use Rattle.a64_operand.specs.declared.fpu_op.FPUOpRIMod.{FPUOpRIMod}
use Rattle.a64_inst.specs.declared.mode.AMode.{AMode}
use Rattle.a64_tokens.specs.declared.label_name.MemLabelName.{MemLabelName}
use Rattle.a64_tokens.specs.declared.value.WrittenMovImm.{WrittenMovImm}
use Rattle.a64_tokens.specs.declared.pair_mode.WrittenPairMode.{WrittenPairMode}
use Rattle.a64_tokens.specs.declared.vec_op.VecOp.TheVariants as vec_ops
use Rattle.a64_tokens.specs.declared.vec_op.VecOpKind.TheVariants as vec_kinds
use Rattle.a64_tokens.specs.declared.value.Kind.{Kind}
use Rattle.a64_tokens.specs.declared.value.Kind.TheVariants as kinds
use Rattle.a64_tokens.specs.declared.value.Value.{Value}
use Rattle.a64_tokens.specs.declared.value.Value.TheVariants as values
use Rattle.a64_tokens.specs.Reads.{Always, IsU64, IsI32}
use Rattle.a64_tokens.specs.Operators.{alu_op3_text, alu_op_text, atomic_rmw_loop_op_text}
use Rattle.a64_tokens.specs.Operators.{atomic_rmw_op_text, bfm_op_text, bit_op_text}
use Rattle.a64_tokens.specs.Operators.{branch_target_type_text, emit_flag_text, frame_field_text}
use Rattle.a64_tokens.specs.Operators.{move_wide_op_text, test_bit_text}
use Rattle.a64_read.specs.Branches.{cond_br_text, IsCondBr}
use Rattle.a64_tokens.specs.Conventions.{api_key_text, convention_text, key_text}
use Rattle.a64_tokens.specs.FloatOperators.{fpu_op1_text, fpu_op2_text, fpu_op3_text}
use Rattle.a64_tokens.specs.FloatOperators.{fpu_round_mode_text, fpu_to_int_op_text}
use Rattle.a64_tokens.specs.FloatOperators.{int_to_fpu_op_text}
use Rattle.a64_read.specs.FloatShifts.{fpu_op_ri_mod_text, fpu_op_ri_text, IsFpuOpRI, IsFpuOpRIMod}
use Rattle.a64_tokens.specs.Lists.{same_text}
use Rattle.a64_read.specs.Modes.{mode_text, IsMode, pair_text, IsPairMode}
use Rattle.a64_read.specs.MovImms.{mov_imm_text, IsWrittenMovImm}
use Rattle.a64_read.specs.Parts.{part_text, IsPart}
use Rattle.a64_read.specs.VecOps.{vec_op_kind, vec_op_text}
use Rattle.a64_tokens.specs.Fields.{flags_text, imm12_text, imm_shift_text, label_text, map_text}
use Rattle.a64_tokens.specs.Fields.{nzcv_text, preg_text, scalar_size_text, shift_text, target_text}
use Rattle.a64_tokens.specs.Fields.{uimm5_text, uimm6_text, vector_size_text, wide_text, HasNo}
use Rattle.a64_tokens.specs.Fields.{IsFlags, IsImm12, IsImmShift, IsLabel, IsMapNumber, IsPReg}
use Rattle.a64_tokens.specs.Fields.{IsShift, IsTarget, IsUImm6, IsWide}

abbrev pub kind_of : Value → Kind
kind_of (values.AluOp x) = kinds.AluOp
kind_of (values.AluOp3 x) = kinds.AluOp3
kind_of (values.BitOp x) = kinds.BitOp
kind_of (values.BfmOp x) = kinds.BfmOp
kind_of (values.AtomicRmwOp x) = kinds.AtomicRmwOp
kind_of (values.AtomicRmwLoopOp x) = kinds.AtomicRmwLoopOp
kind_of (values.MoveWideOp x) = kinds.MoveWideOp
kind_of (values.FpuOp1 x) = kinds.FpuOp1
kind_of (values.FpuOp2 x) = kinds.FpuOp2
kind_of (values.FpuOp3 x) = kinds.FpuOp3
kind_of (values.FpuOpRI x) = kinds.FpuOpRI
kind_of (values.FpuOpRIMod x) = kinds.FpuOpRIMod
kind_of (values.FpuToIntOp x) = kinds.FpuToIntOp
kind_of (values.IntToFpuOp x) = kinds.IntToFpuOp
kind_of (values.FpuRoundMode x) = kinds.FpuRoundMode
kind_of (values.VecOp x) = kinds.VecOp (vec_op_kind x)
kind_of (values.Size x) = kinds.Size
kind_of (values.ScalarSize x) = kinds.ScalarSize
kind_of (values.VectorSize x) = kinds.VectorSize
kind_of (values.Reg x) = kinds.Reg
kind_of (values.PReg x) = kinds.PReg
kind_of (values.Imm12 x) = kinds.Imm12
kind_of (values.Wide x) = kinds.Wide
kind_of (values.MovImm x) = kinds.MovImm
kind_of (values.ImmShift x) = kinds.ImmShift
kind_of (values.UImm5 x) = kinds.UImm5
kind_of (values.UImm6 x) = kinds.UImm6
kind_of (values.Shift x) = kinds.Shift
kind_of (values.Extend x) = kinds.Extend
kind_of (values.Cond x) = kinds.Cond
kind_of (values.Nzcv x) = kinds.Nzcv
kind_of (values.Bool x) = kinds.Bool
kind_of (values.U8 x) = kinds.U8
kind_of (values.U32 x) = kinds.U32
kind_of (values.U64 x) = kinds.U64
kind_of (values.I32 x) = kinds.I32
kind_of (values.Target x) = kinds.Target
kind_of (values.Label x) = kinds.Label
kind_of (values.FrameField x) = kinds.FrameField
kind_of (values.EmitFlag x) = kinds.EmitFlag
kind_of (values.I64 x) = kinds.I64
kind_of (values.Offset9 x) = kinds.Offset9
kind_of (values.Type x) = kinds.Type
kind_of (values.MemLabelName x) = kinds.MemLabelName
kind_of (values.Mode x) = kinds.Mode
kind_of (values.PairMode x) = kinds.PairMode
kind_of (values.Flags x) = kinds.Flags
kind_of (values.CondBrKind x) = kinds.CondBrKind
kind_of (values.TestBitAndBranchKind x) = kinds.TestBitAndBranchKind
kind_of (values.BranchTargetType x) = kinds.BranchTargetType
kind_of (values.List x) = kinds.List
kind_of (values.Convention x) = kinds.Convention
kind_of (values.Key x) = kinds.Key
kind_of (values.ApiKey x) = kinds.ApiKey
kind_of (values.Map x) = kinds.Map

-- the text of a field. Those that may stand with commas between have theirs in Parts
abbrev pub value_text : Value → List ℕ
value_text (values.AluOp x) = alu_op_text x
value_text (values.AluOp3 x) = alu_op3_text x
value_text (values.BitOp x) = bit_op_text x
value_text (values.BfmOp x) = bfm_op_text x
value_text (values.AtomicRmwOp x) = atomic_rmw_op_text x
value_text (values.AtomicRmwLoopOp x) = atomic_rmw_loop_op_text x
value_text (values.MoveWideOp x) = move_wide_op_text x
value_text (values.FpuOp1 x) = fpu_op1_text x
value_text (values.FpuOp2 x) = fpu_op2_text x
value_text (values.FpuOp3 x) = fpu_op3_text x
value_text (values.FpuOpRI x) = fpu_op_ri_text x
value_text (values.FpuOpRIMod x) = fpu_op_ri_mod_text x
value_text (values.FpuToIntOp x) = fpu_to_int_op_text x
value_text (values.IntToFpuOp x) = int_to_fpu_op_text x
value_text (values.FpuRoundMode x) = fpu_round_mode_text x
value_text (values.VecOp x) = vec_op_text x
value_text (values.ScalarSize x) = scalar_size_text x
value_text (values.VectorSize x) = vector_size_text x
value_text (values.PReg x) = preg_text x
value_text (values.Imm12 x) = imm12_text x
value_text (values.Wide x) = wide_text x
value_text (values.MovImm x) = mov_imm_text x
value_text (values.ImmShift x) = imm_shift_text x
value_text (values.UImm5 x) = uimm5_text x
value_text (values.UImm6 x) = uimm6_text x
value_text (values.Shift x) = shift_text x
value_text (values.Nzcv x) = nzcv_text x
value_text (values.U64 x) = decimal x
value_text (values.I32 x) = signed_decimal x
value_text (values.Target x) = target_text x
value_text (values.Label x) = label_text x
value_text (values.FrameField x) = frame_field_text x
value_text (values.EmitFlag x) = emit_flag_text x
value_text (values.Mode x) = mode_text x
value_text (values.PairMode x) = pair_text x
value_text (values.Flags x) = flags_text x
value_text (values.CondBrKind x) = cond_br_text x
value_text (values.TestBitAndBranchKind x) = test_bit_text x
value_text (values.BranchTargetType x) = branch_target_type_text x
value_text (values.List x) = same_text x
value_text (values.Convention x) = convention_text x
value_text (values.Key x) = key_text x
value_text (values.ApiKey x) = api_key_text x
value_text (values.Map x) = map_text x
value_text part = part_text part

-- a field that has a text
abbrev pub IsValue : Value → Type 0
IsValue (values.AluOp x) = Always x
IsValue (values.AluOp3 x) = Always x
IsValue (values.BitOp x) = Always x
IsValue (values.BfmOp x) = Always x
IsValue (values.AtomicRmwOp x) = Always x
IsValue (values.AtomicRmwLoopOp x) = Always x
IsValue (values.MoveWideOp x) = Always x
IsValue (values.FpuOp1 x) = Always x
IsValue (values.FpuOp2 x) = Always x
IsValue (values.FpuOp3 x) = Always x
IsValue (values.FpuOpRI x) = IsFpuOpRI x
IsValue (values.FpuOpRIMod x) = IsFpuOpRIMod x
IsValue (values.FpuToIntOp x) = Always x
IsValue (values.IntToFpuOp x) = Always x
IsValue (values.FpuRoundMode x) = Always x
IsValue (values.VecOp x) = Always x
IsValue (values.ScalarSize x) = Always x
IsValue (values.VectorSize x) = Always x
IsValue (values.PReg x) = IsPReg x
IsValue (values.Imm12 x) = IsImm12 x
IsValue (values.Wide x) = IsWide x
IsValue (values.MovImm x) = IsWrittenMovImm x
IsValue (values.ImmShift x) = IsImmShift x
IsValue (values.UImm5 x) = Always x
IsValue (values.UImm6 x) = IsUImm6 x
IsValue (values.Shift x) = IsShift x
IsValue (values.Nzcv x) = Always x
IsValue (values.U64 x) = IsU64 x
IsValue (values.I32 x) = IsI32 x
IsValue (values.Target x) = IsTarget x
IsValue (values.Label x) = IsLabel x
IsValue (values.FrameField x) = Always x
IsValue (values.EmitFlag x) = Always x
IsValue (values.Mode x) = IsMode x
IsValue (values.PairMode x) = IsPairMode x
IsValue (values.Flags x) = IsFlags x
IsValue (values.CondBrKind x) = IsCondBr x
IsValue (values.TestBitAndBranchKind x) = Always x
IsValue (values.BranchTargetType x) = Always x
IsValue (values.List x) = HasNo 32 x
IsValue (values.Convention x) = Always x
IsValue (values.Key x) = Always x
IsValue (values.ApiKey x) = Always x
IsValue (values.Map x) = IsMapNumber x
IsValue part = IsPart part

-- a field of this kind that has a text
abbrev pub IsOf : Kind → Value → Type 0
IsOf kind value = (kind_of value ≡ kind) × IsValue value

-- Some field of this kind exactly where the token is the text of one. `make` makes all fields of
-- the kind
pub record ReadsAs {X : Type 0} (kind : Kind) (make : X
    → Value) (token : List ℕ) (result : Option Value) : Type 0 where
  pub some : IfSome result (λ v. IsOf kind v × (token ≡ value_text v))
  pub only : (x : X) → IsValue (make x) → token ≡ value_text (make x) → result ≡ Some (make x)

unfoldable pub ReadsKind : Kind → List ℕ → Option Value → Type 0
ReadsKind kinds.AluOp = ReadsAs kinds.AluOp (λ (x : ALUOp). values.AluOp x)
ReadsKind kinds.AluOp3 = ReadsAs kinds.AluOp3 (λ (x : ALUOp3). values.AluOp3 x)
ReadsKind kinds.BitOp = ReadsAs kinds.BitOp (λ (x : BitOp). values.BitOp x)
ReadsKind kinds.BfmOp = ReadsAs kinds.BfmOp (λ (x : BfmOp). values.BfmOp x)
ReadsKind kinds.AtomicRmwOp = ReadsAs kinds.AtomicRmwOp (λ (x : AtomicRMWOp). values.AtomicRmwOp x)
ReadsKind kinds.AtomicRmwLoopOp =
    ReadsAs kinds.AtomicRmwLoopOp (λ (x : AtomicRMWLoopOp). values.AtomicRmwLoopOp x)
ReadsKind kinds.MoveWideOp = ReadsAs kinds.MoveWideOp (λ (x : MoveWideOp). values.MoveWideOp x)
ReadsKind kinds.FpuOp1 = ReadsAs kinds.FpuOp1 (λ (x : FPUOp1). values.FpuOp1 x)
ReadsKind kinds.FpuOp2 = ReadsAs kinds.FpuOp2 (λ (x : FPUOp2). values.FpuOp2 x)
ReadsKind kinds.FpuOp3 = ReadsAs kinds.FpuOp3 (λ (x : FPUOp3). values.FpuOp3 x)
ReadsKind kinds.FpuOpRI = ReadsAs kinds.FpuOpRI (λ (x : FPUOpRI). values.FpuOpRI x)
ReadsKind kinds.FpuOpRIMod = ReadsAs kinds.FpuOpRIMod (λ (x : FPUOpRIMod). values.FpuOpRIMod x)
ReadsKind kinds.FpuToIntOp = ReadsAs kinds.FpuToIntOp (λ (x : FpuToIntOp). values.FpuToIntOp x)
ReadsKind kinds.IntToFpuOp = ReadsAs kinds.IntToFpuOp (λ (x : IntToFpuOp). values.IntToFpuOp x)
ReadsKind kinds.FpuRoundMode =
    ReadsAs kinds.FpuRoundMode (λ (x : FpuRoundMode). values.FpuRoundMode x)
ReadsKind (kinds.VecOp vec_kinds.Alu) =
    ReadsAs (kinds.VecOp vec_kinds.Alu) (λ (x : VecALUOp). values.VecOp (vec_ops.Alu x))
ReadsKind (kinds.VecOp vec_kinds.AluMod) =
    ReadsAs (kinds.VecOp vec_kinds.AluMod) (λ (x : VecALUModOp). values.VecOp (vec_ops.AluMod x))
ReadsKind (kinds.VecOp vec_kinds.Misc2) =
    ReadsAs (kinds.VecOp vec_kinds.Misc2) (λ (x : VecMisc2). values.VecOp (vec_ops.Misc2 x))
ReadsKind (kinds.VecOp vec_kinds.Lanes) =
    ReadsAs (kinds.VecOp vec_kinds.Lanes) (λ (x : VecLanesOp). values.VecOp (vec_ops.Lanes x))
ReadsKind (kinds.VecOp vec_kinds.Extend) =
    ReadsAs (kinds.VecOp vec_kinds.Extend) (λ (x : VecExtendOp). values.VecOp (vec_ops.Extend x))
ReadsKind (kinds.VecOp vec_kinds.RRLong) =
    ReadsAs (kinds.VecOp vec_kinds.RRLong) (λ (x : VecRRLongOp). values.VecOp (vec_ops.RRLong x))
ReadsKind (kinds.VecOp vec_kinds.RRNarrow) =
    ReadsAs (kinds.VecOp vec_kinds.RRNarrow)
    (λ (x : VecRRNarrowOp). values.VecOp (vec_ops.RRNarrow x))
ReadsKind (kinds.VecOp vec_kinds.Pair) =
    ReadsAs (kinds.VecOp vec_kinds.Pair) (λ (x : VecPairOp). values.VecOp (vec_ops.Pair x))
ReadsKind (kinds.VecOp vec_kinds.RRPairLong) =
    ReadsAs (kinds.VecOp vec_kinds.RRPairLong)
    (λ (x : VecRRPairLongOp). values.VecOp (vec_ops.RRPairLong x))
ReadsKind (kinds.VecOp vec_kinds.RRRLong) =
    ReadsAs (kinds.VecOp vec_kinds.RRRLong) (λ (x : VecRRRLongOp). values.VecOp (vec_ops.RRRLong x))
ReadsKind (kinds.VecOp vec_kinds.RRRLongMod) =
    ReadsAs (kinds.VecOp vec_kinds.RRRLongMod)
    (λ (x : VecRRRLongModOp). values.VecOp (vec_ops.RRRLongMod x))
ReadsKind (kinds.VecOp vec_kinds.ShiftImm) =
    ReadsAs (kinds.VecOp vec_kinds.ShiftImm)
    (λ (x : VecShiftImmOp). values.VecOp (vec_ops.ShiftImm x))
ReadsKind (kinds.VecOp vec_kinds.ShiftImmMod) =
    ReadsAs (kinds.VecOp vec_kinds.ShiftImmMod)
    (λ (x : VecShiftImmModOp). values.VecOp (vec_ops.ShiftImmMod x))
ReadsKind kinds.Size = ReadsAs kinds.Size (λ (x : OperandSize). values.Size x)
ReadsKind kinds.ScalarSize = ReadsAs kinds.ScalarSize (λ (x : ScalarSize). values.ScalarSize x)
ReadsKind kinds.VectorSize = ReadsAs kinds.VectorSize (λ (x : VectorSize). values.VectorSize x)
ReadsKind kinds.Reg = ReadsAs kinds.Reg (λ (x : Reg). values.Reg x)
ReadsKind kinds.PReg = ReadsAs kinds.PReg (λ (x : RealRegister). values.PReg x)
ReadsKind kinds.Imm12 = ReadsAs kinds.Imm12 (λ (x : Imm12). values.Imm12 x)
ReadsKind kinds.Wide = ReadsAs kinds.Wide (λ (x : MoveWideConst). values.Wide x)
ReadsKind kinds.MovImm = ReadsAs kinds.MovImm (λ (x : WrittenMovImm). values.MovImm x)
ReadsKind kinds.ImmShift = ReadsAs kinds.ImmShift (λ (x : ImmShift). values.ImmShift x)
ReadsKind kinds.UImm5 = ReadsAs kinds.UImm5 (λ (x : UImm5). values.UImm5 x)
ReadsKind kinds.UImm6 = ReadsAs kinds.UImm6 (λ (x : UImm6). values.UImm6 x)
ReadsKind kinds.Shift = ReadsAs kinds.Shift (λ (x : Shift). values.Shift x)
ReadsKind kinds.Extend = ReadsAs kinds.Extend (λ (x : ExtendOp). values.Extend x)
ReadsKind kinds.Cond = ReadsAs kinds.Cond (λ (x : Cond). values.Cond x)
ReadsKind kinds.Nzcv = ReadsAs kinds.Nzcv (λ (x : NZCV). values.Nzcv x)
ReadsKind kinds.Bool = ReadsAs kinds.Bool (λ (x : Bool). values.Bool x)
ReadsKind kinds.U8 = ReadsAs kinds.U8 (λ (x : ℕ). values.U8 x)
ReadsKind kinds.U32 = ReadsAs kinds.U32 (λ (x : ℕ). values.U32 x)
ReadsKind kinds.U64 = ReadsAs kinds.U64 (λ (x : ℕ). values.U64 x)
ReadsKind kinds.I32 = ReadsAs kinds.I32 (λ (x : ℤ). values.I32 x)
ReadsKind kinds.Target = ReadsAs kinds.Target (λ (x : BranchTarget). values.Target x)
ReadsKind kinds.Label = ReadsAs kinds.Label (λ (x : MachLabel). values.Label x)
ReadsKind kinds.FrameField = ReadsAs kinds.FrameField (λ (x : FrameField). values.FrameField x)
ReadsKind kinds.EmitFlag = ReadsAs kinds.EmitFlag (λ (x : EmitFlag). values.EmitFlag x)
ReadsKind kinds.I64 = ReadsAs kinds.I64 (λ (x : ℤ). values.I64 x)
ReadsKind kinds.Offset9 = ReadsAs kinds.Offset9 (λ (x : SImm9). values.Offset9 x)
ReadsKind kinds.Type = ReadsAs kinds.Type (λ (x : IrType). values.Type x)
ReadsKind kinds.MemLabelName =
    ReadsAs kinds.MemLabelName (λ (x : MemLabelName). values.MemLabelName x)
ReadsKind kinds.Mode = ReadsAs kinds.Mode (λ (x : AMode). values.Mode x)
ReadsKind kinds.PairMode = ReadsAs kinds.PairMode (λ (x : WrittenPairMode). values.PairMode x)
ReadsKind kinds.Flags = ReadsAs kinds.Flags (λ (x : Option TrapCode). values.Flags x)
ReadsKind kinds.CondBrKind = ReadsAs kinds.CondBrKind (λ (x : CondBrKind). values.CondBrKind x)
ReadsKind kinds.TestBitAndBranchKind =
    ReadsAs kinds.TestBitAndBranchKind (λ (x : TestBitAndBranchKind). values.TestBitAndBranchKind x)
ReadsKind kinds.BranchTargetType =
    ReadsAs kinds.BranchTargetType (λ (x : BranchTargetType). values.BranchTargetType x)
ReadsKind kinds.List = ReadsAs kinds.List (λ (x : List ℕ). values.List x)
ReadsKind kinds.Convention = ReadsAs kinds.Convention (λ (x : CallConv). values.Convention x)
ReadsKind kinds.Key = ReadsAs kinds.Key (λ (x : Option APIKey). values.Key x)
ReadsKind kinds.ApiKey = ReadsAs kinds.ApiKey (λ (x : APIKey). values.ApiKey x)
ReadsKind kinds.Map = ReadsAs kinds.Map (λ (x : Option UserStackMap). values.Map x)
