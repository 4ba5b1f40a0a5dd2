-- The fields of an entry, each at its place.
use Rattle.std.specs.Prelude.{ℕ, ℤ, pos, List, [], Option, Some, None, slice_get, Bool, false}
use Rattle.std.proofs.Common.{lit<}
use Rattle.a64_ops.specs.declared.operator.ALUOp.{ALUOp}
use Rattle.a64_ops.specs.declared.operator.ALUOp3.{ALUOp3}
use Rattle.a64_ops.specs.declared.operator.BitOp.{BitOp}
use Rattle.a64_ops.specs.declared.operator.AtomicRMWLoopOp.{AtomicRMWLoopOp}
use Rattle.a64_ops.specs.declared.operator.AtomicRMWLoopOp.TheVariants as atomic_rmw_loop_ops
use Rattle.a64_ops.specs.declared.operator.AtomicRMWOp.{AtomicRMWOp}
use Rattle.a64_ops.specs.declared.operator.AtomicRMWOp.TheVariants as atomic_rmw_ops
use Rattle.a64_ops.specs.declared.operator.BfmOp.{BfmOp}
use Rattle.a64_ops.specs.declared.operator.MoveWideOp.{MoveWideOp}
use Rattle.a64_base.specs.declared.size.OperandSize.{OperandSize}
use Rattle.a64_base.specs.declared.reg.Reg.{Reg}
use Rattle.a64_base.specs.RegisterNumbers.{RealRegister}
use Rattle.a64_imms.specs.declared.imm12.Imm12.{Imm12}
use Rattle.a64_imms.specs.declared.move_wide.MoveWideConst.{MoveWideConst}
use Rattle.a64_imms.specs.declared.unsigned.ImmShift.{ImmShift}
use Rattle.a64_imms.specs.declared.unsigned.UImm5.{UImm5}
use Rattle.a64_imms.specs.declared.unsigned.UImm6.{UImm6}
use Rattle.a64_base.specs.ShiftParts.{Shift}
use Rattle.a64_base.specs.declared.shift.ExtendOp.{ExtendOp}
use Rattle.a64_base.specs.declared.cond.Cond.{Cond}
use Rattle.a64_imms.specs.declared.flags.NZCV.{NZCV}
use Rattle.a64_base.specs.declared.target.BranchTarget.{BranchTarget}
use Rattle.a64_base.specs.declared.entity.MachLabel.{MachLabel}
use Rattle.a64_ops.specs.declared.operator.ALUOp.TheVariants as alu_ops
use Rattle.a64_ops.specs.declared.operator.ALUOp3.TheVariants as alu_op3s
use Rattle.a64_ops.specs.declared.operator.BitOp.TheVariants as bit_ops
use Rattle.a64_ops.specs.declared.operator.BfmOp.TheVariants as bfm_ops
use Rattle.a64_ops.specs.declared.operator.MoveWideOp.TheVariants as move_wide_ops
use Rattle.a64_base.specs.declared.cond.Cond.TheVariants as conds
use Rattle.a64_base.specs.declared.cond.CondBrKind.{CondBrKind}
use Rattle.a64_base.specs.declared.cond.CondBrKind.TheVariants as cond_brs
use Rattle.a64_base.specs.declared.cond.TestBitAndBranchKind.{TestBitAndBranchKind}
use Rattle.a64_base.specs.declared.cond.TestBitAndBranchKind.TheVariants as bit_tests
use Rattle.a64_base.specs.declared.reg.RegKind.TheVariants.{Virtual}
use Rattle.a64_base.specs.declared.reg.RegClass.TheVariants.{Int}
use Rattle.a64_base.specs.declared.shift.ExtendOp.TheVariants as extends
use Rattle.a64_base.specs.declared.shift.ShiftOp.TheVariants.{LSL}
use Rattle.a64_base.specs.declared.size.OperandSize.TheVariants.{Size32}
use Rattle.a64_base.specs.declared.target.BranchTarget.TheVariants as targets
use Rattle.a64_base.specs.declared.convention.CallConv.{CallConv}
use Rattle.a64_base.specs.declared.convention.CallConv.TheVariants as conventions
use Rattle.a64_base.specs.declared.entity.TrapCode.{TrapCode}
use Rattle.a64_base.specs.declared.entity.UserStackMap.{UserStackMap}
use Rattle.a64_base.specs.declared.key.APIKey.{APIKey}
use Rattle.a64_base.specs.declared.ir_type.IrType.{IrType}
use Rattle.a64_base.specs.declared.ir_type.IrType.TheVariants.{I64}
use Rattle.a64_imms.specs.declared.offset.SImm9.{SImm9}
use Rattle.a64_operand.specs.declared.fpu_op.FPUOpRI.{FPUOpRI}
use Rattle.a64_operand.specs.declared.fpu_op.FPUOpRI.TheVariants as fpu_op_ris
use Rattle.a64_operand.specs.declared.fpu_op.FPUOpRIMod.{FPUOpRIMod}
use Rattle.a64_operand.specs.declared.fpu_op.FPUOpRIMod.TheVariants as fpu_op_ri_mods
use Rattle.a64_inst.specs.declared.mode.AMode.{AMode}
use Rattle.a64_inst.specs.declared.mode.AMode.TheVariants as modes
use Rattle.a64_tokens.specs.declared.value.WrittenMovImm.{WrittenMovImm}
use Rattle.a64_tokens.specs.declared.pair_mode.WrittenPairMode.{WrittenPairMode}
use Rattle.a64_tokens.specs.declared.pair_mode.WrittenPairMode.TheVariants as pair_modes
use Rattle.a64_tokens.specs.declared.vec_op.VecOp.{VecOp}
use Rattle.a64_tokens.specs.declared.vec_op.VecOp.TheVariants as vec_ops
use Rattle.a64_ops.specs.declared.vector.VecPairOp.TheVariants as vec_pair_ops
use Rattle.a64_ops.specs.declared.float.FPUOp1.{FPUOp1}
use Rattle.a64_ops.specs.declared.float.FPUOp1.TheVariants as fpu_op1s
use Rattle.a64_ops.specs.declared.float.FPUOp2.{FPUOp2}
use Rattle.a64_ops.specs.declared.float.FPUOp2.TheVariants as fpu_op2s
use Rattle.a64_ops.specs.declared.float.FPUOp3.{FPUOp3}
use Rattle.a64_ops.specs.declared.float.FPUOp3.TheVariants as fpu_op3s
use Rattle.a64_ops.specs.declared.float.FpuToIntOp.{FpuToIntOp}
use Rattle.a64_ops.specs.declared.float.FpuToIntOp.TheVariants as fpu_to_int_ops
use Rattle.a64_ops.specs.declared.float.IntToFpuOp.{IntToFpuOp}
use Rattle.a64_ops.specs.declared.float.IntToFpuOp.TheVariants as int_to_fpu_ops
use Rattle.a64_ops.specs.declared.float.FpuRoundMode.{FpuRoundMode}
use Rattle.a64_ops.specs.declared.float.FpuRoundMode.TheVariants as fpu_round_modes
use Rattle.a64_base.specs.declared.size.ScalarSize.{ScalarSize}
use Rattle.a64_base.specs.declared.size.ScalarSize.TheVariants as scalar_sizes
use Rattle.a64_base.specs.declared.size.VectorSize.{VectorSize}
use Rattle.a64_base.specs.declared.size.VectorSize.TheVariants as vector_sizes
use Rattle.a64_ops.specs.declared.system.BranchTargetType.{BranchTargetType}
use Rattle.a64_ops.specs.declared.system.BranchTargetType.TheVariants as branch_target_types
use Rattle.a64_base.specs.declared.key.APIKey.TheVariants as api_keys
use Rattle.a64_tokens.specs.declared.label_name.MemLabelName.{MemLabelName}
use Rattle.a64_tokens.specs.declared.label_name.MemLabelName.TheVariants as label_names
use Rattle.a64_tokens.specs.declared.emit_flag.EmitFlag.{EmitFlag}
use Rattle.a64_tokens.specs.declared.emit_flag.EmitFlag.TheVariants as emit_flags
use Rattle.a64_tokens.specs.declared.frame_field.FrameField.{FrameField}
use Rattle.a64_tokens.specs.declared.frame_field.FrameField.TheVariants as frame_fields
use Rattle.a64_tokens.specs.declared.value.Value.{Value}
use Rattle.a64_tokens.specs.declared.value.Value.TheVariants as values

abbrev pub alu_op_of : Option Value → ALUOp
alu_op_of (Some (values.AluOp x)) = x
alu_op_of _ = alu_ops.Add

abbrev pub alu_op_at : List Value → ℕ → ALUOp
alu_op_at values i = alu_op_of (slice_get values i)

abbrev pub alu_op3_of : Option Value → ALUOp3
alu_op3_of (Some (values.AluOp3 x)) = x
alu_op3_of _ = alu_op3s.MAdd

abbrev pub alu_op3_at : List Value → ℕ → ALUOp3
alu_op3_at values i = alu_op3_of (slice_get values i)

abbrev pub atomic_rmw_loop_op_of : Option Value → AtomicRMWLoopOp
atomic_rmw_loop_op_of (Some (values.AtomicRmwLoopOp x)) = x
atomic_rmw_loop_op_of _ = atomic_rmw_loop_ops.Add

abbrev pub atomic_rmw_loop_op_at : List Value → ℕ → AtomicRMWLoopOp
atomic_rmw_loop_op_at values i = atomic_rmw_loop_op_of (slice_get values i)

abbrev pub bit_op_of : Option Value → BitOp
bit_op_of (Some (values.BitOp x)) = x
bit_op_of _ = bit_ops.RBit

abbrev pub bit_op_at : List Value → ℕ → BitOp
bit_op_at values i = bit_op_of (slice_get values i)

abbrev pub atomic_rmw_op_of : Option Value → AtomicRMWOp
atomic_rmw_op_of (Some (values.AtomicRmwOp x)) = x
atomic_rmw_op_of _ = atomic_rmw_ops.Add

abbrev pub atomic_rmw_op_at : List Value → ℕ → AtomicRMWOp
atomic_rmw_op_at values i = atomic_rmw_op_of (slice_get values i)

abbrev pub bfm_op_of : Option Value → BfmOp
bfm_op_of (Some (values.BfmOp x)) = x
bfm_op_of _ = bfm_ops.UBfm

abbrev pub bfm_op_at : List Value → ℕ → BfmOp
bfm_op_at values i = bfm_op_of (slice_get values i)

abbrev pub move_wide_op_of : Option Value → MoveWideOp
move_wide_op_of (Some (values.MoveWideOp x)) = x
move_wide_op_of _ = move_wide_ops.MovZ

abbrev pub move_wide_op_at : List Value → ℕ → MoveWideOp
move_wide_op_at values i = move_wide_op_of (slice_get values i)

abbrev pub size_of : Option Value → OperandSize
size_of (Some (values.Size x)) = x
size_of _ = Size32

abbrev pub size_at : List Value → ℕ → OperandSize
size_at values i = size_of (slice_get values i)

abbrev pub reg_of : Option Value → Reg
reg_of (Some (values.Reg x)) = x
reg_of _ = Virtual 0 Int

abbrev pub reg_at : List Value → ℕ → Reg
reg_at values i = reg_of (slice_get values i)

abbrev pub preg_of : Option Value → RealRegister
preg_of (Some (values.PReg x)) = x
preg_of _ = record { number = 0; class = Int }

abbrev pub preg_at : List Value → ℕ → RealRegister
preg_at values i = preg_of (slice_get values i)

abbrev pub imm12_of : Option Value → Imm12
imm12_of (Some (values.Imm12 x)) = x
imm12_of _ = record { bits = 0; shift12 = false }

abbrev pub imm12_at : List Value → ℕ → Imm12
imm12_at values i = imm12_of (slice_get values i)

abbrev pub wide_of : Option Value → MoveWideConst
wide_of (Some (values.Wide x)) = x
wide_of _ = record { bits = 0; shift = 0 }

abbrev pub wide_at : List Value → ℕ → MoveWideConst
wide_at values i = wide_of (slice_get values i)

abbrev pub mov_imm_of : Option Value → WrittenMovImm
mov_imm_of (Some (values.MovImm x)) = x
mov_imm_of _ = record { imm = 0; shift = 0; ones = false }

abbrev pub mov_imm_at : List Value → ℕ → WrittenMovImm
mov_imm_at values i = mov_imm_of (slice_get values i)

abbrev pub imm_shift_of : Option Value → ImmShift
imm_shift_of (Some (values.ImmShift x)) = x
imm_shift_of _ = record { imm = 0 }

abbrev pub imm_shift_at : List Value → ℕ → ImmShift
imm_shift_at values i = imm_shift_of (slice_get values i)

abbrev pub uimm5_of : Option Value → UImm5
uimm5_of (Some (values.UImm5 x)) = x
uimm5_of _ = record { value = 0; below = lit< tt }

abbrev pub uimm5_at : List Value → ℕ → UImm5
uimm5_at values i = uimm5_of (slice_get values i)

abbrev pub uimm6_of : Option Value → UImm6
uimm6_of (Some (values.UImm6 x)) = x
uimm6_of _ = record { imm = 0 }

abbrev pub uimm6_at : List Value → ℕ → UImm6
uimm6_at values i = uimm6_of (slice_get values i)

abbrev pub shift_of : Option Value → Shift
shift_of (Some (values.Shift x)) = x
shift_of _ = record { op = LSL; amount = 0 }

abbrev pub shift_at : List Value → ℕ → Shift
shift_at values i = shift_of (slice_get values i)

abbrev pub extend_of : Option Value → ExtendOp
extend_of (Some (values.Extend x)) = x
extend_of _ = extends.UXTB

abbrev pub extend_at : List Value → ℕ → ExtendOp
extend_at values i = extend_of (slice_get values i)

abbrev pub cond_of : Option Value → Cond
cond_of (Some (values.Cond x)) = x
cond_of _ = conds.Eq

abbrev pub cond_at : List Value → ℕ → Cond
cond_at values i = cond_of (slice_get values i)

abbrev pub nzcv_of : Option Value → NZCV
nzcv_of (Some (values.Nzcv x)) = x
nzcv_of _ = record { n = false; z = false; c = false; v = false }

abbrev pub nzcv_at : List Value → ℕ → NZCV
nzcv_at values i = nzcv_of (slice_get values i)

abbrev pub truth_of : Option Value → Bool
truth_of (Some (values.Bool x)) = x
truth_of _ = false

abbrev pub truth_at : List Value → ℕ → Bool
truth_at values i = truth_of (slice_get values i)

abbrev pub u8_of : Option Value → ℕ
u8_of (Some (values.U8 x)) = x
u8_of _ = 0

abbrev pub u8_at : List Value → ℕ → ℕ
u8_at values i = u8_of (slice_get values i)

abbrev pub u32_of : Option Value → ℕ
u32_of (Some (values.U32 x)) = x
u32_of _ = 0

abbrev pub u32_at : List Value → ℕ → ℕ
u32_at values i = u32_of (slice_get values i)

abbrev pub u64_of : Option Value → ℕ
u64_of (Some (values.U64 x)) = x
u64_of _ = 0

abbrev pub u64_at : List Value → ℕ → ℕ
u64_at values i = u64_of (slice_get values i)

abbrev pub i32_of : Option Value → ℤ
i32_of (Some (values.I32 x)) = x
i32_of _ = pos 0

abbrev pub i32_at : List Value → ℕ → ℤ
i32_at values i = i32_of (slice_get values i)

abbrev pub target_of : Option Value → BranchTarget
target_of (Some (values.Target x)) = x
target_of _ = targets.ResolvedOffset (pos 0)

abbrev pub target_at : List Value → ℕ → BranchTarget
target_at values i = target_of (slice_get values i)

abbrev pub label_of : Option Value → MachLabel
label_of (Some (values.Label x)) = x
label_of _ = record { 0 = 0 }

abbrev pub label_at : List Value → ℕ → MachLabel
label_at values i = label_of (slice_get values i)

abbrev pub frame_field_of : Option Value → FrameField
frame_field_of (Some (values.FrameField x)) = x
frame_field_of _ = frame_fields.SetupAreaSize

abbrev pub frame_field_at : List Value → ℕ → FrameField
frame_field_at values i = frame_field_of (slice_get values i)

abbrev pub emit_flag_of : Option Value → EmitFlag
emit_flag_of (Some (values.EmitFlag x)) = x
emit_flag_of _ = emit_flags.EnableProbestack

abbrev pub emit_flag_at : List Value → ℕ → EmitFlag
emit_flag_at values i = emit_flag_of (slice_get values i)

abbrev pub i64_of : Option Value → ℤ
i64_of (Some (values.I64 x)) = x
i64_of _ = pos 0

abbrev pub i64_at : List Value → ℕ → ℤ
i64_at values i = i64_of (slice_get values i)

abbrev pub offset9_of : Option Value → SImm9
offset9_of (Some (values.Offset9 x)) = x
offset9_of _ = record { value = pos 0 }

abbrev pub offset9_at : List Value → ℕ → SImm9
offset9_at values i = offset9_of (slice_get values i)

abbrev pub type_of : Option Value → IrType
type_of (Some (values.Type x)) = x
type_of _ = I64

abbrev pub type_at : List Value → ℕ → IrType
type_at values i = type_of (slice_get values i)

abbrev pub mem_label_name_of : Option Value → MemLabelName
mem_label_name_of (Some (values.MemLabelName x)) = x
mem_label_name_of _ = label_names.PCRel

abbrev pub mem_label_name_at : List Value → ℕ → MemLabelName
mem_label_name_at values i = mem_label_name_of (slice_get values i)

abbrev pub mode_of : Option Value → AMode
mode_of (Some (values.Mode x)) = x
mode_of _ = modes.SPOffset (pos 0)

abbrev pub mode_at : List Value → ℕ → AMode
mode_at values i = mode_of (slice_get values i)

abbrev pub pair_mode_of : Option Value → WrittenPairMode
pair_mode_of (Some (values.PairMode x)) = x
pair_mode_of _ = pair_modes.SPPreIndexed (pos 0)

abbrev pub pair_mode_at : List Value → ℕ → WrittenPairMode
pair_mode_at values i = pair_mode_of (slice_get values i)

abbrev pub flags_of : Option Value → Option TrapCode
flags_of (Some (values.Flags x)) = x
flags_of _ = None

abbrev pub flags_at : List Value → ℕ → Option TrapCode
flags_at values i = flags_of (slice_get values i)

abbrev pub cond_br_kind_of : Option Value → CondBrKind
cond_br_kind_of (Some (values.CondBrKind x)) = x
cond_br_kind_of _ = cond_brs.Cond conds.Eq

abbrev pub cond_br_kind_at : List Value → ℕ → CondBrKind
cond_br_kind_at values i = cond_br_kind_of (slice_get values i)

abbrev pub test_bit_kind_of : Option Value → TestBitAndBranchKind
test_bit_kind_of (Some (values.TestBitAndBranchKind x)) = x
test_bit_kind_of _ = bit_tests.Z

abbrev pub test_bit_kind_at : List Value → ℕ → TestBitAndBranchKind
test_bit_kind_at values i = test_bit_kind_of (slice_get values i)

abbrev pub list_of : Option Value → List ℕ
list_of (Some (values.List x)) = x
list_of _ = []

abbrev pub list_at : List Value → ℕ → List ℕ
list_at values i = list_of (slice_get values i)

abbrev pub convention_of : Option Value → CallConv
convention_of (Some (values.Convention x)) = x
convention_of _ = conventions.SystemV

abbrev pub convention_at : List Value → ℕ → CallConv
convention_at values i = convention_of (slice_get values i)

abbrev pub key_of : Option Value → Option APIKey
key_of (Some (values.Key x)) = x
key_of _ = None

abbrev pub key_at : List Value → ℕ → Option APIKey
key_at values i = key_of (slice_get values i)

abbrev pub map_of : Option Value → Option UserStackMap
map_of (Some (values.Map x)) = x
map_of _ = None

abbrev pub map_at : List Value → ℕ → Option UserStackMap
map_at values i = map_of (slice_get values i)

abbrev pub fpu_op1_of : Option Value → FPUOp1
fpu_op1_of (Some (values.FpuOp1 x)) = x
fpu_op1_of _ = fpu_op1s.Abs

abbrev pub fpu_op1_at : List Value → ℕ → FPUOp1
fpu_op1_at values i = fpu_op1_of (slice_get values i)

abbrev pub fpu_op2_of : Option Value → FPUOp2
fpu_op2_of (Some (values.FpuOp2 x)) = x
fpu_op2_of _ = fpu_op2s.Add

abbrev pub fpu_op2_at : List Value → ℕ → FPUOp2
fpu_op2_at values i = fpu_op2_of (slice_get values i)

abbrev pub fpu_op3_of : Option Value → FPUOp3
fpu_op3_of (Some (values.FpuOp3 x)) = x
fpu_op3_of _ = fpu_op3s.MAdd

abbrev pub fpu_op3_at : List Value → ℕ → FPUOp3
fpu_op3_at values i = fpu_op3_of (slice_get values i)

abbrev pub fpu_op_ri_of : Option Value → FPUOpRI
fpu_op_ri_of (Some (values.FpuOpRI x)) = x
fpu_op_ri_of _ = fpu_op_ris.UShr32 (record { amount = 1; lane_size_in_bits = 32 })

abbrev pub fpu_op_ri_at : List Value → ℕ → FPUOpRI
fpu_op_ri_at values i = fpu_op_ri_of (slice_get values i)

abbrev pub fpu_op_ri_mod_of : Option Value → FPUOpRIMod
fpu_op_ri_mod_of (Some (values.FpuOpRIMod x)) = x
fpu_op_ri_mod_of _ = fpu_op_ri_mods.Sli32 (record { amount = 0; lane_size_in_bits = 32 })

abbrev pub fpu_op_ri_mod_at : List Value → ℕ → FPUOpRIMod
fpu_op_ri_mod_at values i = fpu_op_ri_mod_of (slice_get values i)

abbrev pub fpu_to_int_op_of : Option Value → FpuToIntOp
fpu_to_int_op_of (Some (values.FpuToIntOp x)) = x
fpu_to_int_op_of _ = fpu_to_int_ops.F32ToU32

abbrev pub fpu_to_int_op_at : List Value → ℕ → FpuToIntOp
fpu_to_int_op_at values i = fpu_to_int_op_of (slice_get values i)

abbrev pub int_to_fpu_op_of : Option Value → IntToFpuOp
int_to_fpu_op_of (Some (values.IntToFpuOp x)) = x
int_to_fpu_op_of _ = int_to_fpu_ops.U32ToF32

abbrev pub int_to_fpu_op_at : List Value → ℕ → IntToFpuOp
int_to_fpu_op_at values i = int_to_fpu_op_of (slice_get values i)

abbrev pub fpu_round_mode_of : Option Value → FpuRoundMode
fpu_round_mode_of (Some (values.FpuRoundMode x)) = x
fpu_round_mode_of _ = fpu_round_modes.Minus32

abbrev pub fpu_round_mode_at : List Value → ℕ → FpuRoundMode
fpu_round_mode_at values i = fpu_round_mode_of (slice_get values i)

abbrev pub scalar_size_of : Option Value → ScalarSize
scalar_size_of (Some (values.ScalarSize x)) = x
scalar_size_of _ = scalar_sizes.Size8

abbrev pub scalar_size_at : List Value → ℕ → ScalarSize
scalar_size_at values i = scalar_size_of (slice_get values i)

abbrev pub vector_size_of : Option Value → VectorSize
vector_size_of (Some (values.VectorSize x)) = x
vector_size_of _ = vector_sizes.Size8x8

abbrev pub vector_size_at : List Value → ℕ → VectorSize
vector_size_at values i = vector_size_of (slice_get values i)

abbrev pub branch_target_type_of : Option Value → BranchTargetType
branch_target_type_of (Some (values.BranchTargetType x)) = x
branch_target_type_of _ = branch_target_types.None

abbrev pub branch_target_type_at : List Value → ℕ → BranchTargetType
branch_target_type_at values i = branch_target_type_of (slice_get values i)

abbrev pub api_key_of : Option Value → APIKey
api_key_of (Some (values.ApiKey x)) = x
api_key_of _ = api_keys.AZ

abbrev pub api_key_at : List Value → ℕ → APIKey
api_key_at values i = api_key_of (slice_get values i)

abbrev pub vec_op_of : Option Value → VecOp
vec_op_of (Some (values.VecOp x)) = x
vec_op_of _ = vec_ops.Pair vec_pair_ops.Addp

abbrev pub vec_op_at : List Value → ℕ → VecOp
vec_op_at values i = vec_op_of (slice_get values i)
