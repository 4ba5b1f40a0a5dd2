-- What is got of a field of another kind is what is got of none.
use Rattle.std.specs.Prelude.{◌≡◌, Some, None, false, refl}
use Rattle.std.proofs.Common.{ap}
use Rattle.a64_imms.specs.Flags as flags
use Rattle.a64_imms.specs.declared.flags.NZCV.{NZCV}
use Rattle.a64_tokens.specs.declared.value.Value.{Value}
use Rattle.a64_tokens.specs.declared.value.Value.TheVariants as values
use Rattle.a64_read.specs.At.{alu_op3_of, alu_op_of, api_key_of, atomic_rmw_loop_op_of, atomic_rmw_op_of, bfm_op_of, bit_op_of, branch_target_type_of, cond_br_kind_of, cond_of, convention_of, emit_flag_of, extend_of, flags_of, fpu_op1_of, fpu_op2_of, fpu_op3_of, fpu_op_ri_mod_of, fpu_op_ri_of, fpu_round_mode_of, fpu_to_int_op_of, frame_field_of, i32_of, i64_of, imm12_of, imm_shift_of, int_to_fpu_op_of, key_of, label_of, map_of, mem_label_name_of, mode_of, mov_imm_of, move_wide_op_of, nzcv_of, offset9_of, pair_mode_of, preg_of, reg_of, scalar_size_of, shift_of, size_of, target_of, test_bit_kind_of, truth_of, type_of, u32_of, u64_of, u8_of, uimm5_of, uimm6_of, vec_op_of, vector_size_of, wide_of}

pub alu_op_else : (v : Value) → ((x : _) → v ≡ values.AluOp x → ⊥) → alu_op_of None ≡ alu_op_of (Some v)
alu_op_else (values.AluOp x) other = absurd (other x refl)
alu_op_else _ other = refl

pub alu_op3_else : (v : Value) → ((x : _) → v ≡ values.AluOp3 x → ⊥) → alu_op3_of None ≡ alu_op3_of (Some v)
alu_op3_else (values.AluOp3 x) other = absurd (other x refl)
alu_op3_else _ other = refl

pub bit_op_else : (v : Value) → ((x : _) → v ≡ values.BitOp x → ⊥) → bit_op_of None ≡ bit_op_of (Some v)
bit_op_else (values.BitOp x) other = absurd (other x refl)
bit_op_else _ other = refl

pub atomic_rmw_op_else : (v : Value) → ((x : _) → v ≡ values.AtomicRmwOp x → ⊥) → atomic_rmw_op_of None ≡ atomic_rmw_op_of (Some v)
atomic_rmw_op_else (values.AtomicRmwOp x) other = absurd (other x refl)
atomic_rmw_op_else _ other = refl

pub atomic_rmw_loop_op_else : (v : Value) → ((x : _) → v ≡ values.AtomicRmwLoopOp x → ⊥) → atomic_rmw_loop_op_of None ≡ atomic_rmw_loop_op_of (Some v)
atomic_rmw_loop_op_else (values.AtomicRmwLoopOp x) other = absurd (other x refl)
atomic_rmw_loop_op_else _ other = refl

pub bfm_op_else : (v : Value) → ((x : _) → v ≡ values.BfmOp x → ⊥) → bfm_op_of None ≡ bfm_op_of (Some v)
bfm_op_else (values.BfmOp x) other = absurd (other x refl)
bfm_op_else _ other = refl

pub move_wide_op_else : (v : Value) → ((x : _) → v ≡ values.MoveWideOp x → ⊥) → move_wide_op_of None ≡ move_wide_op_of (Some v)
move_wide_op_else (values.MoveWideOp x) other = absurd (other x refl)
move_wide_op_else _ other = refl

pub size_else : (v : Value) → ((x : _) → v ≡ values.Size x → ⊥) → size_of None ≡ size_of (Some v)
size_else (values.Size x) other = absurd (other x refl)
size_else _ other = refl

pub reg_else : (v : Value) → ((x : _) → v ≡ values.Reg x → ⊥) → reg_of None ≡ reg_of (Some v)
reg_else (values.Reg x) other = absurd (other x refl)
reg_else _ other = refl

pub preg_else : (v : Value) → ((x : _) → v ≡ values.PReg x → ⊥) → preg_of None ≡ preg_of (Some v)
preg_else (values.PReg x) other = absurd (other x refl)
preg_else _ other = refl

pub imm12_else : (v : Value) → ((x : _) → v ≡ values.Imm12 x → ⊥) → imm12_of None ≡ imm12_of (Some v)
imm12_else (values.Imm12 x) other = absurd (other x refl)
imm12_else _ other = refl

pub wide_else : (v : Value) → ((x : _) → v ≡ values.Wide x → ⊥) → wide_of None ≡ wide_of (Some v)
wide_else (values.Wide x) other = absurd (other x refl)
wide_else _ other = refl

pub mov_imm_else : (v : Value) → ((x : _) → v ≡ values.MovImm x → ⊥) → mov_imm_of None ≡ mov_imm_of (Some v)
mov_imm_else (values.MovImm x) other = absurd (other x refl)
mov_imm_else _ other = refl

pub imm_shift_else : (v : Value) → ((x : _) → v ≡ values.ImmShift x → ⊥) → imm_shift_of None ≡ imm_shift_of (Some v)
imm_shift_else (values.ImmShift x) other = absurd (other x refl)
imm_shift_else _ other = refl

pub uimm5_else : (v : Value) → ((x : _) → v ≡ values.UImm5 x → ⊥) → uimm5_of None ≡ uimm5_of (Some v)
uimm5_else (values.UImm5 x) other = absurd (other x refl)
uimm5_else _ other = refl

pub uimm6_else : (v : Value) → ((x : _) → v ≡ values.UImm6 x → ⊥) → uimm6_of None ≡ uimm6_of (Some v)
uimm6_else (values.UImm6 x) other = absurd (other x refl)
uimm6_else _ other = refl

pub shift_else : (v : Value) → ((x : _) → v ≡ values.Shift x → ⊥) → shift_of None ≡ shift_of (Some v)
shift_else (values.Shift x) other = absurd (other x refl)
shift_else _ other = refl

pub extend_else : (v : Value) → ((x : _) → v ≡ values.Extend x → ⊥) → extend_of None ≡ extend_of (Some v)
extend_else (values.Extend x) other = absurd (other x refl)
extend_else _ other = refl

pub cond_else : (v : Value) → ((x : _) → v ≡ values.Cond x → ⊥) → cond_of None ≡ cond_of (Some v)
cond_else (values.Cond x) other = absurd (other x refl)
cond_else _ other = refl

pub nzcv_else : (v : Value) → ((x : _) → v ≡ values.Nzcv x → ⊥) → nzcv_of None ≡ nzcv_of (Some v)
nzcv_else (values.Nzcv x) other = absurd (other x refl)
nzcv_else _ other = refl

pub truth_else : (v : Value) → ((x : _) → v ≡ values.Bool x → ⊥) → truth_of None ≡ truth_of (Some v)
truth_else (values.Bool x) other = absurd (other x refl)
truth_else _ other = refl

pub u8_else : (v : Value) → ((x : _) → v ≡ values.U8 x → ⊥) → u8_of None ≡ u8_of (Some v)
u8_else (values.U8 x) other = absurd (other x refl)
u8_else _ other = refl

pub u32_else : (v : Value) → ((x : _) → v ≡ values.U32 x → ⊥) → u32_of None ≡ u32_of (Some v)
u32_else (values.U32 x) other = absurd (other x refl)
u32_else _ other = refl

pub u64_else : (v : Value) → ((x : _) → v ≡ values.U64 x → ⊥) → u64_of None ≡ u64_of (Some v)
u64_else (values.U64 x) other = absurd (other x refl)
u64_else _ other = refl

pub i32_else : (v : Value) → ((x : _) → v ≡ values.I32 x → ⊥) → i32_of None ≡ i32_of (Some v)
i32_else (values.I32 x) other = absurd (other x refl)
i32_else _ other = refl

pub target_else : (v : Value) → ((x : _) → v ≡ values.Target x → ⊥) → target_of None ≡ target_of (Some v)
target_else (values.Target x) other = absurd (other x refl)
target_else _ other = refl

pub label_else : (v : Value) → ((x : _) → v ≡ values.Label x → ⊥) → label_of None ≡ label_of (Some v)
label_else (values.Label x) other = absurd (other x refl)
label_else _ other = refl

pub frame_field_else : (v : Value) → ((x : _) → v ≡ values.FrameField x → ⊥) → frame_field_of None ≡ frame_field_of (Some v)
frame_field_else (values.FrameField x) other = absurd (other x refl)
frame_field_else _ other = refl

pub emit_flag_else : (v : Value) → ((x : _) → v ≡ values.EmitFlag x → ⊥) → emit_flag_of None ≡ emit_flag_of (Some v)
emit_flag_else (values.EmitFlag x) other = absurd (other x refl)
emit_flag_else _ other = refl

pub i64_else : (v : Value) → ((x : _) → v ≡ values.I64 x → ⊥) → i64_of None ≡ i64_of (Some v)
i64_else (values.I64 x) other = absurd (other x refl)
i64_else _ other = refl

pub offset9_else : (v : Value) → ((x : _) → v ≡ values.Offset9 x → ⊥) → offset9_of None ≡ offset9_of (Some v)
offset9_else (values.Offset9 x) other = absurd (other x refl)
offset9_else _ other = refl

pub type_else : (v : Value) → ((x : _) → v ≡ values.Type x → ⊥) → type_of None ≡ type_of (Some v)
type_else (values.Type x) other = absurd (other x refl)
type_else _ other = refl

pub mem_label_name_else : (v : Value) → ((x : _) → v ≡ values.MemLabelName x → ⊥) → mem_label_name_of None ≡ mem_label_name_of (Some v)
mem_label_name_else (values.MemLabelName x) other = absurd (other x refl)
mem_label_name_else _ other = refl

pub mode_else : (v : Value) → ((x : _) → v ≡ values.Mode x → ⊥) → mode_of None ≡ mode_of (Some v)
mode_else (values.Mode x) other = absurd (other x refl)
mode_else _ other = refl

pub pair_mode_else : (v : Value) → ((x : _) → v ≡ values.PairMode x → ⊥) → pair_mode_of None ≡ pair_mode_of (Some v)
pair_mode_else (values.PairMode x) other = absurd (other x refl)
pair_mode_else _ other = refl

pub flags_else : (v : Value) → ((x : _) → v ≡ values.Flags x → ⊥) → flags_of None ≡ flags_of (Some v)
flags_else (values.Flags x) other = absurd (other x refl)
flags_else _ other = refl

pub cond_br_kind_else : (v : Value) → ((x : _) → v ≡ values.CondBrKind x → ⊥) → cond_br_kind_of None ≡ cond_br_kind_of (Some v)
cond_br_kind_else (values.CondBrKind x) other = absurd (other x refl)
cond_br_kind_else _ other = refl

pub test_bit_kind_else : (v : Value) → ((x : _) → v ≡ values.TestBitAndBranchKind x → ⊥) → test_bit_kind_of None ≡ test_bit_kind_of (Some v)
test_bit_kind_else (values.TestBitAndBranchKind x) other = absurd (other x refl)
test_bit_kind_else _ other = refl

pub convention_else : (v : Value) → ((x : _) → v ≡ values.Convention x → ⊥) → convention_of None ≡ convention_of (Some v)
convention_else (values.Convention x) other = absurd (other x refl)
convention_else _ other = refl

pub key_else : (v : Value) → ((x : _) → v ≡ values.Key x → ⊥) → key_of None ≡ key_of (Some v)
key_else (values.Key x) other = absurd (other x refl)
key_else _ other = refl

pub map_else : (v : Value) → ((x : _) → v ≡ values.Map x → ⊥) → map_of None ≡ map_of (Some v)
map_else (values.Map x) other = absurd (other x refl)
map_else _ other = refl

pub fpu_op1_else : (v : Value) → ((x : _) → v ≡ values.FpuOp1 x → ⊥) → fpu_op1_of None ≡ fpu_op1_of (Some v)
fpu_op1_else (values.FpuOp1 x) other = absurd (other x refl)
fpu_op1_else _ other = refl

pub fpu_op2_else : (v : Value) → ((x : _) → v ≡ values.FpuOp2 x → ⊥) → fpu_op2_of None ≡ fpu_op2_of (Some v)
fpu_op2_else (values.FpuOp2 x) other = absurd (other x refl)
fpu_op2_else _ other = refl

pub fpu_op3_else : (v : Value) → ((x : _) → v ≡ values.FpuOp3 x → ⊥) → fpu_op3_of None ≡ fpu_op3_of (Some v)
fpu_op3_else (values.FpuOp3 x) other = absurd (other x refl)
fpu_op3_else _ other = refl

pub fpu_op_ri_else : (v : Value) → ((x : _) → v ≡ values.FpuOpRI x → ⊥) → fpu_op_ri_of None ≡ fpu_op_ri_of (Some v)
fpu_op_ri_else (values.FpuOpRI x) other = absurd (other x refl)
fpu_op_ri_else _ other = refl

pub fpu_op_ri_mod_else : (v : Value) → ((x : _) → v ≡ values.FpuOpRIMod x → ⊥) → fpu_op_ri_mod_of None ≡ fpu_op_ri_mod_of (Some v)
fpu_op_ri_mod_else (values.FpuOpRIMod x) other = absurd (other x refl)
fpu_op_ri_mod_else _ other = refl

pub fpu_to_int_op_else : (v : Value) → ((x : _) → v ≡ values.FpuToIntOp x → ⊥) → fpu_to_int_op_of None ≡ fpu_to_int_op_of (Some v)
fpu_to_int_op_else (values.FpuToIntOp x) other = absurd (other x refl)
fpu_to_int_op_else _ other = refl

pub int_to_fpu_op_else : (v : Value) → ((x : _) → v ≡ values.IntToFpuOp x → ⊥) → int_to_fpu_op_of None ≡ int_to_fpu_op_of (Some v)
int_to_fpu_op_else (values.IntToFpuOp x) other = absurd (other x refl)
int_to_fpu_op_else _ other = refl

pub fpu_round_mode_else : (v : Value) → ((x : _) → v ≡ values.FpuRoundMode x → ⊥) → fpu_round_mode_of None ≡ fpu_round_mode_of (Some v)
fpu_round_mode_else (values.FpuRoundMode x) other = absurd (other x refl)
fpu_round_mode_else _ other = refl

pub scalar_size_else : (v : Value) → ((x : _) → v ≡ values.ScalarSize x → ⊥) → scalar_size_of None ≡ scalar_size_of (Some v)
scalar_size_else (values.ScalarSize x) other = absurd (other x refl)
scalar_size_else _ other = refl

pub vector_size_else : (v : Value) → ((x : _) → v ≡ values.VectorSize x → ⊥) → vector_size_of None ≡ vector_size_of (Some v)
vector_size_else (values.VectorSize x) other = absurd (other x refl)
vector_size_else _ other = refl

pub branch_target_type_else : (v : Value) → ((x : _) → v ≡ values.BranchTargetType x → ⊥) → branch_target_type_of None ≡ branch_target_type_of (Some v)
branch_target_type_else (values.BranchTargetType x) other = absurd (other x refl)
branch_target_type_else _ other = refl

pub api_key_else : (v : Value) → ((x : _) → v ≡ values.ApiKey x → ⊥) → api_key_of None ≡ api_key_of (Some v)
api_key_else (values.ApiKey x) other = absurd (other x refl)
api_key_else _ other = refl

-- flags of which none is set
pub no_flags : (imm : NZCV) → flags.flags_of imm ≡ record { n = false; z = false; c = false; v = false } → imm ≡ nzcv_of None
no_flags imm e = ap (λ (f : flags.Flags). record { n = f.n; z = f.z; c = f.c; v = f.v }) e

pub vec_op_else : (v : Value) → ((x : _) → v ≡ values.VecOp x → ⊥) → vec_op_of None ≡ vec_op_of (Some v)
vec_op_else (values.VecOp x) other = absurd (other x refl)
vec_op_else _ other = refl
