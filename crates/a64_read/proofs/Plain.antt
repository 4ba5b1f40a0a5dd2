-- No field's text has a space.
use Rattle.std.specs.Prelude.{ℕ, ℤ, pos, negsuc, suc, ◌<◌, ◌*◌, ◌^◌, ◌++◌, codes, if◌then◌else◌, Bool, true, false, List, [], ◌∷◌, Option, Some, None, refl}
use Rattle.std.proofs.Common.{arith, lit<, inl}
use Rattle.std.proofs.lemmas.Int.{ints}
use Rattle.std.specs.Fmt.{decimal, signed_decimal}
use Rattle.std.specs.List.{AllByRecursion, join_with_byte}
use Rattle.a64_base.specs.RegisterNumbers.{RealRegister}
use Rattle.a64_base.specs.declared.entity.MachLabel.{MachLabel}
use Rattle.a64_base.specs.declared.convention.CallConv.{CallConv}
use Rattle.a64_base.specs.declared.convention.CallConv.TheVariants.{SystemV}
use Rattle.a64_base.specs.declared.entity.TrapCode.{TrapCode}
use Rattle.a64_base.specs.declared.entity.UserStackMap.{UserStackMap}
use Rattle.a64_base.specs.declared.key.APIKey.{APIKey}
use Rattle.a64_base.specs.declared.key.APIKey.TheVariants.{AZ}
use Rattle.a64_base.specs.declared.target.BranchTarget.{BranchTarget}
use Rattle.a64_base.specs.declared.target.BranchTarget.TheVariants as targets
use Rattle.a64_imms.specs.declared.imm12.Imm12.{Imm12}
use Rattle.a64_imms.specs.declared.move_wide.MoveWideConst.{MoveWideConst}
use Rattle.a64_imms.specs.Imm12s.{imm12_value}
use Rattle.a64_ops.specs.declared.operator.ALUOp.{ALUOp}
use Rattle.a64_ops.specs.declared.operator.ALUOp.TheVariants.{Add}
use Rattle.a64_ops.specs.declared.operator.ALUOp3.{ALUOp3}
use Rattle.a64_ops.specs.declared.operator.ALUOp3.TheVariants.{MAdd}
use Rattle.a64_ops.specs.declared.operator.BitOp.{BitOp}
use Rattle.a64_ops.specs.declared.operator.BitOp.TheVariants.{RBit}
use Rattle.a64_ops.specs.declared.operator.AtomicRMWOp.{AtomicRMWOp}
use Rattle.a64_ops.specs.declared.operator.AtomicRMWOp.TheVariants as atomic_rmw_ops
use Rattle.a64_ops.specs.declared.operator.AtomicRMWLoopOp.{AtomicRMWLoopOp}
use Rattle.a64_ops.specs.declared.operator.AtomicRMWLoopOp.TheVariants as atomic_rmw_loop_ops
use Rattle.a64_ops.specs.declared.operator.BfmOp.{BfmOp}
use Rattle.a64_ops.specs.declared.operator.BfmOp.TheVariants.{UBfm}
use Rattle.a64_ops.specs.declared.operator.MoveWideOp.{MoveWideOp}
use Rattle.a64_ops.specs.declared.operator.MoveWideOp.TheVariants.{MovZ}
use Rattle.a64_ops.specs.declared.float.FPUOp1.{FPUOp1}
use Rattle.a64_ops.specs.declared.float.FPUOp1.TheVariants as fpu_op1s
use Rattle.a64_ops.specs.declared.float.FPUOp2.{FPUOp2}
use Rattle.a64_ops.specs.declared.float.FPUOp2.TheVariants as fpu_op2s
use Rattle.a64_ops.specs.declared.float.FPUOp3.{FPUOp3}
use Rattle.a64_ops.specs.declared.float.FPUOp3.TheVariants as fpu_op3s
use Rattle.a64_ops.specs.declared.float.FpuToIntOp.{FpuToIntOp}
use Rattle.a64_ops.specs.declared.float.FpuToIntOp.TheVariants as fpu_to_int_ops
use Rattle.a64_ops.specs.declared.float.IntToFpuOp.{IntToFpuOp}
use Rattle.a64_ops.specs.declared.float.IntToFpuOp.TheVariants as int_to_fpu_ops
use Rattle.a64_ops.specs.declared.float.FpuRoundMode.{FpuRoundMode}
use Rattle.a64_ops.specs.declared.float.FpuRoundMode.TheVariants as fpu_round_modes
use Rattle.a64_base.specs.declared.size.ScalarSize.{ScalarSize}
use Rattle.a64_base.specs.declared.size.ScalarSize.TheVariants as scalar_sizes
use Rattle.a64_base.specs.declared.size.VectorSize.{VectorSize}
use Rattle.a64_base.specs.declared.size.VectorSize.TheVariants as vector_sizes
use Rattle.a64_ops.specs.declared.system.BranchTargetType.{BranchTargetType}
use Rattle.a64_ops.specs.declared.system.BranchTargetType.TheVariants as branch_target_types
use Rattle.a64_base.specs.declared.key.APIKey.TheVariants as api_keys
use Rattle.a64_base.specs.declared.shift.ShiftOp.{ShiftOp}
use Rattle.a64_base.specs.declared.shift.ShiftOp.TheVariants.{LSL}
use Rattle.a64_base.specs.declared.cond.TestBitAndBranchKind.{TestBitAndBranchKind}
use Rattle.a64_base.specs.declared.cond.TestBitAndBranchKind.TheVariants.{Z}
use Rattle.a64_base.specs.ShiftParts.{Shift}
use Rattle.a64_imms.specs.declared.flags.NZCV.{NZCV}
use Rattle.a64_imms.specs.declared.unsigned.UImm5.{UImm5}
use Rattle.a64_imms.specs.Flags.{flags_of, nzcv_bits}
use Rattle.a64_operand.specs.declared.fpu_op.FPUOpRI.{FPUOpRI}
use Rattle.a64_operand.specs.declared.fpu_op.FPUOpRI.TheVariants as fpu_op_ris
use Rattle.a64_operand.specs.declared.fpu_op.FPUOpRIMod.{FPUOpRIMod}
use Rattle.a64_operand.specs.declared.fpu_op.FPUOpRIMod.TheVariants as fpu_op_ri_mods
use Rattle.a64_tokens.specs.declared.emit_flag.EmitFlag.{EmitFlag}
use Rattle.a64_tokens.specs.declared.emit_flag.EmitFlag.TheVariants.{EnableProbestack}
use Rattle.a64_tokens.specs.declared.frame_field.FrameField.{FrameField}
use Rattle.a64_tokens.specs.declared.frame_field.FrameField.TheVariants.{SetupAreaSize}
use Rattle.a64_read.specs.declared.branch_name.CondBrName.{CondBrName}
use Rattle.a64_read.specs.declared.branch_name.CondBrName.TheVariants as cond_br_names
use Rattle.a64_read.specs.declared.mode_name.ModeName.{ModeName}
use Rattle.a64_read.specs.declared.mode_name.ModeName.TheVariants as mode_names
use Rattle.a64_read.specs.declared.mode_name.PairModeName.{PairModeName}
use Rattle.a64_read.specs.declared.mode_name.PairModeName.TheVariants as pair_names
use Rattle.a64_tokens.specs.declared.value.Value.{Value}
use Rattle.a64_tokens.specs.declared.value.Value.TheVariants as values
use Rattle.a64_read.specs.Values.{value_text, IsValue}
use Rattle.a64_tokens.specs.Reads.{IsU8, IsU32, IsU64, IsI32}
use Rattle.a64_tokens.specs.Operators.{alu_op_text, alu_op3_text, atomic_rmw_loop_op_text, atomic_rmw_op_text, bit_op_text, bfm_op_text, move_wide_op_text, shift_op_text, branch_target_type_text, emit_flag_text, frame_field_text, test_bit_text}
use Rattle.a64_read.specs.Branches.{cond_br_name_text, cond_br_name_of, cond_br_fields}
use Rattle.a64_tokens.specs.Conventions.{api_key_text, convention_text, key_text}
use Rattle.a64_tokens.specs.FloatOperators.{fpu_op1_text, fpu_op2_text, fpu_op3_text, fpu_round_mode_text, fpu_to_int_op_text, int_to_fpu_op_text}
use Rattle.a64_read.specs.FloatShifts.{fpu_op_ri_mod_text, fpu_op_ri_text, IsFpuOpRI, IsFpuOpRIMod}
use Rattle.a64_tokens.specs.declared.value.WrittenMovImm.{WrittenMovImm}
use Rattle.a64_read.specs.MovImms.{mov_imm_fields, mov_imm_text, IsWrittenMovImm}
use Rattle.a64_read.proofs.VecPlain.{vec_op_plain}
use Rattle.a64_read.specs.Modes.{mode_name_text, mode_name_of, mode_fields, pair_name_text, pair_name_of, pair_fields}
use Rattle.a64_read.specs.Parts.{part_texts, IsPart}
use Rattle.a64_read.proofs.Between.{join_plain, parts_apart, part_apart}
use Rattle.a64_read.specs.RegisterLaws.{append_apart, real_apart, space}
use Rattle.a64_tokens.specs.DigitLaws.{decimal_apart}
use Rattle.a64_tokens.specs.Fields.{HasNo, call_text, flags_text, IsFlags, map_text, IsMapNumber, label_text, IsLabel, target_text, IsTarget, imm12_text, IsImm12, IsPReg, preg_text, wide_text, IsWide, scalar_size_text, shift_text, IsShift, nzcv_text, uimm5_text, vector_size_text}

pub decimal_plain : (n : ℕ) → IsU64 n → HasNo 32 (decimal n)
decimal_plain n fits = decimal_apart 32 n (inl (lit< tt)) fits

pub u8_plain : (n : ℕ) → IsU8 n → HasNo 32 (decimal n)
u8_plain n fits = decimal_plain n (omega arith)

pub u32_plain : (n : ℕ) → IsU32 n → HasNo 32 (decimal n)
u32_plain n fits = decimal_plain n (omega arith)

pub label_plain : (label : MachLabel) → IsLabel label → HasNo 32 (label_text label)
label_plain label fits = u32_plain label.0 fits

pub signed_plain : (z : ℤ) → IsI32 z → HasNo 32 (signed_decimal z)
signed_plain (pos n) fits = decimal_plain n (omega (arith, ints, fits))
signed_plain (negsuc n) fits = decimal_plain (suc n) (omega (arith, ints, fits))

pub target_plain : (target : BranchTarget) → IsTarget target → HasNo 32 (target_text target)
target_plain (targets.Label label) fits = label_plain label fits
target_plain (targets.ResolvedOffset offset) fits = signed_plain offset fits

preg_plain : (p : RealRegister) → IsPReg p → HasNo 32 (preg_text p)
preg_plain p fits = real_apart 32 space p.class p.number fits

value_fits : (bits : ℕ) (shift : Bool) → bits < 4096 → bits * (if shift then 4096 else 1) < 2 ^ 64
value_fits bits true low = omega arith
value_fits bits false low = omega arith

pub imm12_fits : (imm : Imm12) → IsImm12 imm → IsU64 (imm12_value imm)
imm12_fits imm fits = value_fits imm.bits imm.shift12 fits.low

pub imm12_plain : (imm : Imm12) → IsImm12 imm → HasNo 32 (imm12_text imm)
imm12_plain imm fits = decimal_plain (imm12_value imm) (imm12_fits imm fits)

pub wide_plain : (imm : MoveWideConst) → IsWide imm → HasNo 32 (wide_text imm)
wide_plain imm fits = append_apart 32 (decimal imm.bits) (44 ∷ decimal (16 * imm.shift)) (decimal_plain imm.bits (omega (arith, fits.0))) (decimal_plain (16 * imm.shift) (omega (arith, fits.1)))

-- ---- names

alu_op_plain : (x : ALUOp) → HasNo 32 (alu_op_text x)
alu_op_plain Add = refl
alu_op_plain _ = refl

alu_op3_plain : (x : ALUOp3) → HasNo 32 (alu_op3_text x)
alu_op3_plain MAdd = refl
alu_op3_plain _ = refl

bit_op_plain : (x : BitOp) → HasNo 32 (bit_op_text x)
bit_op_plain RBit = refl
bit_op_plain _ = refl

atomic_rmw_op_plain : (x : AtomicRMWOp) → HasNo 32 (atomic_rmw_op_text x)
atomic_rmw_op_plain atomic_rmw_ops.Add = refl
atomic_rmw_op_plain _ = refl

atomic_rmw_loop_op_plain : (x : AtomicRMWLoopOp) → HasNo 32 (atomic_rmw_loop_op_text x)
atomic_rmw_loop_op_plain atomic_rmw_loop_ops.Add = refl
atomic_rmw_loop_op_plain _ = refl

bfm_op_plain : (x : BfmOp) → HasNo 32 (bfm_op_text x)
bfm_op_plain UBfm = refl
bfm_op_plain _ = refl

move_wide_op_plain : (x : MoveWideOp) → HasNo 32 (move_wide_op_text x)
move_wide_op_plain MovZ = refl
move_wide_op_plain _ = refl

fpu_op1_plain : (x : FPUOp1) → HasNo 32 (fpu_op1_text x)
fpu_op1_plain fpu_op1s.Abs = refl
fpu_op1_plain _ = refl

fpu_op2_plain : (x : FPUOp2) → HasNo 32 (fpu_op2_text x)
fpu_op2_plain fpu_op2s.Add = refl
fpu_op2_plain _ = refl

fpu_op3_plain : (x : FPUOp3) → HasNo 32 (fpu_op3_text x)
fpu_op3_plain fpu_op3s.MAdd = refl
fpu_op3_plain _ = refl

fpu_to_int_op_plain : (x : FpuToIntOp) → HasNo 32 (fpu_to_int_op_text x)
fpu_to_int_op_plain fpu_to_int_ops.F32ToU32 = refl
fpu_to_int_op_plain _ = refl

int_to_fpu_op_plain : (x : IntToFpuOp) → HasNo 32 (int_to_fpu_op_text x)
int_to_fpu_op_plain int_to_fpu_ops.U32ToF32 = refl
int_to_fpu_op_plain _ = refl

fpu_round_mode_plain : (x : FpuRoundMode) → HasNo 32 (fpu_round_mode_text x)
fpu_round_mode_plain fpu_round_modes.Minus32 = refl
fpu_round_mode_plain _ = refl

scalar_size_plain : (x : ScalarSize) → HasNo 32 (scalar_size_text x)
scalar_size_plain scalar_sizes.Size8 = refl
scalar_size_plain _ = refl

vector_size_plain : (x : VectorSize) → HasNo 32 (vector_size_text x)
vector_size_plain vector_sizes.Size8x8 = refl
vector_size_plain _ = refl

branch_target_type_plain : (x : BranchTargetType) → HasNo 32 (branch_target_type_text x)
branch_target_type_plain branch_target_types.None = refl
branch_target_type_plain _ = refl

api_key_plain : (x : APIKey) → HasNo 32 (api_key_text x)
api_key_plain api_keys.AZ = refl
api_key_plain _ = refl

shift_op_plain : (x : ShiftOp) → HasNo 32 (shift_op_text x)
shift_op_plain LSL = refl
shift_op_plain _ = refl

test_bit_plain : (x : TestBitAndBranchKind) → HasNo 32 (test_bit_text x)
test_bit_plain Z = refl
test_bit_plain _ = refl

frame_field_plain : (x : FrameField) → HasNo 32 (frame_field_text x)
frame_field_plain SetupAreaSize = refl
frame_field_plain _ = refl

emit_flag_plain : (x : EmitFlag) → HasNo 32 (emit_flag_text x)
emit_flag_plain EnableProbestack = refl
emit_flag_plain _ = refl

-- ---- fields

-- a name, and a number in parentheses
number_plain : (name : List ℕ) (n : ℕ) → HasNo 32 name → IsU64 n → HasNo 32 (call_text (name, decimal n))
number_plain name n plain fits =
    append_apart 32 name (40 ∷ (decimal n ++ 41 ∷ [])) plain
    (append_apart 32 (decimal n) (41 ∷ []) (decimal_plain n fits) refl)

shift_plain : (x : Shift) → IsShift x → HasNo 32 (shift_text x)
shift_plain x fits = number_plain (shift_op_text x.op) x.amount (shift_op_plain x.op) (omega (arith, fits))

fpu_op_ri_plain : (x : FPUOpRI) → IsFpuOpRI x → HasNo 32 (fpu_op_ri_text x)
fpu_op_ri_plain (fpu_op_ris.UShr32 imm) fits = number_plain (codes "UShr32") imm.amount refl (omega (arith, fits.0.at_most))
fpu_op_ri_plain (fpu_op_ris.UShr64 imm) fits = number_plain (codes "UShr64") imm.amount refl (omega (arith, fits.0.at_most))

fpu_op_ri_mod_plain : (x : FPUOpRIMod) → IsFpuOpRIMod x → HasNo 32 (fpu_op_ri_mod_text x)
fpu_op_ri_mod_plain (fpu_op_ri_mods.Sli32 imm) fits = number_plain (codes "Sli32") imm.amount refl (omega (arith, fits.0.below))
fpu_op_ri_mod_plain (fpu_op_ri_mods.Sli64 imm) fits = number_plain (codes "Sli64") imm.amount refl (omega (arith, fits.0.below))

-- the name of a shift has no parenthesis
pub shift_op_apart : (x : ShiftOp) → HasNo 40 (shift_op_text x)
shift_op_apart LSL = refl
shift_op_apart _ = refl

nzcv_plain : (x : NZCV) → HasNo 32 (nzcv_text x)
nzcv_plain x = decimal_plain (nzcv_bits (flags_of x)) (grind arith)

mov_imm_plain : (x : WrittenMovImm) → IsWrittenMovImm x → HasNo 32 (mov_imm_text x)
mov_imm_plain x fits = join_plain (part_texts (mov_imm_fields x)) (parts_apart 32 space (mov_imm_fields x) fits)

uimm5_plain : (x : UImm5) → HasNo 32 (uimm5_text x)
uimm5_plain x = decimal_plain x.value (omega (arith, x.below))

flags_plain : (x : Option TrapCode) → IsFlags x → HasNo 32 (flags_text x)
flags_plain None fits = refl
flags_plain (Some code) fits = u8_plain code.0 fits

convention_plain : (x : CallConv) → HasNo 32 (convention_text x)
convention_plain SystemV = refl
convention_plain _ = refl

key_plain : (x : Option APIKey) → HasNo 32 (key_text x)
key_plain (Some AZ) = refl
key_plain _ = refl

map_plain : (x : Option UserStackMap) → IsMapNumber x → HasNo 32 (map_text x)
map_plain None fits = refl
map_plain (Some map) fits = u32_plain map.0 fits

-- a name, and fields in parentheses
call_plain : (name : List ℕ) (vs : List Value) → HasNo 32 name → AllByRecursion IsPart vs → HasNo 32 (call_text (name, join_with_byte 44 (part_texts vs)))
call_plain name vs plain are =
    append_apart 32 name (40 ∷ (join_with_byte 44 (part_texts vs) ++ 41 ∷ [])) plain
    (append_apart 32 (join_with_byte 44 (part_texts vs)) (41 ∷ []) (join_plain (part_texts vs) (parts_apart 32 space vs are)) refl)

mode_name_plain : (name : ModeName) → HasNo 32 (mode_name_text name)
mode_name_plain mode_names.RegReg = refl
mode_name_plain _ = refl

pair_name_plain : (name : PairModeName) → HasNo 32 (pair_name_text name)
pair_name_plain pair_names.SignedOffset = refl
pair_name_plain _ = refl

cond_br_name_plain : (name : CondBrName) → HasNo 32 (cond_br_name_text name)
cond_br_name_plain cond_br_names.Zero = refl
cond_br_name_plain _ = refl

-- a line for each kind, and one for those that may stand with commas between
pub value_plain : (v : Value) → IsValue v → HasNo 32 (value_text v)
value_plain (values.AluOp x) fits = alu_op_plain x
value_plain (values.AluOp3 x) fits = alu_op3_plain x
value_plain (values.BitOp x) fits = bit_op_plain x
value_plain (values.BfmOp x) fits = bfm_op_plain x
value_plain (values.AtomicRmwOp x) fits = atomic_rmw_op_plain x
value_plain (values.AtomicRmwLoopOp x) fits = atomic_rmw_loop_op_plain x
value_plain (values.MoveWideOp x) fits = move_wide_op_plain x
value_plain (values.FpuOp1 x) fits = fpu_op1_plain x
value_plain (values.FpuOp2 x) fits = fpu_op2_plain x
value_plain (values.FpuOp3 x) fits = fpu_op3_plain x
value_plain (values.FpuOpRI x) fits = fpu_op_ri_plain x fits
value_plain (values.FpuOpRIMod x) fits = fpu_op_ri_mod_plain x fits
value_plain (values.FpuToIntOp x) fits = fpu_to_int_op_plain x
value_plain (values.IntToFpuOp x) fits = int_to_fpu_op_plain x
value_plain (values.FpuRoundMode x) fits = fpu_round_mode_plain x
value_plain (values.VecOp x) fits = vec_op_plain x
value_plain (values.ScalarSize x) fits = scalar_size_plain x
value_plain (values.VectorSize x) fits = vector_size_plain x
value_plain (values.PReg x) fits = preg_plain x fits
value_plain (values.Imm12 x) fits = imm12_plain x fits
value_plain (values.Wide x) fits = wide_plain x fits
value_plain (values.MovImm x) fits = mov_imm_plain x fits
value_plain (values.ImmShift x) fits = decimal_plain x.imm (omega (arith, fits))
value_plain (values.UImm5 x) fits = uimm5_plain x
value_plain (values.UImm6 x) fits = decimal_plain x.imm (omega (arith, fits))
value_plain (values.Shift x) fits = shift_plain x fits
value_plain (values.Nzcv x) fits = nzcv_plain x
value_plain (values.U64 x) fits = decimal_plain x fits
value_plain (values.I32 x) fits = signed_plain x fits
value_plain (values.Target x) fits = target_plain x fits
value_plain (values.Label x) fits = label_plain x fits
value_plain (values.FrameField x) fits = frame_field_plain x
value_plain (values.EmitFlag x) fits = emit_flag_plain x
value_plain (values.Mode x) fits = call_plain (mode_name_text (mode_name_of x)) (mode_fields x) (mode_name_plain (mode_name_of x)) fits.0
value_plain (values.PairMode x) fits = call_plain (pair_name_text (pair_name_of x)) (pair_fields x) (pair_name_plain (pair_name_of x)) fits.0
value_plain (values.Flags x) fits = flags_plain x fits
value_plain (values.CondBrKind x) fits = call_plain (cond_br_name_text (cond_br_name_of x)) (cond_br_fields x) (cond_br_name_plain (cond_br_name_of x)) fits.0
value_plain (values.TestBitAndBranchKind x) fits = test_bit_plain x
value_plain (values.BranchTargetType x) fits = branch_target_type_plain x
value_plain (values.List x) fits = fits
value_plain (values.Convention x) fits = convention_plain x
value_plain (values.Key x) fits = key_plain x
value_plain (values.ApiKey x) fits = api_key_plain x
value_plain (values.Map x) fits = map_plain x fits
value_plain part fits = part_apart 32 space part fits
