-- The fields of an entry, put together again from their places.
use Rattle.std.specs.Prelude.{◌≡◌, ℕ, suc, List, [], ◌∷◌, map, Option, Some, slice_get, refl}
use Rattle.std.proofs.Common.{sym, ap, ◌∙◌}
use Rattle.a64_tokens.specs.declared.value.Kind.{Kind}
use Rattle.a64_tokens.specs.declared.value.Kind.TheVariants as kinds
use Rattle.a64_tokens.specs.declared.value.Value.{Value}
use Rattle.a64_tokens.specs.declared.value.Value.TheVariants as values
use Rattle.a64_tokens.specs.declared.vec_op.VecOp.{VecOp}
use Rattle.a64_read.specs.Values.{kind_of}
use Rattle.a64_read.specs.At.{alu_op_of, alu_op3_of, atomic_rmw_loop_op_of, atomic_rmw_op_of}
use Rattle.a64_read.specs.At.{bit_op_of, bfm_op_of, move_wide_op_of, size_of, reg_of, preg_of}
use Rattle.a64_read.specs.At.{imm12_of, wide_of, imm_shift_of, mov_imm_of, uimm5_of, uimm6_of}
use Rattle.a64_read.specs.At.{shift_of, extend_of, cond_of, nzcv_of, truth_of, u8_of, u32_of}
use Rattle.a64_read.specs.At.{u64_of, i32_of, target_of, label_of, frame_field_of, emit_flag_of}
use Rattle.a64_read.specs.At.{i64_of, offset9_of, type_of, mem_label_name_of, mode_of, pair_mode_of}
use Rattle.a64_read.specs.At.{flags_of, cond_br_kind_of, test_bit_kind_of, list_of, convention_of}
use Rattle.a64_read.specs.At.{key_of, map_of, fpu_op1_of, fpu_op2_of, fpu_op3_of, fpu_op_ri_of}
use Rattle.a64_read.specs.At.{fpu_op_ri_mod_of, fpu_to_int_op_of, int_to_fpu_op_of}
use Rattle.a64_read.specs.At.{fpu_round_mode_of, scalar_size_of, vector_size_of}
use Rattle.a64_read.specs.At.{branch_target_type_of, api_key_of, vec_op_of}
use Rattle.a64_read.specs.VecOps.{as_own_vec_op, as_vec_op}

-- a field of the kind, which is the given one where that is of the kind
abbrev pub as_kind : Kind → Option Value → Value
as_kind kinds.AluOp v = values.AluOp (alu_op_of v)
as_kind kinds.AluOp3 v = values.AluOp3 (alu_op3_of v)
as_kind kinds.BitOp v = values.BitOp (bit_op_of v)
as_kind kinds.BfmOp v = values.BfmOp (bfm_op_of v)
as_kind kinds.AtomicRmwOp v = values.AtomicRmwOp (atomic_rmw_op_of v)
as_kind kinds.AtomicRmwLoopOp v = values.AtomicRmwLoopOp (atomic_rmw_loop_op_of v)
as_kind kinds.MoveWideOp v = values.MoveWideOp (move_wide_op_of v)
as_kind kinds.FpuOp1 v = values.FpuOp1 (fpu_op1_of v)
as_kind kinds.FpuOp2 v = values.FpuOp2 (fpu_op2_of v)
as_kind kinds.FpuOp3 v = values.FpuOp3 (fpu_op3_of v)
as_kind kinds.FpuOpRI v = values.FpuOpRI (fpu_op_ri_of v)
as_kind kinds.FpuOpRIMod v = values.FpuOpRIMod (fpu_op_ri_mod_of v)
as_kind kinds.FpuToIntOp v = values.FpuToIntOp (fpu_to_int_op_of v)
as_kind kinds.IntToFpuOp v = values.IntToFpuOp (int_to_fpu_op_of v)
as_kind kinds.FpuRoundMode v = values.FpuRoundMode (fpu_round_mode_of v)
as_kind (kinds.VecOp kind) v = values.VecOp (as_vec_op kind (vec_op_of v))
as_kind kinds.Size v = values.Size (size_of v)
as_kind kinds.ScalarSize v = values.ScalarSize (scalar_size_of v)
as_kind kinds.VectorSize v = values.VectorSize (vector_size_of v)
as_kind kinds.Reg v = values.Reg (reg_of v)
as_kind kinds.PReg v = values.PReg (preg_of v)
as_kind kinds.Imm12 v = values.Imm12 (imm12_of v)
as_kind kinds.Wide v = values.Wide (wide_of v)
as_kind kinds.MovImm v = values.MovImm (mov_imm_of v)
as_kind kinds.ImmShift v = values.ImmShift (imm_shift_of v)
as_kind kinds.UImm5 v = values.UImm5 (uimm5_of v)
as_kind kinds.UImm6 v = values.UImm6 (uimm6_of v)
as_kind kinds.Shift v = values.Shift (shift_of v)
as_kind kinds.Extend v = values.Extend (extend_of v)
as_kind kinds.Cond v = values.Cond (cond_of v)
as_kind kinds.Nzcv v = values.Nzcv (nzcv_of v)
as_kind kinds.Bool v = values.Bool (truth_of v)
as_kind kinds.U8 v = values.U8 (u8_of v)
as_kind kinds.U32 v = values.U32 (u32_of v)
as_kind kinds.U64 v = values.U64 (u64_of v)
as_kind kinds.I32 v = values.I32 (i32_of v)
as_kind kinds.Target v = values.Target (target_of v)
as_kind kinds.Label v = values.Label (label_of v)
as_kind kinds.FrameField v = values.FrameField (frame_field_of v)
as_kind kinds.EmitFlag v = values.EmitFlag (emit_flag_of v)
as_kind kinds.I64 v = values.I64 (i64_of v)
as_kind kinds.Offset9 v = values.Offset9 (offset9_of v)
as_kind kinds.Type v = values.Type (type_of v)
as_kind kinds.MemLabelName v = values.MemLabelName (mem_label_name_of v)
as_kind kinds.Mode v = values.Mode (mode_of v)
as_kind kinds.PairMode v = values.PairMode (pair_mode_of v)
as_kind kinds.Flags v = values.Flags (flags_of v)
as_kind kinds.CondBrKind v = values.CondBrKind (cond_br_kind_of v)
as_kind kinds.TestBitAndBranchKind v = values.TestBitAndBranchKind (test_bit_kind_of v)
as_kind kinds.BranchTargetType v = values.BranchTargetType (branch_target_type_of v)
as_kind kinds.List v = values.List (list_of v)
as_kind kinds.Convention v = values.Convention (convention_of v)
as_kind kinds.Key v = values.Key (key_of v)
as_kind kinds.ApiKey v = values.ApiKey (api_key_of v)
as_kind kinds.Map v = values.Map (map_of v)

pub as_own_kind : (v : Value) → as_kind (kind_of v) (Some v) ≡ v
as_own_kind (values.AluOp x) = refl
as_own_kind (values.VecOp x) = ap (λ (y : VecOp). values.VecOp y) (as_own_vec_op x)
as_own_kind _ = refl

-- fields of these kinds, the first from place i of the values
abbrev pub from_places : List Kind → List Value → ℕ → List Value
from_places [] values i = []
from_places (kind ∷ kinds) values i =
    as_kind kind (slice_get values i) ∷ from_places kinds values (suc i)

one_place_on : (kinds : List Kind) (v : Value) (vs : List Value) (i : ℕ)
    → from_places kinds (v ∷ vs) (suc i) ≡ from_places kinds vs i
one_place_on [] v vs i = refl
one_place_on (kind ∷ kinds) v vs i =
    ap (λ (t : List Value). as_kind kind (slice_get vs i) ∷ t) (one_place_on kinds v vs (suc i))

all_places : (vs : List Value) → from_places (map kind_of vs) vs 0 ≡ vs
all_places [] = refl
all_places (v ∷ vs) =
    ap (λ (x : Value). x ∷ from_places (map kind_of vs) (v ∷ vs) 1) (as_own_kind v)
    ∙ ap (λ (t : List Value). v ∷ t) (one_place_on (map kind_of vs) v vs 0 ∙ all_places vs)

-- values of these kinds are what stands at their places
pub at_their_places : (kinds : List Kind) (vs : List Value) → map kind_of vs ≡ kinds
    → from_places kinds vs 0 ≡ vs
at_their_places kinds vs e = ap (λ (ks : List Kind). from_places ks vs 0) (sym e) ∙ all_places vs
