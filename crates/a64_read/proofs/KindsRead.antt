-- What is read for a kind is what a field of the kind says.
use Rattle.std.proofs.Common.{◌≡◌, ℕ, List, Option, Some, sym, subst}
use Rattle.std.specs.Prelude.{IfSome}
use Rattle.a64_tokens.specs.declared.value.Kind.{Kind}
use Rattle.a64_tokens.specs.declared.value.Kind.TheVariants as kinds
use Rattle.a64_tokens.specs.declared.vec_op.VecOp.TheVariants as vec_ops
use Rattle.a64_tokens.specs.declared.vec_op.VecOpKind.TheVariants as vec_kinds
use Rattle.a64_tokens.specs.declared.value.Value.{Value}
use Rattle.a64_tokens.specs.declared.value.Value.TheVariants as values
use Rattle.a64_tokens.specs.Reads.{Reads}
use Rattle.a64_read.specs.Values.{kind_of, value_text, IsValue, IsOf, ReadsKind}

some_of : (kind : Kind) (token : List ℕ) (r : Option Value) → ReadsKind kind token r → IfSome r (λ v. IsOf kind v × (token ≡ value_text v))
unfolding ReadsKind
some_of kinds.AluOp token r h = h.some
some_of (kinds.VecOp vec_kinds.Alu) token r h = h.some
some_of (kinds.VecOp _) token r h = h.some
some_of _ token r h = h.some

-- a line for each kind
only_of : (v : Value) (token : List ℕ) (r : Option Value) → ReadsKind (kind_of v) token r → IsValue v → token ≡ value_text v → r ≡ Some v
unfolding ReadsKind
only_of (values.AluOp x) token r h = h.only x
only_of (values.AluOp3 x) token r h = h.only x
only_of (values.BitOp x) token r h = h.only x
only_of (values.BfmOp x) token r h = h.only x
only_of (values.AtomicRmwOp x) token r h = h.only x
only_of (values.AtomicRmwLoopOp x) token r h = h.only x
only_of (values.MoveWideOp x) token r h = h.only x
only_of (values.FpuOp1 x) token r h = h.only x
only_of (values.FpuOp2 x) token r h = h.only x
only_of (values.FpuOp3 x) token r h = h.only x
only_of (values.FpuOpRI x) token r h = h.only x
only_of (values.FpuOpRIMod x) token r h = h.only x
only_of (values.FpuToIntOp x) token r h = h.only x
only_of (values.IntToFpuOp x) token r h = h.only x
only_of (values.FpuRoundMode x) token r h = h.only x
only_of (values.VecOp (vec_ops.Alu x)) token r h = h.only x
only_of (values.VecOp (vec_ops.AluMod x)) token r h = h.only x
only_of (values.VecOp (vec_ops.Misc2 x)) token r h = h.only x
only_of (values.VecOp (vec_ops.Lanes x)) token r h = h.only x
only_of (values.VecOp (vec_ops.Extend x)) token r h = h.only x
only_of (values.VecOp (vec_ops.RRLong x)) token r h = h.only x
only_of (values.VecOp (vec_ops.RRNarrow x)) token r h = h.only x
only_of (values.VecOp (vec_ops.Pair x)) token r h = h.only x
only_of (values.VecOp (vec_ops.RRPairLong x)) token r h = h.only x
only_of (values.VecOp (vec_ops.RRRLong x)) token r h = h.only x
only_of (values.VecOp (vec_ops.RRRLongMod x)) token r h = h.only x
only_of (values.VecOp (vec_ops.ShiftImm x)) token r h = h.only x
only_of (values.VecOp (vec_ops.ShiftImmMod x)) token r h = h.only x
only_of (values.Size x) token r h = h.only x
only_of (values.ScalarSize x) token r h = h.only x
only_of (values.VectorSize x) token r h = h.only x
only_of (values.Reg x) token r h = h.only x
only_of (values.PReg x) token r h = h.only x
only_of (values.Imm12 x) token r h = h.only x
only_of (values.Wide x) token r h = h.only x
only_of (values.MovImm x) token r h = h.only x
only_of (values.ImmShift x) token r h = h.only x
only_of (values.UImm5 x) token r h = h.only x
only_of (values.UImm6 x) token r h = h.only x
only_of (values.Shift x) token r h = h.only x
only_of (values.Extend x) token r h = h.only x
only_of (values.Cond x) token r h = h.only x
only_of (values.Nzcv x) token r h = h.only x
only_of (values.Bool x) token r h = h.only x
only_of (values.U8 x) token r h = h.only x
only_of (values.U32 x) token r h = h.only x
only_of (values.U64 x) token r h = h.only x
only_of (values.I32 x) token r h = h.only x
only_of (values.Target x) token r h = h.only x
only_of (values.Label x) token r h = h.only x
only_of (values.FrameField x) token r h = h.only x
only_of (values.EmitFlag x) token r h = h.only x
only_of (values.I64 x) token r h = h.only x
only_of (values.Offset9 x) token r h = h.only x
only_of (values.Type x) token r h = h.only x
only_of (values.MemLabelName x) token r h = h.only x
only_of (values.Mode x) token r h = h.only x
only_of (values.PairMode x) token r h = h.only x
only_of (values.Flags x) token r h = h.only x
only_of (values.CondBrKind x) token r h = h.only x
only_of (values.TestBitAndBranchKind x) token r h = h.only x
only_of (values.BranchTargetType x) token r h = h.only x
only_of (values.List x) token r h = h.only x
only_of (values.Convention x) token r h = h.only x
only_of (values.Key x) token r h = h.only x
only_of (values.ApiKey x) token r h = h.only x
only_of (values.Map x) token r h = h.only x

pub kind_read : (kind : Kind) (token : List ℕ) (r : Option Value) → ReadsKind kind token r → Reads (IsOf kind) value_text token r
kind_read kind token r h = record {
  some = some_of kind token r h;
  only = λ v fits e. only_of v token r (subst (λ (k : Kind). ReadsKind k token r) (sym fits.0) h) fits.1 e;
}
