-- Written by `python3 tools/instructions.py` from tables/instructions.txt.
-- The text of each load and each store, and of addresses of their modes: these depend on the frame.
use Rattle.std.specs.Prelude.{ℕ, List, [], ◌∷◌, ◌++◌, codes}
use Rattle.a64_base.specs.declared.size.ScalarSize.TheVariants as scalars
use Rattle.a64_ops.specs.declared.access.AccessOp.TheVariants as ops
use Rattle.a64_inst.specs.declared.frame.FrameLayout.{FrameLayout}
use Rattle.a64_inst.specs.declared.inst.Inst.{Inst}
use Rattle.a64_inst.specs.declared.inst.Inst.TheVariants as insts
use Rattle.a64_operand_text.specs.declared.operand.Operand.TheVariants as operand
use Rattle.a64_operand_text.specs.Lines.{line_text}
use Rattle.a64_operand_text.specs.MemoryTexts.{access_text, address_text, cas_text, cas128_text}
use Rattle.a64_operand_text.specs.MemoryTexts.{width_size, width_suffix}
use Rattle.a64_ops.specs.Names.{atomic_rmw_op_name}

abbrev pub memory_text : FrameLayout → Inst → List ℕ
memory_text frame (insts.AtomicCAS128 args) = cas128_text args
memory_text frame (insts.VecLoadReplicate rd rn size flags) =
    line_text (codes "ld1r") (operand.Table size rd ∷ operand.Base rn ∷ [])
memory_text frame (insts.StoreRelease access_ty rt rn flags) =
    codes "stlr" ++ line_text (width_suffix access_ty)
    (operand.Sized (width_size access_ty) rt ∷ operand.Base rn ∷ [])
memory_text frame (insts.LoadAcquire access_ty rt rn flags) =
    codes "ldar" ++ line_text (width_suffix access_ty)
    (operand.Sized (width_size access_ty) rt ∷ operand.Base rn ∷ [])
memory_text frame (insts.AtomicCAS rd rs rt rn ty flags) = cas_text ty rd rs rt rn
memory_text frame (insts.StoreP64 rt rt2 mem flags) =
    line_text (codes "stp") (operand.X rt ∷ operand.X rt2 ∷ operand.PairMode mem ∷ [])
memory_text frame (insts.LoadP64 rt rt2 mem flags) =
    line_text (codes "ldp") (operand.X rt ∷ operand.X rt2 ∷ operand.PairMode mem ∷ [])
memory_text frame (insts.FpuStoreP64 rt rt2 mem flags) =
    line_text (codes "stp") (operand.Scalar scalars.Size64 rt ∷ operand.Scalar scalars.Size64 rt2
    ∷ operand.PairMode mem ∷ [])
memory_text frame (insts.FpuLoadP64 rt rt2 mem flags) =
    line_text (codes "ldp") (operand.Scalar scalars.Size64 rt ∷ operand.Scalar scalars.Size64 rt2
    ∷ operand.PairMode mem ∷ [])
memory_text frame (insts.FpuStoreP128 rt rt2 mem flags) =
    line_text (codes "stp") (operand.Scalar scalars.Size128 rt ∷ operand.Scalar scalars.Size128 rt2
    ∷ operand.PairMode mem ∷ [])
memory_text frame (insts.FpuLoadP128 rt rt2 mem flags) =
    line_text (codes "ldp") (operand.Scalar scalars.Size128 rt ∷ operand.Scalar scalars.Size128 rt2
    ∷ operand.PairMode mem ∷ [])
memory_text frame (insts.AtomicRMW ty op rs rt rn flags) =
    atomic_rmw_op_name op ++ line_text (width_suffix ty)
    (operand.Sized (width_size ty) rs ∷ operand.Sized (width_size ty) rt ∷ operand.Base rn ∷ [])
memory_text frame (insts.LoadAddr rd mem) = address_text frame rd mem
memory_text frame (insts.ULoad8 rd mem flags) = access_text frame ops.ULoad8 rd mem
memory_text frame (insts.SLoad8 rd mem flags) = access_text frame ops.SLoad8 rd mem
memory_text frame (insts.ULoad16 rd mem flags) = access_text frame ops.ULoad16 rd mem
memory_text frame (insts.SLoad16 rd mem flags) = access_text frame ops.SLoad16 rd mem
memory_text frame (insts.ULoad32 rd mem flags) = access_text frame ops.ULoad32 rd mem
memory_text frame (insts.SLoad32 rd mem flags) = access_text frame ops.SLoad32 rd mem
memory_text frame (insts.ULoad64 rd mem flags) = access_text frame ops.ULoad64 rd mem
memory_text frame (insts.FpuLoad16 rd mem flags) = access_text frame ops.FpuLoad16 rd mem
memory_text frame (insts.FpuLoad32 rd mem flags) = access_text frame ops.FpuLoad32 rd mem
memory_text frame (insts.FpuLoad64 rd mem flags) = access_text frame ops.FpuLoad64 rd mem
memory_text frame (insts.FpuLoad128 rd mem flags) = access_text frame ops.FpuLoad128 rd mem
memory_text frame (insts.Store8 rd mem flags) = access_text frame ops.Store8 rd mem
memory_text frame (insts.Store16 rd mem flags) = access_text frame ops.Store16 rd mem
memory_text frame (insts.Store32 rd mem flags) = access_text frame ops.Store32 rd mem
memory_text frame (insts.Store64 rd mem flags) = access_text frame ops.Store64 rd mem
memory_text frame (insts.FpuStore16 rd mem flags) = access_text frame ops.FpuStore16 rd mem
memory_text frame (insts.FpuStore32 rd mem flags) = access_text frame ops.FpuStore32 rd mem
memory_text frame (insts.FpuStore64 rd mem flags) = access_text frame ops.FpuStore64 rd mem
memory_text frame (insts.FpuStore128 rd mem flags) = access_text frame ops.FpuStore128 rd mem
memory_text frame _ = []
