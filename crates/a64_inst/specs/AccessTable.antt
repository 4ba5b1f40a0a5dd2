-- Written by `python3 tools/instructions.py` from tables/instructions.txt.
-- Loads and stores of one register as data, and back.
use Rattle.std.specs.Prelude.{Option, Some, None}
use Rattle.a64_base.specs.declared.entity.TrapCode.{TrapCode}
use Rattle.a64_base.specs.declared.reg.Reg.{Reg}
use Rattle.a64_base.specs.declared.ir_type.IrType.{IrType}
use Rattle.a64_base.specs.declared.ir_type.IrType.TheVariants.{I8, I16, I32, I64, F16, F32, F64}
use Rattle.a64_base.specs.declared.ir_type.IrType.TheVariants.{I8X16}
use Rattle.a64_ops.specs.declared.access.AccessOp.{AccessOp}
use Rattle.a64_ops.specs.declared.access.AccessOp.TheVariants as ops
use Rattle.a64_inst.specs.declared.access.Access.{Access}
use Rattle.a64_inst.specs.declared.inst.Inst.{Inst}
use Rattle.a64_inst.specs.declared.inst.Inst.TheVariants as insts
use Rattle.a64_inst.specs.declared.mode.AMode.{AMode}

-- the type of the value that is moved
abbrev pub access_type : AccessOp → IrType
access_type ops.ULoad8 = I8
access_type ops.SLoad8 = I8
access_type ops.ULoad16 = I16
access_type ops.SLoad16 = I16
access_type ops.ULoad32 = I32
access_type ops.SLoad32 = I32
access_type ops.ULoad64 = I64
access_type ops.FpuLoad16 = F16
access_type ops.FpuLoad32 = F32
access_type ops.FpuLoad64 = F64
access_type ops.FpuLoad128 = I8X16
access_type ops.Store8 = I8
access_type ops.Store16 = I16
access_type ops.Store32 = I32
access_type ops.Store64 = I64
access_type ops.FpuStore16 = F16
access_type ops.FpuStore32 = F32
access_type ops.FpuStore64 = F64
access_type ops.FpuStore128 = I8X16

-- a load or a store of one register as its operator, its register, its address and what is known of
-- it
abbrev pub access_of : Inst → Option Access
access_of (insts.ULoad8 rd mem flags) =
    Some (record { op = ops.ULoad8; reg = rd; mem = mem; flags = flags })
access_of (insts.SLoad8 rd mem flags) =
    Some (record { op = ops.SLoad8; reg = rd; mem = mem; flags = flags })
access_of (insts.ULoad16 rd mem flags) =
    Some (record { op = ops.ULoad16; reg = rd; mem = mem; flags = flags })
access_of (insts.SLoad16 rd mem flags) =
    Some (record { op = ops.SLoad16; reg = rd; mem = mem; flags = flags })
access_of (insts.ULoad32 rd mem flags) =
    Some (record { op = ops.ULoad32; reg = rd; mem = mem; flags = flags })
access_of (insts.SLoad32 rd mem flags) =
    Some (record { op = ops.SLoad32; reg = rd; mem = mem; flags = flags })
access_of (insts.ULoad64 rd mem flags) =
    Some (record { op = ops.ULoad64; reg = rd; mem = mem; flags = flags })
access_of (insts.FpuLoad16 rd mem flags) =
    Some (record { op = ops.FpuLoad16; reg = rd; mem = mem; flags = flags })
access_of (insts.FpuLoad32 rd mem flags) =
    Some (record { op = ops.FpuLoad32; reg = rd; mem = mem; flags = flags })
access_of (insts.FpuLoad64 rd mem flags) =
    Some (record { op = ops.FpuLoad64; reg = rd; mem = mem; flags = flags })
access_of (insts.FpuLoad128 rd mem flags) =
    Some (record { op = ops.FpuLoad128; reg = rd; mem = mem; flags = flags })
access_of (insts.Store8 rd mem flags) =
    Some (record { op = ops.Store8; reg = rd; mem = mem; flags = flags })
access_of (insts.Store16 rd mem flags) =
    Some (record { op = ops.Store16; reg = rd; mem = mem; flags = flags })
access_of (insts.Store32 rd mem flags) =
    Some (record { op = ops.Store32; reg = rd; mem = mem; flags = flags })
access_of (insts.Store64 rd mem flags) =
    Some (record { op = ops.Store64; reg = rd; mem = mem; flags = flags })
access_of (insts.FpuStore16 rd mem flags) =
    Some (record { op = ops.FpuStore16; reg = rd; mem = mem; flags = flags })
access_of (insts.FpuStore32 rd mem flags) =
    Some (record { op = ops.FpuStore32; reg = rd; mem = mem; flags = flags })
access_of (insts.FpuStore64 rd mem flags) =
    Some (record { op = ops.FpuStore64; reg = rd; mem = mem; flags = flags })
access_of (insts.FpuStore128 rd mem flags) =
    Some (record { op = ops.FpuStore128; reg = rd; mem = mem; flags = flags })
access_of _ = None

-- the instruction of an operator
abbrev pub inst_with : AccessOp → Reg → AMode → Option TrapCode → Inst
inst_with ops.ULoad8 rd mem flags = insts.ULoad8 rd mem flags
inst_with ops.SLoad8 rd mem flags = insts.SLoad8 rd mem flags
inst_with ops.ULoad16 rd mem flags = insts.ULoad16 rd mem flags
inst_with ops.SLoad16 rd mem flags = insts.SLoad16 rd mem flags
inst_with ops.ULoad32 rd mem flags = insts.ULoad32 rd mem flags
inst_with ops.SLoad32 rd mem flags = insts.SLoad32 rd mem flags
inst_with ops.ULoad64 rd mem flags = insts.ULoad64 rd mem flags
inst_with ops.FpuLoad16 rd mem flags = insts.FpuLoad16 rd mem flags
inst_with ops.FpuLoad32 rd mem flags = insts.FpuLoad32 rd mem flags
inst_with ops.FpuLoad64 rd mem flags = insts.FpuLoad64 rd mem flags
inst_with ops.FpuLoad128 rd mem flags = insts.FpuLoad128 rd mem flags
inst_with ops.Store8 rd mem flags = insts.Store8 rd mem flags
inst_with ops.Store16 rd mem flags = insts.Store16 rd mem flags
inst_with ops.Store32 rd mem flags = insts.Store32 rd mem flags
inst_with ops.Store64 rd mem flags = insts.Store64 rd mem flags
inst_with ops.FpuStore16 rd mem flags = insts.FpuStore16 rd mem flags
inst_with ops.FpuStore32 rd mem flags = insts.FpuStore32 rd mem flags
inst_with ops.FpuStore64 rd mem flags = insts.FpuStore64 rd mem flags
inst_with ops.FpuStore128 rd mem flags = insts.FpuStore128 rd mem flags
