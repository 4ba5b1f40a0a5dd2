-- Written by `python3 tools/instructions.py` from tables/instructions.txt.
-- The name of a load or a store of one register, and the register as an operand.
use Rattle.std.specs.Prelude.{ℕ, Bool, if◌then◌else◌, List, codes}
use Rattle.a64_base.specs.declared.reg.Reg.{Reg}
use Rattle.a64_base.specs.declared.size.OperandSize.TheVariants.{Size32, Size64}
use Rattle.a64_base.specs.declared.size.ScalarSize.TheVariants as scalars
use Rattle.a64_ops.specs.declared.access.AccessOp.{AccessOp}
use Rattle.a64_ops.specs.declared.access.AccessOp.TheVariants as ops
use Rattle.a64_operand_text.specs.declared.operand.Operand.{Operand}
use Rattle.a64_operand_text.specs.declared.operand.Operand.TheVariants as operand

-- the name, where the mode that is written has a signed offset of 9 bits, or has not. A vector
-- register has one name.
abbrev pub access_name : Bool → AccessOp → List ℕ
access_name unscaled ops.ULoad8 = if unscaled then codes "ldurb" else codes "ldrb"
access_name unscaled ops.SLoad8 = if unscaled then codes "ldursb" else codes "ldrsb"
access_name unscaled ops.ULoad16 = if unscaled then codes "ldurh" else codes "ldrh"
access_name unscaled ops.SLoad16 = if unscaled then codes "ldursh" else codes "ldrsh"
access_name unscaled ops.ULoad32 = if unscaled then codes "ldur" else codes "ldr"
access_name unscaled ops.SLoad32 = if unscaled then codes "ldursw" else codes "ldrsw"
access_name unscaled ops.ULoad64 = if unscaled then codes "ldur" else codes "ldr"
access_name unscaled ops.FpuLoad16 = codes "ldr"
access_name unscaled ops.FpuLoad32 = codes "ldr"
access_name unscaled ops.FpuLoad64 = codes "ldr"
access_name unscaled ops.FpuLoad128 = codes "ldr"
access_name unscaled ops.Store8 = if unscaled then codes "sturb" else codes "strb"
access_name unscaled ops.Store16 = if unscaled then codes "sturh" else codes "strh"
access_name unscaled ops.Store32 = if unscaled then codes "stur" else codes "str"
access_name unscaled ops.Store64 = if unscaled then codes "stur" else codes "str"
access_name unscaled ops.FpuStore16 = codes "str"
access_name unscaled ops.FpuStore32 = codes "str"
access_name unscaled ops.FpuStore64 = codes "str"
access_name unscaled ops.FpuStore128 = codes "str"

-- the register, at the size that is loaded into it or stored
abbrev pub access_operand : AccessOp → Reg → Operand
access_operand ops.ULoad8 reg = operand.Sized Size32 reg
access_operand ops.SLoad8 reg = operand.Sized Size64 reg
access_operand ops.ULoad16 reg = operand.Sized Size32 reg
access_operand ops.SLoad16 reg = operand.Sized Size64 reg
access_operand ops.ULoad32 reg = operand.Sized Size32 reg
access_operand ops.SLoad32 reg = operand.Sized Size64 reg
access_operand ops.ULoad64 reg = operand.Sized Size64 reg
access_operand ops.FpuLoad16 reg = operand.Scalar scalars.Size16 reg
access_operand ops.FpuLoad32 reg = operand.Scalar scalars.Size32 reg
access_operand ops.FpuLoad64 reg = operand.Scalar scalars.Size64 reg
access_operand ops.FpuLoad128 reg = operand.Scalar scalars.Size128 reg
access_operand ops.Store8 reg = operand.Sized Size32 reg
access_operand ops.Store16 reg = operand.Sized Size32 reg
access_operand ops.Store32 reg = operand.Sized Size32 reg
access_operand ops.Store64 reg = operand.Sized Size64 reg
access_operand ops.FpuStore16 reg = operand.Scalar scalars.Size16 reg
access_operand ops.FpuStore32 reg = operand.Scalar scalars.Size32 reg
access_operand ops.FpuStore64 reg = operand.Scalar scalars.Size64 reg
access_operand ops.FpuStore128 reg = operand.Scalar scalars.Size128 reg
