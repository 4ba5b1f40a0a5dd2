-- What a field of an instruction that is one plain word is.
use Rattle.std.specs.Prelude.{ℕ, ℤ}
use Rattle.std.specs.Prelude as std
use Rattle.a64_base.specs.declared.cond.Cond as conds
use Rattle.a64_base.specs.declared.key.APIKey.{APIKey}
use Rattle.a64_base.specs.declared.reg.Reg.{Reg}
use Rattle.a64_base.specs.declared.shift.ExtendOp.{ExtendOp}
use Rattle.a64_base.specs.declared.size.OperandSize.{OperandSize}
use Rattle.a64_base.specs.declared.size.ScalarSize as scalar_sizes
use Rattle.a64_base.specs.declared.size.VectorSize as vector_sizes
use Rattle.a64_base.specs.RegisterNumbers.{RealRegister}
use Rattle.a64_base.specs.ShiftParts as shifts
use Rattle.a64_imms.specs.declared.asimd_fp.ASIMDFPModImm.{ASIMDFPModImm}
use Rattle.a64_imms.specs.declared.asimd_mov.ASIMDMovModImm.{ASIMDMovModImm}
use Rattle.a64_imms.specs.declared.flags.NZCV.{NZCV}
use Rattle.a64_imms.specs.declared.imm12.Imm12 as imm12s
use Rattle.a64_imms.specs.declared.imm_logic.ImmLogic.{ImmLogic}
use Rattle.a64_imms.specs.declared.move_wide.MoveWideConst.{MoveWideConst}
use Rattle.a64_imms.specs.declared.unsigned.ImmShift as imm_shifts
use Rattle.a64_imms.specs.declared.unsigned.UImm5 as uimm5s
use Rattle.a64_imms.specs.declared.unsigned.UImm6 as uimm6s
use Rattle.a64_ops.specs.declared.float.FPUOp1.{FPUOp1}
use Rattle.a64_ops.specs.declared.float.FPUOp2.{FPUOp2}
use Rattle.a64_ops.specs.declared.float.FPUOp3.{FPUOp3}
use Rattle.a64_ops.specs.declared.float.FpuRoundMode as fpu_round_modes
use Rattle.a64_ops.specs.declared.float.FpuToIntOp as fpu_to_int_ops
use Rattle.a64_ops.specs.declared.float.IntToFpuOp as int_to_fpu_ops
use Rattle.a64_ops.specs.declared.operator.ALUOp.{ALUOp}
use Rattle.a64_ops.specs.declared.operator.ALUOp3.{ALUOp3}
use Rattle.a64_ops.specs.declared.operator.BfmOp as bfm_ops
use Rattle.a64_ops.specs.declared.operator.BitOp as bit_ops
use Rattle.a64_ops.specs.declared.operator.MoveWideOp as move_wide_ops
use Rattle.a64_ops.specs.declared.system.BranchTargetType as branch_target_types
use Rattle.a64_ops.specs.declared.vector.VecALUModOp.{VecALUModOp}
use Rattle.a64_ops.specs.declared.vector.VecALUOp.{VecALUOp}
use Rattle.a64_ops.specs.declared.vector.VecExtendOp as vec_extend_ops
use Rattle.a64_ops.specs.declared.vector.VecLanesOp as vec_lanes_ops
use Rattle.a64_ops.specs.declared.vector.VecMisc2 as vec_misc_ops
use Rattle.a64_ops.specs.declared.vector.VecPairOp as vec_pair_ops
use Rattle.a64_ops.specs.declared.vector.VecRRLongOp as vec_long_ops
use Rattle.a64_ops.specs.declared.vector.VecRRNarrowOp as vec_narrow_ops
use Rattle.a64_ops.specs.declared.vector.VecRRPairLongOp as vec_pair_long_ops
use Rattle.a64_ops.specs.declared.vector.VecRRRLongModOp as vec_long_mod_ops
use Rattle.a64_ops.specs.declared.vector.VecRRRLongOp as vec_product_ops
use Rattle.a64_ops.specs.declared.vector.VecShiftImmModOp as vec_shift_mod_ops
use Rattle.a64_ops.specs.declared.vector.VecShiftImmOp as vec_shift_ops
use Rattle.a64_operand.specs.declared.class.Class.{Class}
use Rattle.a64_operand.specs.declared.fpu_op.FPUOpRI.{FPUOpRI}
use Rattle.a64_operand.specs.declared.fpu_op.FPUOpRIMod.{FPUOpRIMod}

-- what a field that is no register of an operand's class holds
pub data Operand : Type 0 where
  AluOp : ALUOp → Operand
  AluOp3 : ALUOp3 → Operand
  BitOp : bit_ops.BitOp → Operand
  BfmOp : bfm_ops.BfmOp → Operand
  MoveWideOp : move_wide_ops.MoveWideOp → Operand
  FpuOp1 : FPUOp1 → Operand
  FpuOp2 : FPUOp2 → Operand
  FpuOp3 : FPUOp3 → Operand
  FpuOpRI : FPUOpRI → Operand
  FpuOpRIMod : FPUOpRIMod → Operand
  FpuToIntOp : fpu_to_int_ops.FpuToIntOp → Operand
  IntToFpuOp : int_to_fpu_ops.IntToFpuOp → Operand
  FpuRoundMode : fpu_round_modes.FpuRoundMode → Operand
  VecAluOp : VecALUOp → Operand
  VecAluModOp : VecALUModOp → Operand
  VecMisc2 : vec_misc_ops.VecMisc2 → Operand
  VecLanesOp : vec_lanes_ops.VecLanesOp → Operand
  VecExtendOp : vec_extend_ops.VecExtendOp → Operand
  VecRRLongOp : vec_long_ops.VecRRLongOp → Operand
  VecRRNarrowOp : vec_narrow_ops.VecRRNarrowOp → Operand
  VecPairOp : vec_pair_ops.VecPairOp → Operand
  VecRRPairLongOp : vec_pair_long_ops.VecRRPairLongOp → Operand
  VecRRRLongOp : vec_product_ops.VecRRRLongOp → Operand
  VecRRRLongModOp : vec_long_mod_ops.VecRRRLongModOp → Operand
  VecShiftImmOp : vec_shift_ops.VecShiftImmOp → Operand
  VecShiftImmModOp : vec_shift_mod_ops.VecShiftImmModOp → Operand
  Size : OperandSize → Operand
  ScalarSize : scalar_sizes.ScalarSize → Operand
  VectorSize : vector_sizes.VectorSize → Operand
  PReg : RealRegister → Operand
  Imm12 : imm12s.Imm12 → Operand
  Logic : ImmLogic → Operand
  Wide : MoveWideConst → Operand
  FloatImm : ASIMDFPModImm → Operand
  MovImm : ASIMDMovModImm → Operand
  ImmShift : imm_shifts.ImmShift → Operand
  UImm5 : uimm5s.UImm5 → Operand
  UImm6 : uimm6s.UImm6 → Operand
  Shift : shifts.Shift → Operand
  Extend : ExtendOp → Operand
  Cond : conds.Cond → Operand
  Nzcv : NZCV → Operand
  ApiKey : APIKey → Operand
  BranchTargetType : branch_target_types.BranchTargetType → Operand
  Bool : std.Bool → Operand
  U8 : ℕ → Operand
  I32 : ℤ → Operand

-- a field: a register that is written or read, with its class, or something else
pub data Field : Type 0 where
  Def : Class → Reg → Field
  Use : Class → Reg → Field
  Is : Operand → Field
