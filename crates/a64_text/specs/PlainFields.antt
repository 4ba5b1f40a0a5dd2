-- The fields of instructions that are one plain word, in the lines of a file.
use Rattle.std.specs.Prelude.{ℕ, List, [], ◌∷◌, map}
use Rattle.a64_imms.specs.Logic.{logic_value}
use Rattle.a64_inst.specs.declared.inst.Inst.{Inst}
use Rattle.a64_inst.specs.declared.inst.Inst.TheVariants as insts
use Rattle.a64_inst.specs.Fields as fields
use Rattle.a64_inst.specs.Fields.{Operand, Field, Def, Use, Is}
use Rattle.a64_inst.specs.Sheets.{sheet}
use Rattle.a64_read.specs.Heading.{Heading}
use Rattle.a64_read.specs.Values.{kind_of}
use Rattle.a64_tokens.specs.declared.vec_op.VecOp.TheVariants as vec_ops
use Rattle.a64_tokens.specs.declared.value.Value.{Value}
use Rattle.a64_tokens.specs.declared.value.Value.TheVariants as values
use Rattle.a64_text.specs.MovImms.{written_mov}

-- what stands in a file for an operand: for a bitmask immediate its value, for that of a float its
-- eight bits, and for that of a move to lanes its bits, their shift, and whether ones are shifted
-- in
abbrev pub operand_value : Operand → Value
operand_value (fields.AluOp x) = values.AluOp x
operand_value (fields.AluOp3 x) = values.AluOp3 x
operand_value (fields.BitOp x) = values.BitOp x
operand_value (fields.BfmOp x) = values.BfmOp x
operand_value (fields.MoveWideOp x) = values.MoveWideOp x
operand_value (fields.FpuOp1 x) = values.FpuOp1 x
operand_value (fields.FpuOp2 x) = values.FpuOp2 x
operand_value (fields.FpuOp3 x) = values.FpuOp3 x
operand_value (fields.FpuOpRI x) = values.FpuOpRI x
operand_value (fields.FpuOpRIMod x) = values.FpuOpRIMod x
operand_value (fields.FpuToIntOp x) = values.FpuToIntOp x
operand_value (fields.IntToFpuOp x) = values.IntToFpuOp x
operand_value (fields.FpuRoundMode x) = values.FpuRoundMode x
operand_value (fields.VecAluOp x) = values.VecOp (vec_ops.Alu x)
operand_value (fields.VecAluModOp x) = values.VecOp (vec_ops.AluMod x)
operand_value (fields.VecMisc2 x) = values.VecOp (vec_ops.Misc2 x)
operand_value (fields.VecLanesOp x) = values.VecOp (vec_ops.Lanes x)
operand_value (fields.VecExtendOp x) = values.VecOp (vec_ops.Extend x)
operand_value (fields.VecRRLongOp x) = values.VecOp (vec_ops.RRLong x)
operand_value (fields.VecRRNarrowOp x) = values.VecOp (vec_ops.RRNarrow x)
operand_value (fields.VecPairOp x) = values.VecOp (vec_ops.Pair x)
operand_value (fields.VecRRPairLongOp x) = values.VecOp (vec_ops.RRPairLong x)
operand_value (fields.VecRRRLongOp x) = values.VecOp (vec_ops.RRRLong x)
operand_value (fields.VecRRRLongModOp x) = values.VecOp (vec_ops.RRRLongMod x)
operand_value (fields.VecShiftImmOp x) = values.VecOp (vec_ops.ShiftImm x)
operand_value (fields.VecShiftImmModOp x) = values.VecOp (vec_ops.ShiftImmMod x)
operand_value (fields.Size x) = values.Size x
operand_value (fields.ScalarSize x) = values.ScalarSize x
operand_value (fields.VectorSize x) = values.VectorSize x
operand_value (fields.PReg x) = values.PReg x
operand_value (fields.Imm12 x) = values.Imm12 x
operand_value (fields.Logic x) = values.U64 (logic_value x)
operand_value (fields.Wide x) = values.Wide x
operand_value (fields.FloatImm x) = values.U8 x.imm
operand_value (fields.MovImm x) = values.MovImm (written_mov x)
operand_value (fields.ImmShift x) = values.ImmShift x
operand_value (fields.UImm5 x) = values.UImm5 x
operand_value (fields.UImm6 x) = values.UImm6 x
operand_value (fields.Shift x) = values.Shift x
operand_value (fields.Extend x) = values.Extend x
operand_value (fields.Cond x) = values.Cond x
operand_value (fields.Nzcv x) = values.Nzcv x
operand_value (fields.Bool x) = values.Bool x
operand_value (fields.ApiKey x) = values.ApiKey x
operand_value (fields.BranchTargetType x) = values.BranchTargetType x
operand_value (fields.U8 x) = values.U8 x
operand_value (fields.I32 x) = values.I32 x

abbrev pub field_value : Field → Value
field_value (Def class reg) = values.Reg reg
field_value (Use class reg) = values.Reg reg
field_value (Is operand) = operand_value operand

-- the fields of an instruction
abbrev pub inst_fields : Inst → List Value
inst_fields (insts.MovToNZCV rn) = values.Reg rn ∷ []
inst_fields (insts.MovFromNZCV rd) = values.Reg rd ∷ []
inst_fields inst = map field_value (sheet inst)

-- the fields behind the name of an instruction that is one plain word are those of the instruction
abbrev pub plain_heading : List ℕ → Inst → Heading
plain_heading text inst = record { text = text; kinds = map kind_of (inst_fields inst) }
