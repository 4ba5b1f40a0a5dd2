-- Written by `python3 tools/instructions.py` from tables/instructions.txt.
-- The fields of each instruction that is one plain word, in the order of a file, and what must hold
-- of them (Arm Architecture Reference Manual, C6.2 and C7.2).
use Rattle.std.specs.Prelude.{Bool, true, List, [], ◌∷◌, nat_lt}
use Rattle.a64_base.specs.ScalarSizes.{has_ftype}
use Rattle.a64_operand.specs.declared.class.Class.TheVariants.{Zero, Stack, Vector, Own}
use Rattle.a64_inst.specs.declared.inst.Inst.{Inst}
use Rattle.a64_inst.specs.declared.inst.Inst.TheVariants as insts
use Rattle.a64_operand.specs.declared.virtuals.VirtualRegisters.{VirtualRegisters}
use Rattle.a64_inst.specs.Fields as fields
use Rattle.a64_inst.specs.Fields.{Field, Def, Use, Is}
use Rattle.a64_operand.specs.FloatOperands as float
use Rattle.a64_operand.specs.IntegerOperands as integer
use Rattle.a64_operand.specs.IntegerOperands.{add_sub_class, logic_class}
use Rattle.a64_operand.specs.VectorOperands as vector
use Rattle.a64_operand.specs.Operands.{is_lane, is_near, is_same_register, is_wide_in}

-- the fields
abbrev pub sheet : Inst → List Field
-- the integer operations with immediates
sheet (insts.Adr rd off) = Def Zero rd ∷ Is (fields.I32 off) ∷ []
sheet (insts.Adrp rd off) = Def Zero rd ∷ Is (fields.I32 off) ∷ []
sheet (insts.AluRRImm12 alu_op size rd rn imm12) =
    Is (fields.AluOp alu_op) ∷ Is (fields.Size size) ∷ Def (add_sub_class alu_op) rd ∷ Use Stack rn
    ∷ Is (fields.Imm12 imm12) ∷ []
sheet (insts.AluRRImmLogic alu_op size rd rn imml) =
    Is (fields.AluOp alu_op) ∷ Is (fields.Size size) ∷ Def (logic_class alu_op) rd ∷ Use Zero rn
    ∷ Is (fields.Logic imml) ∷ []
sheet (insts.MovWide op rd imm size) =
    Is (fields.MoveWideOp op) ∷ Def Zero rd ∷ Is (fields.Wide imm) ∷ Is (fields.Size size) ∷ []
sheet (insts.MovK rd rn imm size) =
    Def Zero rd ∷ Use Zero rn ∷ Is (fields.Wide imm) ∷ Is (fields.Size size) ∷ []
sheet (insts.AluRRImmShift alu_op size rd rn immshift) =
    Is (fields.AluOp alu_op) ∷ Is (fields.Size size) ∷ Def Zero rd ∷ Use Zero rn
    ∷ Is (fields.ImmShift immshift) ∷ []
sheet (insts.Extend rd rn signed from_bits to_bits) =
    Def Own rd ∷ Use Zero rn ∷ Is (fields.Bool signed) ∷ Is (fields.U8 from_bits)
    ∷ Is (fields.U8 to_bits) ∷ []
sheet (insts.BitfieldMove size bfm_op rd rn immr imms) =
    Is (fields.Size size) ∷ Is (fields.BfmOp bfm_op) ∷ Def Zero rd ∷ Use Zero rn
    ∷ Is (fields.UImm6 immr) ∷ Is (fields.UImm6 imms) ∷ []
sheet (insts.BitfieldMoveMod size rd ri rn immr imms) =
    Is (fields.Size size) ∷ Def Zero rd ∷ Use Zero ri ∷ Use Zero rn ∷ Is (fields.UImm6 immr)
    ∷ Is (fields.UImm6 imms) ∷ []
-- the integer operations on registers
sheet (insts.AluRRR alu_op size rd rn rm) =
    Is (fields.AluOp alu_op) ∷ Is (fields.Size size) ∷ Def Zero rd ∷ Use Zero rn ∷ Use Zero rm ∷ []
sheet (insts.BitRR op size rd rn) =
    Is (fields.BitOp op) ∷ Is (fields.Size size) ∷ Def Zero rd ∷ Use Zero rn ∷ []
sheet (insts.AluRRRShift alu_op size rd rn rm shiftop) =
    Is (fields.AluOp alu_op) ∷ Is (fields.Size size) ∷ Def Zero rd ∷ Use Zero rn ∷ Use Zero rm
    ∷ Is (fields.Shift shiftop) ∷ []
sheet (insts.Mov size rd rm) = Is (fields.Size size) ∷ Def Own rd ∷ Use Own rm ∷ []
sheet (insts.MovFromPReg rd rm) = Def Own rd ∷ Is (fields.PReg rm) ∷ []
sheet (insts.MovToPReg rd rm) = Is (fields.PReg rd) ∷ Use Own rm ∷ []
sheet (insts.AluRRRExtend alu_op size rd rn rm extendop) =
    Is (fields.AluOp alu_op) ∷ Is (fields.Size size) ∷ Def (add_sub_class alu_op) rd ∷ Use Stack rn
    ∷ Use Zero rm ∷ Is (fields.Extend extendop) ∷ []
sheet (insts.CCmp size rn rm nzcv cond) =
    Is (fields.Size size) ∷ Use Zero rn ∷ Use Zero rm ∷ Is (fields.Nzcv nzcv)
    ∷ Is (fields.Cond cond) ∷ []
sheet (insts.CCmpImm size rn imm nzcv cond) =
    Is (fields.Size size) ∷ Use Zero rn ∷ Is (fields.UImm5 imm) ∷ Is (fields.Nzcv nzcv)
    ∷ Is (fields.Cond cond) ∷ []
sheet (insts.CSel rd rn rm cond) =
    Def Zero rd ∷ Use Zero rn ∷ Use Zero rm ∷ Is (fields.Cond cond) ∷ []
sheet (insts.CSet rd cond) = Def Zero rd ∷ Is (fields.Cond cond) ∷ []
sheet (insts.CSetm rd cond) = Def Zero rd ∷ Is (fields.Cond cond) ∷ []
sheet (insts.CSNeg rd rn rm cond) =
    Def Zero rd ∷ Use Zero rn ∷ Use Zero rm ∷ Is (fields.Cond cond) ∷ []
sheet (insts.AluRRRR alu_op size rd rn rm ra) =
    Is (fields.AluOp3 alu_op) ∷ Is (fields.Size size) ∷ Def Zero rd ∷ Use Zero rn ∷ Use Zero rm
    ∷ Use Zero ra ∷ []
-- the operations on scalar floats
sheet (insts.FpuMoveFromVec rd rn idx size) =
    Def Vector rd ∷ Use Vector rn ∷ Is (fields.U8 idx) ∷ Is (fields.VectorSize size) ∷ []
sheet (insts.FpuRRI fpu_op rd rn) = Is (fields.FpuOpRI fpu_op) ∷ Def Vector rd ∷ Use Vector rn ∷ []
sheet (insts.FpuRRIMod fpu_op rd ri rn) =
    Is (fields.FpuOpRIMod fpu_op) ∷ Def Vector rd ∷ Use Vector ri ∷ Use Vector rn ∷ []
sheet (insts.FpuMove128 rd rn) = Def Vector rd ∷ Use Vector rn ∷ []
sheet (insts.FpuToInt op rd rn) = Is (fields.FpuToIntOp op) ∷ Def Zero rd ∷ Use Vector rn ∷ []
sheet (insts.IntToFpu op rd rn) = Is (fields.IntToFpuOp op) ∷ Def Vector rd ∷ Use Zero rn ∷ []
sheet (insts.MovToFpu rd rn scalar) =
    Def Vector rd ∷ Use Zero rn ∷ Is (fields.ScalarSize scalar) ∷ []
sheet (insts.FpuMove32 rd rn) = Def Vector rd ∷ Use Vector rn ∷ []
sheet (insts.FpuMove64 rd rn) = Def Vector rd ∷ Use Vector rn ∷ []
sheet (insts.FpuExtend rd rn scalar) =
    Def Vector rd ∷ Use Vector rn ∷ Is (fields.ScalarSize scalar) ∷ []
sheet (insts.FpuRR fpu_op scalar rd rn) =
    Is (fields.FpuOp1 fpu_op) ∷ Is (fields.ScalarSize scalar) ∷ Def Vector rd ∷ Use Vector rn ∷ []
sheet (insts.FpuRound op rd rn) = Is (fields.FpuRoundMode op) ∷ Def Vector rd ∷ Use Vector rn ∷ []
sheet (insts.FpuCmp scalar rn rm) =
    Is (fields.ScalarSize scalar) ∷ Use Vector rn ∷ Use Vector rm ∷ []
sheet (insts.FpuMoveFPImm rd imm scalar) =
    Def Vector rd ∷ Is (fields.FloatImm imm) ∷ Is (fields.ScalarSize scalar) ∷ []
sheet (insts.FpuRRR fpu_op scalar rd rn rm) =
    Is (fields.FpuOp2 fpu_op) ∷ Is (fields.ScalarSize scalar) ∷ Def Vector rd ∷ Use Vector rn
    ∷ Use Vector rm ∷ []
sheet (insts.FpuCSel16 rd rn rm cond) =
    Def Vector rd ∷ Use Vector rn ∷ Use Vector rm ∷ Is (fields.Cond cond) ∷ []
sheet (insts.FpuCSel32 rd rn rm cond) =
    Def Vector rd ∷ Use Vector rn ∷ Use Vector rm ∷ Is (fields.Cond cond) ∷ []
sheet (insts.FpuCSel64 rd rn rm cond) =
    Def Vector rd ∷ Use Vector rn ∷ Use Vector rm ∷ Is (fields.Cond cond) ∷ []
sheet (insts.FpuRRRR fpu_op scalar rd rn rm ra) =
    Is (fields.FpuOp3 fpu_op) ∷ Is (fields.ScalarSize scalar) ∷ Def Vector rd ∷ Use Vector rn
    ∷ Use Vector rm ∷ Use Vector ra ∷ []
-- the operations on vectors
sheet (insts.VecRRPair op rd rn) = Is (fields.VecPairOp op) ∷ Def Vector rd ∷ Use Vector rn ∷ []
sheet (insts.VecMisc op rd rn size) =
    Is (fields.VecMisc2 op) ∷ Def Vector rd ∷ Use Vector rn ∷ Is (fields.VectorSize size) ∷ []
sheet (insts.VecRRLong op rd rn high_half) =
    Is (fields.VecRRLongOp op) ∷ Def Vector rd ∷ Use Vector rn ∷ Is (fields.Bool high_half) ∷ []
sheet (insts.VecRRNarrowLow op rd rn lane_size) =
    Is (fields.VecRRNarrowOp op) ∷ Def Vector rd ∷ Use Vector rn ∷ Is (fields.ScalarSize lane_size)
    ∷ []
sheet (insts.VecRRNarrowHigh op rd ri rn lane_size) =
    Is (fields.VecRRNarrowOp op) ∷ Def Vector rd ∷ Use Vector ri ∷ Use Vector rn
    ∷ Is (fields.ScalarSize lane_size) ∷ []
sheet (insts.VecRRPairLong op rd rn) =
    Is (fields.VecRRPairLongOp op) ∷ Def Vector rd ∷ Use Vector rn ∷ []
sheet (insts.VecLanes op rd rn size) =
    Is (fields.VecLanesOp op) ∷ Def Vector rd ∷ Use Vector rn ∷ Is (fields.VectorSize size) ∷ []
sheet (insts.VecRRRLong alu_op rd rn rm high_half) =
    Is (fields.VecRRRLongOp alu_op) ∷ Def Vector rd ∷ Use Vector rn ∷ Use Vector rm
    ∷ Is (fields.Bool high_half) ∷ []
sheet (insts.VecRRRLongMod alu_op rd ri rn rm high_half) =
    Is (fields.VecRRRLongModOp alu_op) ∷ Def Vector rd ∷ Use Vector ri ∷ Use Vector rn
    ∷ Use Vector rm ∷ Is (fields.Bool high_half) ∷ []
sheet (insts.VecRRR alu_op rd rn rm size) =
    Is (fields.VecAluOp alu_op) ∷ Def Vector rd ∷ Use Vector rn ∷ Use Vector rm
    ∷ Is (fields.VectorSize size) ∷ []
sheet (insts.VecRRRMod alu_op rd ri rn rm size) =
    Is (fields.VecAluModOp alu_op) ∷ Def Vector rd ∷ Use Vector ri ∷ Use Vector rn ∷ Use Vector rm
    ∷ Is (fields.VectorSize size) ∷ []
sheet (insts.VecExtend t rd rn high_half lane_size) =
    Is (fields.VecExtendOp t) ∷ Def Vector rd ∷ Use Vector rn ∷ Is (fields.Bool high_half)
    ∷ Is (fields.ScalarSize lane_size) ∷ []
sheet (insts.VecShiftImm op rd rn size imm) =
    Is (fields.VecShiftImmOp op) ∷ Def Vector rd ∷ Use Vector rn ∷ Is (fields.VectorSize size)
    ∷ Is (fields.U8 imm) ∷ []
sheet (insts.VecShiftImmMod op rd ri rn size imm) =
    Is (fields.VecShiftImmModOp op) ∷ Def Vector rd ∷ Use Vector ri ∷ Use Vector rn
    ∷ Is (fields.VectorSize size) ∷ Is (fields.U8 imm) ∷ []
sheet (insts.VecFmlaElem alu_op rd ri rn rm size idx) =
    Is (fields.VecAluModOp alu_op) ∷ Def Vector rd ∷ Use Vector ri ∷ Use Vector rn ∷ Use Vector rm
    ∷ Is (fields.VectorSize size) ∷ Is (fields.U8 idx) ∷ []
-- the moves of lanes and the tables of bytes
sheet (insts.VecTbl rd rn rm) = Def Vector rd ∷ Use Vector rn ∷ Use Vector rm ∷ []
sheet (insts.VecTblExt rd ri rn rm) =
    Def Vector rd ∷ Use Vector ri ∷ Use Vector rn ∷ Use Vector rm ∷ []
sheet (insts.VecTbl2 rd rn rn2 rm) =
    Def Vector rd ∷ Use Vector rn ∷ Use Vector rn2 ∷ Use Vector rm ∷ []
sheet (insts.VecTbl2Ext rd ri rn rn2 rm) =
    Def Vector rd ∷ Use Vector ri ∷ Use Vector rn ∷ Use Vector rn2 ∷ Use Vector rm ∷ []
sheet (insts.VecExtract rd rn rm imm4) =
    Def Vector rd ∷ Use Vector rn ∷ Use Vector rm ∷ Is (fields.U8 imm4) ∷ []
sheet (insts.VecDupFromFpu rd rn size lane) =
    Def Vector rd ∷ Use Vector rn ∷ Is (fields.VectorSize size) ∷ Is (fields.U8 lane) ∷ []
sheet (insts.VecDup rd rn size) = Def Vector rd ∷ Use Zero rn ∷ Is (fields.VectorSize size) ∷ []
sheet (insts.MovFromVecSigned rd rn idx size scalar_size) =
    Def Zero rd ∷ Use Vector rn ∷ Is (fields.U8 idx) ∷ Is (fields.VectorSize size)
    ∷ Is (fields.Size scalar_size) ∷ []
sheet (insts.MovFromVec rd rn idx scalar) =
    Def Zero rd ∷ Use Vector rn ∷ Is (fields.U8 idx) ∷ Is (fields.ScalarSize scalar) ∷ []
sheet (insts.MovToVec rd ri rn idx size) =
    Def Vector rd ∷ Use Vector ri ∷ Use Zero rn ∷ Is (fields.U8 idx) ∷ Is (fields.VectorSize size)
    ∷ []
sheet (insts.VecMovElement rd ri rn dest_idx src_idx size) =
    Def Vector rd ∷ Use Vector ri ∷ Use Vector rn ∷ Is (fields.U8 dest_idx) ∷ Is (fields.U8 src_idx)
    ∷ Is (fields.VectorSize size) ∷ []
sheet (insts.VecDupFPImm rd imm size) =
    Def Vector rd ∷ Is (fields.FloatImm imm) ∷ Is (fields.VectorSize size) ∷ []
sheet (insts.VecDupImm rd imm invert size) =
    Def Vector rd ∷ Is (fields.MovImm imm) ∷ Is (fields.Bool invert) ∷ Is (fields.VectorSize size)
    ∷ []
-- the hints and barriers
sheet insts.Xpaclri = []
sheet insts.Csdb = []
sheet (insts.Paci key) = Is (fields.ApiKey key) ∷ []
sheet (insts.Bti targets) = Is (fields.BranchTargetType targets) ∷ []
sheet insts.Fence = []
-- the others are no plain words
sheet _ = []

-- what must hold beside the classes of the registers
abbrev pub has_rest : VirtualRegisters → Inst → Bool
has_rest virtuals (insts.Adr rd off) = is_near off
has_rest virtuals (insts.Adrp rd off) = is_near off
has_rest virtuals (insts.AluRRImm12 alu_op size rd rn imm12) = integer.is_add_sub_imm12 alu_op imm12
has_rest virtuals (insts.AluRRImmLogic alu_op size rd rn imml) =
    integer.is_logic_imm alu_op size imml
has_rest virtuals (insts.MovWide op rd imm size) = is_wide_in size imm
has_rest virtuals (insts.MovK rd rn imm size) = integer.is_kept rd rn imm size
has_rest virtuals (insts.AluRRImmShift alu_op size rd rn immshift) =
    integer.is_shift_by alu_op size immshift
has_rest virtuals (insts.Extend rd rn signed from_bits to_bits) =
    integer.is_extended virtuals rd signed from_bits to_bits
has_rest virtuals (insts.BitfieldMove size bfm_op rd rn immr imms) =
    integer.is_bitfield size immr imms
has_rest virtuals (insts.BitfieldMoveMod size rd ri rn immr imms) =
    integer.is_kept_bitfield rd ri size immr imms
has_rest virtuals (insts.AluRRR alu_op size rd rn rm) = integer.is_product_at alu_op size
has_rest virtuals (insts.BitRR op size rd rn) = integer.is_bit_op_at op size
has_rest virtuals (insts.AluRRRShift alu_op size rd rn rm shiftop) =
    integer.is_shifted alu_op size shiftop
has_rest virtuals (insts.Mov size rd rm) = integer.is_move virtuals size rd rm
has_rest virtuals (insts.MovFromPReg rd rm) = integer.is_move_from virtuals rd rm
has_rest virtuals (insts.MovToPReg rd rm) = integer.is_move_to virtuals rd rm
has_rest virtuals (insts.AluRRRExtend alu_op size rd rn rm extendop) = integer.is_add_sub alu_op
has_rest virtuals (insts.AluRRRR alu_op size rd rn rm ra) = integer.is_long_product_at alu_op size
has_rest virtuals (insts.FpuMoveFromVec rd rn idx size) = float.is_float_lane size idx
has_rest virtuals (insts.FpuRRI fpu_op rd rn) = float.is_right_shift fpu_op
has_rest virtuals (insts.FpuRRIMod fpu_op rd ri rn) = float.is_kept_shift rd ri fpu_op
has_rest virtuals (insts.MovToFpu rd rn scalar) = has_ftype scalar
has_rest virtuals (insts.FpuExtend rd rn scalar) = has_ftype scalar
has_rest virtuals (insts.FpuRR fpu_op scalar rd rn) = float.is_fpu_op1_at fpu_op scalar
has_rest virtuals (insts.FpuCmp scalar rn rm) = has_ftype scalar
has_rest virtuals (insts.FpuMoveFPImm rd imm scalar) = float.is_float_imm_of scalar imm
has_rest virtuals (insts.FpuRRR fpu_op scalar rd rn rm) = has_ftype scalar
has_rest virtuals (insts.FpuRRRR fpu_op scalar rd rn rm ra) = has_ftype scalar
has_rest virtuals (insts.VecMisc op rd rn size) = vector.is_misc_at op size
has_rest virtuals (insts.VecRRNarrowLow op rd rn lane_size) = vector.is_narrow_at op lane_size
has_rest virtuals (insts.VecRRNarrowHigh op rd ri rn lane_size) =
    vector.is_kept_narrow rd ri op lane_size
has_rest virtuals (insts.VecLanes op rd rn size) = vector.is_across size
has_rest virtuals (insts.VecRRRLongMod alu_op rd ri rn rm high_half) = is_same_register rd ri
has_rest virtuals (insts.VecRRR alu_op rd rn rm size) = vector.is_alu_at alu_op size
has_rest virtuals (insts.VecRRRMod alu_op rd ri rn rm size) = vector.is_mod_at rd ri alu_op size
has_rest virtuals (insts.VecExtend t rd rn high_half lane_size) = has_ftype lane_size
has_rest virtuals (insts.VecShiftImm op rd rn size imm) = vector.is_amount op size imm
has_rest virtuals (insts.VecShiftImmMod op rd ri rn size imm) = vector.is_kept_amount rd ri size imm
has_rest virtuals (insts.VecFmlaElem alu_op rd ri rn rm size idx) =
    vector.is_elem_at rd ri alu_op size idx
has_rest virtuals (insts.VecTblExt rd ri rn rm) = is_same_register rd ri
has_rest virtuals (insts.VecTbl2 rd rn rn2 rm) = vector.is_next_vector rn rn2
has_rest virtuals (insts.VecTbl2Ext rd ri rn rn2 rm) = vector.is_kept_table rd ri rn rn2
has_rest virtuals (insts.VecExtract rd rn rm imm4) = nat_lt imm4 16
has_rest virtuals (insts.VecDupFromFpu rd rn size lane) = is_lane size lane
has_rest virtuals (insts.MovFromVecSigned rd rn idx size scalar_size) =
    vector.is_signed_lane size idx scalar_size
has_rest virtuals (insts.MovFromVec rd rn idx scalar) = vector.is_scalar_lane scalar idx
has_rest virtuals (insts.MovToVec rd ri rn idx size) = vector.is_kept_lane rd ri size idx
has_rest virtuals (insts.VecMovElement rd ri rn dest_idx src_idx size) =
    vector.are_kept_lanes rd ri size dest_idx src_idx
has_rest virtuals (insts.VecDupFPImm rd imm size) = vector.is_float_imm_in size imm
has_rest virtuals (insts.VecDupImm rd imm invert size) = vector.is_mov_imm_in size imm invert
has_rest virtuals _ = true
