-- Written by `python3 tools/instructions.py` from tables/instructions.txt.
-- The form of each instruction that is one plain word (Arm Architecture Reference Manual, DDI 0487,
-- C4.1, "Data Processing -- Immediate", "Data Processing -- Register", "Data Processing -- Scalar
-- Floating-Point and Advanced SIMD", and hints and barriers of "Branches, Exception Generating and
-- System instructions").
use Rattle.std.specs.Prelude.{true, false, Option, None, Some}
use Rattle.a64_base.specs.declared.reg.RegKind.TheVariants.{Real}
use Rattle.a64_base.specs.declared.size.OperandSize.TheVariants.{Size64}
use Rattle.a64_base.specs.declared.size.ScalarSize.TheVariants as scalars
use Rattle.a64_base.specs.Conditions.{condition_bits, inverse_of}
use Rattle.a64_base.specs.OperandSizes.{sf_of}
use Rattle.a64_imms.specs.Flags.{flags_of, nzcv_bits}
use Rattle.a64_imms.specs.Unsigned.{uimm5_value}
use Rattle.a64_inst.specs.declared.inst.Inst.{Inst}
use Rattle.a64_inst.specs.declared.inst.Inst.TheVariants as insts
use Rattle.a64_rows.specs.Forms.{Form}
use Rattle.a64_rows.specs.Control.{barrier}
use Rattle.a64_rows.specs.DataProcessing.{bitfield, cond_compare, cond_select, data_proc1}
use Rattle.a64_enc_int.specs.Operators.{bit_of}
use Rattle.a64_enc_int.specs.Registers.{register_field}
use Rattle.a64_cells.specs.ControlForms as control
use Rattle.a64_cells.specs.FloatForms as float
use Rattle.a64_cells.specs.IntegerForms as integer
use Rattle.a64_cells.specs.IntegerForms.{bfm_opc, bit_opcode, product_form, shifted_form}
use Rattle.a64_cells.specs.IntegerForms.{two_registers}
use Rattle.a64_cells.specs.VectorForms as vector
use Rattle.a64_enc_vec.specs.VectorOperators as operators

abbrev pub plain_form : Inst → Option Form
-- ---- the integer operations with immediates
-- PC-rel. addressing
plain_form (insts.Adr rd off) = Some (integer.adr_form rd off)
plain_form (insts.Adrp rd off) = Some (integer.adrp_form rd off)
-- Add/subtract (immediate)
plain_form (insts.AluRRImm12 alu_op size rd rn imm12) =
    Some (integer.alu_rr_imm12_form alu_op size rd rn imm12)
-- Logical (immediate)
plain_form (insts.AluRRImmLogic alu_op size rd rn imml) =
    Some (integer.alu_rr_imm_logic_form alu_op size rd rn imml)
-- Move wide (immediate)
plain_form (insts.MovWide op rd imm size) = Some (integer.mov_wide_form op rd imm size)
plain_form (insts.MovK rd rn imm size) = Some (integer.mov_k_form rd imm size)
-- Bitfield, Extract
plain_form (insts.AluRRImmShift alu_op size rd rn immshift) =
    Some (integer.alu_rr_imm_shift_form alu_op size rd rn immshift)
-- Bitfield
plain_form (insts.Extend rd rn signed from_bits to_bits) =
    Some (integer.extend_form rd rn signed from_bits to_bits)
plain_form (insts.BitfieldMove size bfm_op rd rn immr imms) =
    Some (bitfield (record {
      sf = sf_of size;
      opc = bfm_opc bfm_op;
      immr = immr.imm;
      imms = imms.imm;
      rn = register_field rn;
      rd = register_field rd;
    }))
plain_form (insts.BitfieldMoveMod size rd ri rn immr imms) =
    Some (bitfield (record {
      sf = sf_of size;
      opc = 1;
      immr = immr.imm;
      imms = imms.imm;
      rn = register_field rn;
      rd = register_field rd;
    }))
-- ---- the integer operations on registers
-- Data-processing (2 source), Logical and Add/subtract (shifted register), Add/subtract (with
-- carry), Data-processing (3 source)
plain_form (insts.AluRRR alu_op size rd rn rm) = Some (integer.alu_rrr_form alu_op size rd rn rm)
-- Data-processing (1 source)
plain_form (insts.BitRR op size rd rn) =
    Some (data_proc1 (record {
      sf = sf_of size;
      op6 = bit_opcode op;
      rn = register_field rn;
      rd = register_field rd;
    }))
-- Logical and Add/subtract (shifted register), Extract
plain_form (insts.AluRRRShift alu_op size rd rn rm shiftop) =
    Some (shifted_form alu_op shiftop (two_registers size rd rn rm))
-- Logical (shifted register), Add/subtract (immediate)
plain_form (insts.Mov size rd rm) = Some (integer.mov_form size rd rm)
plain_form (insts.MovFromPReg rd rm) = Some (integer.mov_form Size64 rd (Real rm))
plain_form (insts.MovToPReg rd rm) = Some (integer.mov_form Size64 (Real rd) rm)
-- Add/subtract (extended register)
plain_form (insts.AluRRRExtend alu_op size rd rn rm extendop) =
    Some (integer.alu_rrr_extend_form alu_op size rd rn rm extendop)
-- Conditional compare (register)
plain_form (insts.CCmp size rn rm nzcv cond) =
    Some (cond_compare (record {
      sf = sf_of size;
      rm = register_field rm;
      cond = condition_bits cond;
      imm = 0;
      rn = register_field rn;
      nzcv = nzcv_bits (flags_of nzcv);
    }))
-- Conditional compare (immediate)
plain_form (insts.CCmpImm size rn imm nzcv cond) =
    Some (cond_compare (record {
      sf = sf_of size;
      rm = uimm5_value imm;
      cond = condition_bits cond;
      imm = 1;
      rn = register_field rn;
      nzcv = nzcv_bits (flags_of nzcv);
    }))
-- Conditional select
plain_form (insts.CSel rd rn rm cond) = Some (integer.csel_form rd rn rm cond)
plain_form (insts.CSet rd cond) =
    Some (cond_select (record {
      op = 0;
      rm = 31;
      cond = condition_bits (inverse_of cond);
      o2 = 1;
      rn = 31;
      rd = register_field rd;
    }))
plain_form (insts.CSetm rd cond) =
    Some (cond_select (record {
      op = 1;
      rm = 31;
      cond = condition_bits (inverse_of cond);
      o2 = 0;
      rn = 31;
      rd = register_field rd;
    }))
plain_form (insts.CSNeg rd rn rm cond) =
    Some (cond_select (record {
      op = 1;
      rm = register_field rm;
      cond = condition_bits cond;
      o2 = 1;
      rn = register_field rn;
      rd = register_field rd;
    }))
-- Data-processing (3 source)
plain_form (insts.AluRRRR alu_op size rd rn rm ra) =
    Some (product_form alu_op (register_field ra) (two_registers size rd rn rm))
-- ---- the operations on scalar floats
-- Advanced SIMD scalar copy
plain_form (insts.FpuMoveFromVec rd rn idx size) = Some (float.move_lane_form size idx rd rn)
-- Advanced SIMD shift by immediate, and scalar shift by immediate
plain_form (insts.FpuRRI fpu_op rd rn) = Some (float.right_shift_form fpu_op rd rn)
plain_form (insts.FpuRRIMod fpu_op rd ri rn) = Some (float.kept_shift_form fpu_op rd rn)
-- Advanced SIMD three same
plain_form (insts.FpuMove128 rd rn) = Some (float.move_vector_form rd rn)
-- Conversion between floating-point and integer
plain_form (insts.FpuToInt op rd rn) = Some (float.conversion_form (float.to_int op) rd rn)
plain_form (insts.IntToFpu op rd rn) = Some (float.conversion_form (float.from_int op) rd rn)
plain_form (insts.MovToFpu rd rn scalar) =
    Some (float.conversion_form (float.bits_to_float scalar) rd rn)
-- Floating-point data-processing (1 source)
plain_form (insts.FpuMove32 rd rn) = Some (float.move_form scalars.Size32 rd rn)
plain_form (insts.FpuMove64 rd rn) = Some (float.move_form scalars.Size64 rd rn)
plain_form (insts.FpuExtend rd rn scalar) = Some (float.move_form scalar rd rn)
plain_form (insts.FpuRR fpu_op scalar rd rn) = Some (float.one_float_form fpu_op scalar rd rn)
plain_form (insts.FpuRound op rd rn) = Some (float.round_form op rd rn)
-- Floating-point compare
plain_form (insts.FpuCmp scalar rn rm) = Some (float.compare_form scalar rn rm)
-- Floating-point immediate
plain_form (insts.FpuMoveFPImm rd imm scalar) = Some (float.immediate_form scalar imm rd)
-- Floating-point data-processing (2 source)
plain_form (insts.FpuRRR fpu_op scalar rd rn rm) =
    Some (float.two_floats_form fpu_op scalar rd rn rm)
-- Floating-point conditional select
plain_form (insts.FpuCSel16 rd rn rm cond) = Some (float.select_form scalars.Size16 rd rn rm cond)
plain_form (insts.FpuCSel32 rd rn rm cond) = Some (float.select_form scalars.Size32 rd rn rm cond)
plain_form (insts.FpuCSel64 rd rn rm cond) = Some (float.select_form scalars.Size64 rd rn rm cond)
-- Floating-point data-processing (3 source)
plain_form (insts.FpuRRRR fpu_op scalar rd rn rm ra) =
    Some (float.three_floats_form fpu_op scalar rd rn rm ra)
-- ---- the operations on vectors
-- Advanced SIMD scalar pairwise
plain_form (insts.VecRRPair op rd rn) = Some (vector.pair_form rd rn)
-- Advanced SIMD two-register miscellaneous
plain_form (insts.VecMisc op rd rn size) = Some (vector.two_form (operators.two_op op) size rd rn)
plain_form (insts.VecRRLong op rd rn high_half) =
    Some (vector.misc_form (bit_of high_half) (operators.long_fields op) rd rn)
plain_form (insts.VecRRNarrowLow op rd rn lane_size) =
    Some (vector.misc_form 0 (operators.narrow_fields op lane_size) rd rn)
plain_form (insts.VecRRNarrowHigh op rd ri rn lane_size) =
    Some (vector.misc_form 1 (operators.narrow_fields op lane_size) rd rn)
plain_form (insts.VecRRPairLong op rd rn) =
    Some (vector.misc_form 1 (operators.pair_long_fields op) rd rn)
-- Advanced SIMD across lanes
plain_form (insts.VecLanes op rd rn size) =
    Some (vector.across_form (operators.across_fields op) size rd rn)
-- Advanced SIMD three different
plain_form (insts.VecRRRLong alu_op rd rn rm high_half) =
    Some (vector.long_product_form (operators.product_fields alu_op) high_half rd rn rm)
plain_form (insts.VecRRRLongMod alu_op rd ri rn rm high_half) =
    Some (vector.long_product_form (operators.added_product_fields alu_op) high_half rd rn rm)
-- Advanced SIMD three same, Advanced SIMD permute
plain_form (insts.VecRRR alu_op rd rn rm size) =
    Some (vector.three_form (operators.three_op alu_op) size rd rn rm)
-- Advanced SIMD three same, and three-register extension
plain_form (insts.VecRRRMod alu_op rd ri rn rm size) =
    Some (vector.three_form (operators.kept_three_op alu_op) size rd rn rm)
-- Advanced SIMD shift by immediate
plain_form (insts.VecExtend t rd rn high_half lane_size) =
    Some (vector.extend_form t high_half lane_size rd rn)
plain_form (insts.VecShiftImm op rd rn size imm) = Some (vector.lane_shift_form op size imm rd rn)
plain_form (insts.VecShiftImmMod op rd ri rn size imm) =
    Some (vector.kept_shift_form size imm rd rn)
-- Advanced SIMD vector x indexed element
plain_form (insts.VecFmlaElem alu_op rd ri rn rm size idx) =
    Some (vector.element_form alu_op size idx rd rn rm)
-- ---- the moves of lanes and the tables of bytes
-- Advanced SIMD table lookup
plain_form (insts.VecTbl rd rn rm) = Some (vector.table_form false false rd rn rm)
plain_form (insts.VecTblExt rd ri rn rm) = Some (vector.table_form false true rd rn rm)
plain_form (insts.VecTbl2 rd rn rn2 rm) = Some (vector.table_form true false rd rn rm)
plain_form (insts.VecTbl2Ext rd ri rn rn2 rm) = Some (vector.table_form true true rd rn rm)
-- Advanced SIMD extract
plain_form (insts.VecExtract rd rn rm imm4) = Some (vector.extract_form imm4 rd rn rm)
-- Advanced SIMD copy
plain_form (insts.VecDupFromFpu rd rn size lane) = Some (vector.dup_lane_form size lane rd rn)
plain_form (insts.VecDup rd rn size) = Some (vector.dup_form size rd rn)
plain_form (insts.MovFromVecSigned rd rn idx size scalar_size) =
    Some (vector.signed_move_form size idx scalar_size rd rn)
plain_form (insts.MovFromVec rd rn idx scalar) = Some (vector.unsigned_move_form scalar idx rd rn)
plain_form (insts.MovToVec rd ri rn idx size) = Some (vector.insert_form size idx rd rn)
plain_form (insts.VecMovElement rd ri rn dest_idx src_idx size) =
    Some (vector.move_element_form size dest_idx src_idx rd rn)
-- Advanced SIMD modified immediate
plain_form (insts.VecDupFPImm rd imm size) = Some (vector.dup_float_form size imm rd)
plain_form (insts.VecDupImm rd imm invert size) =
    Some (vector.dup_immediate_form size imm invert rd)
-- ---- the hints and barriers
-- Hints
plain_form insts.Xpaclri = Some control.xpaclri_form
plain_form insts.Csdb = Some control.csdb_form
plain_form (insts.Paci key) = Some (control.paci_form key)
plain_form (insts.Bti targets) = Some (control.bti_form targets)
-- Barriers
plain_form insts.Fence = Some barrier
-- the others are no plain words
plain_form _ = None
