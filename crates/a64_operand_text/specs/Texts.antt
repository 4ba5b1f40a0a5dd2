-- Written by `python3 tools/instructions.py` from tables/instructions.txt.
-- The text of each instruction, but for loads, stores and addresses of their modes, whose texts
-- depend on the frame.
use Rattle.std.specs.Prelude.{ℕ, pos, ◌*ℤ◌, true, false, List, [], ◌∷◌, codes}
use Rattle.a64_base.specs.declared.reg.RegKind.TheVariants.{Real}
use Rattle.a64_base.specs.declared.size.ScalarSize.TheVariants as scalars
use Rattle.a64_base.specs.declared.size.VectorSize.TheVariants as vectors
use Rattle.a64_base.specs.declared.target.BranchTarget.TheVariants.{Label}
use Rattle.a64_base.specs.ScalarSizes.{scalar_operand, narrower, wider}
use Rattle.a64_base.specs.VectorSizes.{lane_of, lane_operand}
use Rattle.a64_imms.specs.Imm12s.{imm12_value}
use Rattle.a64_imms.specs.Logic.{logic_value}
use Rattle.a64_imms.specs.Unsigned.{uimm5_value}
use Rattle.a64_inst.specs.declared.inst.Inst.{Inst}
use Rattle.a64_inst.specs.declared.inst.Inst.TheVariants as insts
use Rattle.a64_operand_text.specs.declared.operand.Operand.TheVariants as operand
use Rattle.a64_operand_text.specs.CallTexts.{return_call_text}
use Rattle.a64_operand_text.specs.ControlTexts.{authenticated_ret_text, bare_number_text, bti_text}
use Rattle.a64_operand_text.specs.ControlTexts.{cond_br_text}
use Rattle.a64_operand_text.specs.ControlTexts.{paci_text, test_bit_text, trap_if_text}
use Rattle.a64_operand_text.specs.FloatTexts.{fpu_rr_size, fpu_rri_text, fpu_rri_mod_text}
use Rattle.a64_operand_text.specs.FloatTexts.{from_float_size, from_int_size}
use Rattle.a64_operand_text.specs.FloatTexts.{round_size, to_float_size, to_int_size}
use Rattle.a64_operand_text.specs.IntegerTexts.{alu_rr_imm12_text, extend_text, sum_size}
use Rattle.a64_operand_text.specs.LaneSizes.{added_product_lane, alu_lanes, alu_mod_lanes}
use Rattle.a64_operand_text.specs.LaneSizes.{pair_long_lane}
use Rattle.a64_operand_text.specs.LaneSizes.{product_lane, vector_of}
use Rattle.a64_operand_text.specs.Lines.{line_text}
use Rattle.a64_operand_text.specs.SequenceTexts.{args_text, cas_loop_text, jt_sequence_text}
use Rattle.a64_operand_text.specs.SequenceTexts.{rets_text, rmw_loop_text}
use Rattle.a64_operand_text.specs.SequenceTexts.{vec_csel_text}
use Rattle.a64_operand_text.specs.VectorTexts.{half_text, lane_move_name, vec_misc_text}
use Rattle.a64_operand_text.specs.VectorTexts.{vec_rr_long_text}
use Rattle.a64_operand_text.specs.VectorTexts.{vector_imm_name}
use Rattle.a64_ops.specs.Names.{alu_op3_name, alu_op_name, bfm_op_name, bit_op_name, fpu_op1_name}
use Rattle.a64_ops.specs.Names.{fpu_op2_name, fpu_op3_name, fpu_round_mode_name}
use Rattle.a64_ops.specs.Names.{fpu_to_int_op_name, int_to_fpu_op_name, move_wide_op_name}
use Rattle.a64_ops.specs.Names.{vec_alu_mod_op_name, vec_alu_op_name, vec_extend_op_name}
use Rattle.a64_ops.specs.Names.{vec_lanes_op_name, vec_pair_op_name, vec_rr_narrow_op_name}
use Rattle.a64_ops.specs.Names.{vec_rr_pair_long_op_name, vec_rrr_long_mod_op_name}
use Rattle.a64_ops.specs.Names.{vec_rrr_long_op_name, vec_shift_imm_mod_op_name}
use Rattle.a64_ops.specs.Names.{vec_shift_imm_op_name}

abbrev pub own_text : Inst → List ℕ
own_text (insts.Adr rd off) = line_text (codes "adr") (operand.X rd ∷ operand.Near off ∷ [])
own_text (insts.Adrp rd off) =
    line_text (codes "adrp") (operand.X rd ∷ operand.Near (off *ℤ pos 4096) ∷ [])
own_text (insts.AluRRImm12 alu_op size rd rn imm12) = alu_rr_imm12_text alu_op size rd rn imm12
own_text (insts.AluRRImmLogic alu_op size rd rn imml) =
    line_text (alu_op_name alu_op)
    (operand.Sized size rd ∷ operand.Sized size rn ∷ operand.Number (logic_value imml) ∷ [])
own_text (insts.MovWide op rd imm size) =
    line_text (move_wide_op_name op) (operand.Sized size rd ∷ operand.Wide imm ∷ [])
own_text (insts.MovK rd rn imm size) =
    line_text (codes "movk") (operand.Sized size rd ∷ operand.Sized size rn ∷ operand.Wide imm ∷ [])
own_text (insts.AluRRImmShift alu_op size rd rn immshift) =
    line_text (alu_op_name alu_op)
    (operand.Sized size rd ∷ operand.Sized size rn ∷ operand.Number immshift.imm ∷ [])
own_text (insts.Extend rd rn signed from_bits to_bits) = extend_text rd rn signed from_bits to_bits
own_text (insts.BitfieldMove size bfm_op rd rn immr imms) =
    line_text (bfm_op_name bfm_op) (operand.Sized size rd ∷ operand.Sized size rn
    ∷ operand.Number immr.imm ∷ operand.Number imms.imm ∷ [])
own_text (insts.BitfieldMoveMod size rd ri rn immr imms) =
    line_text (codes "bfm") (operand.Sized size rd ∷ operand.Sized size ri ∷ operand.Sized size rn
    ∷ operand.Number immr.imm ∷ operand.Number imms.imm ∷ [])
own_text (insts.AluRRR alu_op size rd rn rm) =
    line_text (alu_op_name alu_op)
    (operand.Sized size rd ∷ operand.Sized size rn ∷ operand.Sized size rm ∷ [])
own_text (insts.BitRR op size rd rn) =
    line_text (bit_op_name op) (operand.Sized size rd ∷ operand.Sized size rn ∷ [])
own_text (insts.AluRRRShift alu_op size rd rn rm shiftop) =
    line_text (alu_op_name alu_op) (operand.Sized size rd ∷ operand.Sized size rn
    ∷ operand.Sized size rm ∷ operand.Shift shiftop ∷ [])
own_text (insts.Mov size rd rm) =
    line_text (codes "mov") (operand.Sized size rd ∷ operand.Sized size rm ∷ [])
own_text (insts.MovFromPReg rd rm) =
    line_text (codes "mov") (operand.X rd ∷ operand.X (Real rm) ∷ [])
own_text (insts.MovToPReg rd rm) = line_text (codes "mov") (operand.X (Real rd) ∷ operand.X rm ∷ [])
own_text (insts.AluRRRExtend alu_op size rd rn rm extendop) =
    line_text (alu_op_name alu_op) (operand.Sized size rd ∷ operand.Sized size rn
    ∷ operand.Sized size rm ∷ operand.Extend extendop ∷ [])
own_text (insts.CCmp size rn rm nzcv cond) =
    line_text (codes "ccmp") (operand.Sized size rn ∷ operand.Sized size rm ∷ operand.Flags nzcv
    ∷ operand.Condition cond ∷ [])
own_text (insts.CCmpImm size rn imm nzcv cond) =
    line_text (codes "ccmp") (operand.Sized size rn ∷ operand.Number (uimm5_value imm)
    ∷ operand.Flags nzcv ∷ operand.Condition cond ∷ [])
own_text (insts.CSel rd rn rm cond) =
    line_text (codes "csel")
    (operand.X rd ∷ operand.X rn ∷ operand.X rm ∷ operand.Condition cond ∷ [])
own_text (insts.CSet rd cond) =
    line_text (codes "cset") (operand.X rd ∷ operand.Condition cond ∷ [])
own_text (insts.CSetm rd cond) =
    line_text (codes "csetm") (operand.X rd ∷ operand.Condition cond ∷ [])
own_text (insts.CSNeg rd rn rm cond) =
    line_text (codes "csneg")
    (operand.X rd ∷ operand.X rn ∷ operand.X rm ∷ operand.Condition cond ∷ [])
own_text (insts.AluRRRR alu_op size rd rn rm ra) =
    line_text (alu_op3_name alu_op) (operand.Sized (sum_size alu_op size) rd ∷ operand.Sized size rn
    ∷ operand.Sized size rm ∷ operand.Sized (sum_size alu_op size) ra ∷ [])
own_text (insts.FpuMoveFromVec rd rn idx size) =
    line_text (codes "mov")
    (operand.Scalar (lane_of size) rd ∷ operand.Element idx (lane_of size) rn ∷ [])
own_text (insts.FpuRRI fpu_op rd rn) = fpu_rri_text fpu_op rd rn
own_text (insts.FpuRRIMod fpu_op rd ri rn) = fpu_rri_mod_text fpu_op rd ri rn
own_text (insts.FpuMove128 rd rn) =
    line_text (codes "mov") (operand.Bytes rd ∷ operand.Bytes rn ∷ [])
own_text (insts.FpuToInt op rd rn) =
    line_text (fpu_to_int_op_name op)
    (operand.Sized (to_int_size op) rd ∷ operand.Scalar (from_float_size op) rn ∷ [])
own_text (insts.IntToFpu op rd rn) =
    line_text (int_to_fpu_op_name op)
    (operand.Scalar (to_float_size op) rd ∷ operand.Sized (from_int_size op) rn ∷ [])
own_text (insts.MovToFpu rd rn scalar) =
    line_text (codes "fmov")
    (operand.Scalar scalar rd ∷ operand.Sized (scalar_operand scalar) rn ∷ [])
own_text (insts.FpuMove32 rd rn) =
    line_text (codes "fmov")
    (operand.Scalar scalars.Size32 rd ∷ operand.Scalar scalars.Size32 rn ∷ [])
own_text (insts.FpuMove64 rd rn) =
    line_text (codes "fmov")
    (operand.Scalar scalars.Size64 rd ∷ operand.Scalar scalars.Size64 rn ∷ [])
own_text (insts.FpuExtend rd rn scalar) =
    line_text (codes "fmov") (operand.Scalar scalar rd ∷ operand.Scalar scalar rn ∷ [])
own_text (insts.FpuRR fpu_op scalar rd rn) =
    line_text (fpu_op1_name fpu_op)
    (operand.Scalar (fpu_rr_size fpu_op scalar) rd ∷ operand.Scalar scalar rn ∷ [])
own_text (insts.FpuRound op rd rn) =
    line_text (fpu_round_mode_name op)
    (operand.Scalar (round_size op) rd ∷ operand.Scalar (round_size op) rn ∷ [])
own_text (insts.FpuCmp scalar rn rm) =
    line_text (codes "fcmp") (operand.Scalar scalar rn ∷ operand.Scalar scalar rm ∷ [])
own_text (insts.FpuMoveFPImm rd imm scalar) =
    line_text (codes "fmov") (operand.Scalar scalar rd ∷ operand.FloatImm imm ∷ [])
own_text (insts.FpuRRR fpu_op scalar rd rn rm) =
    line_text (fpu_op2_name fpu_op)
    (operand.Scalar scalar rd ∷ operand.Scalar scalar rn ∷ operand.Scalar scalar rm ∷ [])
own_text (insts.FpuCSel16 rd rn rm cond) =
    line_text (codes "fcsel") (operand.Scalar scalars.Size16 rd ∷ operand.Scalar scalars.Size16 rn
    ∷ operand.Scalar scalars.Size16 rm ∷ operand.Condition cond ∷ [])
own_text (insts.FpuCSel32 rd rn rm cond) =
    line_text (codes "fcsel") (operand.Scalar scalars.Size32 rd ∷ operand.Scalar scalars.Size32 rn
    ∷ operand.Scalar scalars.Size32 rm ∷ operand.Condition cond ∷ [])
own_text (insts.FpuCSel64 rd rn rm cond) =
    line_text (codes "fcsel") (operand.Scalar scalars.Size64 rd ∷ operand.Scalar scalars.Size64 rn
    ∷ operand.Scalar scalars.Size64 rm ∷ operand.Condition cond ∷ [])
own_text (insts.FpuRRRR fpu_op scalar rd rn rm ra) =
    line_text (fpu_op3_name fpu_op) (operand.Scalar scalar rd ∷ operand.Scalar scalar rn
    ∷ operand.Scalar scalar rm ∷ operand.Scalar scalar ra ∷ [])
own_text (insts.VecRRPair op rd rn) =
    line_text (vec_pair_op_name op)
    (operand.Scalar scalars.Size64 rd ∷ operand.Vector vectors.Size64x2 rn ∷ [])
own_text (insts.VecMisc op rd rn size) = vec_misc_text op size rd rn
own_text (insts.VecRRLong op rd rn high_half) = vec_rr_long_text op high_half rd rn
own_text (insts.VecRRNarrowLow op rd rn lane_size) =
    line_text (vec_rr_narrow_op_name op) (operand.Vector (vector_of lane_size false) rd
    ∷ operand.Vector (vector_of (wider lane_size) true) rn ∷ [])
own_text (insts.VecRRNarrowHigh op rd ri rn lane_size) =
    half_text (vec_rr_narrow_op_name op) true (operand.Vector (vector_of lane_size true) rd
    ∷ operand.Vector (vector_of lane_size true) ri
    ∷ operand.Vector (vector_of (wider lane_size) true) rn ∷ [])
own_text (insts.VecRRPairLong op rd rn) =
    line_text (vec_rr_pair_long_op_name op)
    (operand.Vector (vector_of (wider (pair_long_lane op)) true) rd
    ∷ operand.Vector (vector_of (pair_long_lane op) true) rn ∷ [])
own_text (insts.VecLanes op rd rn size) =
    line_text (vec_lanes_op_name op)
    (operand.Scalar (lane_of size) rd ∷ operand.Vector size rn ∷ [])
own_text (insts.VecRRRLong alu_op rd rn rm high_half) =
    half_text (vec_rrr_long_op_name alu_op) high_half
    (operand.Vector (vector_of (wider (product_lane alu_op)) true) rd
    ∷ operand.Vector (vector_of (product_lane alu_op) high_half) rn
    ∷ operand.Vector (vector_of (product_lane alu_op) high_half) rm ∷ [])
own_text (insts.VecRRRLongMod alu_op rd ri rn rm high_half) =
    half_text (vec_rrr_long_mod_op_name alu_op) high_half
    (operand.Vector (vector_of (wider (added_product_lane alu_op)) true) rd
    ∷ operand.Vector (vector_of (wider (added_product_lane alu_op)) true) ri
    ∷ operand.Vector (vector_of (added_product_lane alu_op) high_half) rn
    ∷ operand.Vector (vector_of (added_product_lane alu_op) high_half) rm ∷ [])
own_text (insts.VecRRR alu_op rd rn rm size) =
    line_text (vec_alu_op_name alu_op) (operand.Vector (alu_lanes alu_op size) rd
    ∷ operand.Vector (alu_lanes alu_op size) rn ∷ operand.Vector (alu_lanes alu_op size) rm ∷ [])
own_text (insts.VecRRRMod alu_op rd ri rn rm size) =
    line_text (vec_alu_mod_op_name alu_op) (operand.Vector (alu_mod_lanes alu_op size) rd
    ∷ operand.Vector (alu_mod_lanes alu_op size) ri ∷ operand.Vector (alu_mod_lanes alu_op size) rn
    ∷ operand.Vector (alu_mod_lanes alu_op size) rm ∷ [])
own_text (insts.VecExtend t rd rn high_half lane_size) =
    half_text (vec_extend_op_name t) high_half (operand.Vector (vector_of lane_size true) rd
    ∷ operand.Vector (vector_of (narrower lane_size) high_half) rn ∷ [])
own_text (insts.VecShiftImm op rd rn size imm) =
    line_text (vec_shift_imm_op_name op)
    (operand.Vector size rd ∷ operand.Vector size rn ∷ operand.Number imm ∷ [])
own_text (insts.VecShiftImmMod op rd ri rn size imm) =
    line_text (vec_shift_imm_mod_op_name op) (operand.Vector size rd ∷ operand.Vector size ri
    ∷ operand.Vector size rn ∷ operand.Number imm ∷ [])
own_text (insts.VecFmlaElem alu_op rd ri rn rm size idx) =
    line_text (vec_alu_mod_op_name alu_op) (operand.Vector size rd ∷ operand.Vector size ri
    ∷ operand.Vector size rn ∷ operand.Element idx (lane_of size) rm ∷ [])
own_text (insts.VecTbl rd rn rm) =
    line_text (codes "tbl")
    (operand.Bytes rd ∷ operand.Table vectors.Size8x16 rn ∷ operand.Bytes rm ∷ [])
own_text (insts.VecTblExt rd ri rn rm) =
    line_text (codes "tbx") (operand.Bytes rd ∷ operand.Bytes ri ∷ operand.Table vectors.Size8x16 rn
    ∷ operand.Bytes rm ∷ [])
own_text (insts.VecTbl2 rd rn rn2 rm) =
    line_text (codes "tbl") (operand.Bytes rd ∷ operand.TablePair rn rn2 ∷ operand.Bytes rm ∷ [])
own_text (insts.VecTbl2Ext rd ri rn rn2 rm) =
    line_text (codes "tbx")
    (operand.Bytes rd ∷ operand.Bytes ri ∷ operand.TablePair rn rn2 ∷ operand.Bytes rm ∷ [])
own_text (insts.VecExtract rd rn rm imm4) =
    line_text (codes "ext")
    (operand.Bytes rd ∷ operand.Bytes rn ∷ operand.Bytes rm ∷ operand.Number imm4 ∷ [])
own_text (insts.VecDupFromFpu rd rn size lane) =
    line_text (codes "dup") (operand.Vector size rd ∷ operand.Element lane (lane_of size) rn ∷ [])
own_text (insts.VecDup rd rn size) =
    line_text (codes "dup") (operand.Vector size rd ∷ operand.Sized (lane_operand size) rn ∷ [])
own_text (insts.MovFromVecSigned rd rn idx size scalar_size) =
    line_text (codes "smov")
    (operand.Sized scalar_size rd ∷ operand.Element idx (lane_of size) rn ∷ [])
own_text (insts.MovFromVec rd rn idx scalar) =
    line_text (lane_move_name scalar)
    (operand.Sized (scalar_operand scalar) rd ∷ operand.Element idx scalar rn ∷ [])
own_text (insts.MovToVec rd ri rn idx size) =
    line_text (codes "mov") (operand.Element idx (lane_of size) rd
    ∷ operand.Element idx (lane_of size) ri ∷ operand.Sized (lane_operand size) rn ∷ [])
own_text (insts.VecMovElement rd ri rn dest_idx src_idx size) =
    line_text (codes "mov") (operand.Element dest_idx (lane_of size) rd
    ∷ operand.Element dest_idx (lane_of size) ri ∷ operand.Element src_idx (lane_of size) rn ∷ [])
own_text (insts.VecDupFPImm rd imm size) =
    line_text (codes "fmov") (operand.Vector size rd ∷ operand.FloatImm imm ∷ [])
own_text (insts.VecDupImm rd imm invert size) =
    line_text (vector_imm_name invert) (operand.Vector size rd ∷ operand.VectorImm imm ∷ [])
own_text insts.Xpaclri = codes "xpaclri"
own_text insts.Csdb = codes "csdb"
own_text (insts.Paci key) = paci_text key
own_text (insts.Bti targets) = bti_text targets
own_text insts.Fence = codes "dmb ish"
own_text (insts.Udf trap_code) = codes "udf #0xc11f"
own_text (insts.CondBr taken not_taken kind) = cond_br_text kind taken not_taken
own_text (insts.TrapIf kind trap_code) = trap_if_text kind trap_code
own_text insts.Brk = codes "brk #0xf000"
own_text insts.Nop4 = codes "nop"
own_text (insts.MovToNZCV rn) = line_text (codes "msr") (operand.Nzcv ∷ operand.X rn ∷ [])
own_text (insts.MovFromNZCV rd) = line_text (codes "mrs") (operand.X rd ∷ operand.Nzcv ∷ [])
own_text (insts.IndirectBr rn targets) = line_text (codes "br") (operand.X rn ∷ [])
own_text insts.Ret = codes "ret"
own_text (insts.AuthenticatedRet key is_hint) = authenticated_ret_text key is_hint
own_text (insts.Jump dest) = line_text (codes "b") (operand.Target dest ∷ [])
own_text (insts.TestBitAndBranch kind taken not_taken rn bit) =
    test_bit_text kind taken not_taken rn bit
own_text (insts.LabelAddress dst label) =
    line_text (codes "label_address") (operand.X dst ∷ operand.Target (Label label) ∷ [])
own_text insts.Nop0 = codes "nop-zero-len"
own_text (insts.Word4 value) = bare_number_text (codes "data.i32") value
own_text (insts.Word8 value) = bare_number_text (codes "data.i64") value
own_text (insts.EmitIsland needed_space) = bare_number_text (codes "emit_island") needed_space
own_text (insts.Args args) = args_text args
own_text (insts.Rets rets) = rets_text rets
own_text (insts.DummyUse reg) = line_text (codes "dummy_use") (operand.X reg ∷ [])
own_text insts.SequencePoint = codes "sequence_point"
own_text (insts.JTSequence default targets ridx rtmp1 rtmp2) =
    jt_sequence_text default targets ridx rtmp1 rtmp2
own_text (insts.LoadExtNameGot rd name) =
    line_text (codes "load_ext_name_got") (operand.X rd ∷ operand.Symbol name ∷ [])
own_text (insts.LoadExtNameNear rd name offset) =
    line_text (codes "load_ext_name_near") (operand.X rd ∷ operand.SymbolOffset name offset ∷ [])
own_text (insts.LoadExtNameFar rd name offset) =
    line_text (codes "load_ext_name_far") (operand.X rd ∷ operand.SymbolOffset name offset ∷ [])
own_text (insts.StackProbeLoop start end step) =
    line_text (codes "stack_probe_loop")
    (operand.X start ∷ operand.X end ∷ operand.Number (imm12_value step) ∷ [])
own_text (insts.AtomicRMWLoop ty op flags addr operand oldval scratch1 scratch2) =
    rmw_loop_text op ty addr operand oldval scratch1 scratch2
own_text (insts.AtomicCASLoop ty flags addr expected replacement oldval scratch) =
    cas_loop_text ty addr expected replacement oldval scratch
own_text (insts.VecCSel rd rn rm cond) = vec_csel_text rd rn rm cond
own_text (insts.Call info) = codes "bl 0"
own_text (insts.CallInd info) = line_text (codes "blr") (operand.X info.dest ∷ [])
own_text (insts.ReturnCall info) =
    return_call_text (codes "return_call") (operand.Symbol info.dest) info.new_stack_arg_size
    info.uses
own_text (insts.ReturnCallInd info) =
    return_call_text (codes "return_call_ind") (operand.X info.dest) info.new_stack_arg_size
    info.uses
own_text _ = []
