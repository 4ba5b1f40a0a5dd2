-- Written by `python3 tools/instructions.py` from tables/instructions.txt.
-- The name of each instruction whose fields are those of its sheet.
use Rattle.a64_inst.specs.declared.inst.Inst.{Inst}
use Rattle.a64_inst.specs.declared.inst.Inst.TheVariants as insts
use Rattle.a64_text.specs.declared.name.Name.{Name}
use Rattle.a64_text.specs.declared.name.Name.TheVariants as names
use Rattle.a64_text.specs.declared.name.ImmediateName.TheVariants as immediate
use Rattle.a64_text.specs.declared.name.RegisterName.TheVariants as register
use Rattle.a64_text.specs.declared.name.FloatName.TheVariants as float
use Rattle.a64_text.specs.declared.name.VectorName.TheVariants as vector
use Rattle.a64_text.specs.declared.name.VectorMoveName.TheVariants as vector_move
use Rattle.a64_text.specs.declared.name.SystemName.TheVariants as system

abbrev pub plain_name : Inst → Name
plain_name (insts.Adr rd off) = names.Immediate immediate.Adr
plain_name (insts.Adrp rd off) = names.Immediate immediate.Adrp
plain_name (insts.AluRRImm12 alu_op size rd rn imm12) = names.Immediate immediate.AluRRImm12
plain_name (insts.AluRRImmLogic alu_op size rd rn imml) = names.Immediate immediate.AluRRImmLogic
plain_name (insts.MovWide op rd imm size) = names.Immediate immediate.MovWide
plain_name (insts.MovK rd rn imm size) = names.Immediate immediate.MovK
plain_name (insts.AluRRImmShift alu_op size rd rn immshift) =
    names.Immediate immediate.AluRRImmShift
plain_name (insts.Extend rd rn signed from_bits to_bits) = names.Immediate immediate.Extend
plain_name (insts.BitfieldMove size bfm_op rd rn immr imms) = names.Immediate immediate.BitfieldMove
plain_name (insts.BitfieldMoveMod size rd ri rn immr imms) =
    names.Immediate immediate.BitfieldMoveMod
plain_name (insts.AluRRR alu_op size rd rn rm) = names.Register register.AluRRR
plain_name (insts.BitRR op size rd rn) = names.Register register.BitRR
plain_name (insts.AluRRRShift alu_op size rd rn rm shiftop) = names.Register register.AluRRRShift
plain_name (insts.Mov size rd rm) = names.Register register.Mov
plain_name (insts.MovFromPReg rd rm) = names.Register register.MovFromPReg
plain_name (insts.MovToPReg rd rm) = names.Register register.MovToPReg
plain_name (insts.AluRRRExtend alu_op size rd rn rm extendop) = names.Register register.AluRRRExtend
plain_name (insts.CCmp size rn rm nzcv cond) = names.Register register.CCmp
plain_name (insts.CCmpImm size rn imm nzcv cond) = names.Register register.CCmpImm
plain_name (insts.CSel rd rn rm cond) = names.Register register.CSel
plain_name (insts.CSet rd cond) = names.Register register.CSet
plain_name (insts.CSetm rd cond) = names.Register register.CSetm
plain_name (insts.CSNeg rd rn rm cond) = names.Register register.CSNeg
plain_name (insts.AluRRRR alu_op size rd rn rm ra) = names.Register register.AluRRRR
plain_name (insts.FpuMoveFromVec rd rn idx size) = names.Float float.FpuMoveFromVec
plain_name (insts.FpuRRI fpu_op rd rn) = names.Float float.FpuRRI
plain_name (insts.FpuRRIMod fpu_op rd ri rn) = names.Float float.FpuRRIMod
plain_name (insts.FpuMove128 rd rn) = names.Float float.FpuMove128
plain_name (insts.FpuToInt op rd rn) = names.Float float.FpuToInt
plain_name (insts.IntToFpu op rd rn) = names.Float float.IntToFpu
plain_name (insts.MovToFpu rd rn scalar) = names.Float float.MovToFpu
plain_name (insts.FpuMove32 rd rn) = names.Float float.FpuMove32
plain_name (insts.FpuMove64 rd rn) = names.Float float.FpuMove64
plain_name (insts.FpuExtend rd rn scalar) = names.Float float.FpuExtend
plain_name (insts.FpuRR fpu_op scalar rd rn) = names.Float float.FpuRR
plain_name (insts.FpuRound op rd rn) = names.Float float.FpuRound
plain_name (insts.FpuCmp scalar rn rm) = names.Float float.FpuCmp
plain_name (insts.FpuMoveFPImm rd imm scalar) = names.Float float.FpuMoveFPImm
plain_name (insts.FpuRRR fpu_op scalar rd rn rm) = names.Float float.FpuRRR
plain_name (insts.FpuCSel16 rd rn rm cond) = names.Float float.FpuCSel16
plain_name (insts.FpuCSel32 rd rn rm cond) = names.Float float.FpuCSel32
plain_name (insts.FpuCSel64 rd rn rm cond) = names.Float float.FpuCSel64
plain_name (insts.FpuRRRR fpu_op scalar rd rn rm ra) = names.Float float.FpuRRRR
plain_name (insts.VecRRPair op rd rn) = names.Vector vector.VecRRPair
plain_name (insts.VecMisc op rd rn size) = names.Vector vector.VecMisc
plain_name (insts.VecRRLong op rd rn high_half) = names.Vector vector.VecRRLong
plain_name (insts.VecRRNarrowLow op rd rn lane_size) = names.Vector vector.VecRRNarrowLow
plain_name (insts.VecRRNarrowHigh op rd ri rn lane_size) = names.Vector vector.VecRRNarrowHigh
plain_name (insts.VecRRPairLong op rd rn) = names.Vector vector.VecRRPairLong
plain_name (insts.VecLanes op rd rn size) = names.Vector vector.VecLanes
plain_name (insts.VecRRRLong alu_op rd rn rm high_half) = names.Vector vector.VecRRRLong
plain_name (insts.VecRRRLongMod alu_op rd ri rn rm high_half) = names.Vector vector.VecRRRLongMod
plain_name (insts.VecRRR alu_op rd rn rm size) = names.Vector vector.VecRRR
plain_name (insts.VecRRRMod alu_op rd ri rn rm size) = names.Vector vector.VecRRRMod
plain_name (insts.VecExtend t rd rn high_half lane_size) = names.Vector vector.VecExtend
plain_name (insts.VecShiftImm op rd rn size imm) = names.Vector vector.VecShiftImm
plain_name (insts.VecShiftImmMod op rd ri rn size imm) = names.Vector vector.VecShiftImmMod
plain_name (insts.VecFmlaElem alu_op rd ri rn rm size idx) = names.Vector vector.VecFmlaElem
plain_name (insts.VecTbl rd rn rm) = names.VectorMove vector_move.VecTbl
plain_name (insts.VecTblExt rd ri rn rm) = names.VectorMove vector_move.VecTblExt
plain_name (insts.VecTbl2 rd rn rn2 rm) = names.VectorMove vector_move.VecTbl2
plain_name (insts.VecTbl2Ext rd ri rn rn2 rm) = names.VectorMove vector_move.VecTbl2Ext
plain_name (insts.VecExtract rd rn rm imm4) = names.VectorMove vector_move.VecExtract
plain_name (insts.VecDupFromFpu rd rn size lane) = names.VectorMove vector_move.VecDupFromFpu
plain_name (insts.VecDup rd rn size) = names.VectorMove vector_move.VecDup
plain_name (insts.MovFromVecSigned rd rn idx size scalar_size) =
    names.VectorMove vector_move.MovFromVecSigned
plain_name (insts.MovFromVec rd rn idx scalar) = names.VectorMove vector_move.MovFromVec
plain_name (insts.MovToVec rd ri rn idx size) = names.VectorMove vector_move.MovToVec
plain_name (insts.VecMovElement rd ri rn dest_idx src_idx size) =
    names.VectorMove vector_move.VecMovElement
plain_name (insts.VecDupFPImm rd imm size) = names.VectorMove vector_move.VecDupFPImm
plain_name (insts.VecDupImm rd imm invert size) = names.VectorMove vector_move.VecDupImm
plain_name insts.Xpaclri = names.System system.Xpaclri
plain_name insts.Csdb = names.System system.Csdb
plain_name (insts.Paci key) = names.System system.Paci
plain_name (insts.Bti targets) = names.System system.Bti
plain_name insts.Fence = names.System system.Fence
plain_name insts.Nop4 = names.System system.Nop4
plain_name (insts.MovToNZCV rn) = names.System system.MovToNZCV
plain_name (insts.MovFromNZCV rd) = names.System system.MovFromNZCV
plain_name _ = names.System system.Nop0
