-- Written by `python3 tools/rows.py` from tables/rows.txt.
-- The named fields of each row stand at the places of their names.
use Rattle.std.proofs.Common.{[], ◌∷◌, refl}
use Rattle.a64_rows.specs.Forms.{IsPlaced}
use Rattle.a64_rows.specs.Places as place
use Rattle.a64_rows.specs.DataProcessing.{AddSubRegFields, add_sub_reg, LogicRegFields, logic_reg, AddSubExtFields, add_sub_ext, AddSubCarryFields, add_sub_carry, DataProc2Fields, data_proc2, MulHighFields, mul_high, MulAddFields, mul_add, MulAddLongFields, mul_add_long, AddSubImmFields, add_sub_imm, LogicImmFields, logic_imm, BitfieldFields, bitfield, ExtractFields, extract, DataProc1Fields, data_proc1, MoveWideFields, move_wide, CondSelectFields, cond_select, CondCompareFields, cond_compare, AdrFields, adr}
use Rattle.a64_rows.specs.Control.{Branch26Fields, branch26, BranchCondFields, branch_cond, CompareBranchFields, compare_branch, TestBranchFields, test_branch, BranchRegFields, branch_reg, RetAuthFields, ret_auth, HintFields, hint, barrier, brk, NzcvFields, nzcv}
use Rattle.a64_rows.specs.Memory.{LdStImm9Fields, ld_st_imm9, LdStUnsignedFields, ld_st_unsigned, LdStRegFields, ld_st_reg, LdLiteralFields, ld_literal, LdStPairFields, ld_st_pair, LdReplicateFields, ld_replicate, AtomicOpFields, atomic_op, LoadAcqFields, load_acq, StoreRelFields, store_rel, LoadExFields, load_ex, StoreExFields, store_ex, CasFields, cas, CaspFields, casp}
use Rattle.a64_rows.specs.Floats.{FpOneFields, fp_one, FpTwoFields, fp_two, FpThreeFields, fp_three, FpCompareFields, fp_compare, FpSelectFields, fp_select, FpImmFields, fp_imm, FpIntFields, fp_int}
use Rattle.a64_rows.specs.Vectors.{VecThreeFields, vec_three, VecPermuteFields, vec_permute, VecDotFields, vec_dot, VecElemFields, vec_elem, VecTwoFields, vec_two, VecScalarPairFields, vec_scalar_pair, VecAcrossFields, vec_across, VecLong3Fields, vec_long3, VecShiftFields, vec_shift, VecImmFields, vec_imm, ScalarShiftFields, scalar_shift, VecCopyFields, vec_copy, ScalarCopyFields, scalar_copy, VecInsElemFields, vec_ins_elem, VecExtFields, vec_ext, VecTableFields, vec_table}

-- ---- data processing

pub add_sub_reg_placed : (f : AddSubRegFields) → IsPlaced (add_sub_reg f) ((f.sf, place.sf) ∷ (f.op, place.op) ∷ (f.s, place.s) ∷ (f.sh, place.sh) ∷ (f.rm, place.rm) ∷ (f.imm6, place.imm6) ∷ (f.rn, place.rn) ∷ (f.rd, place.rd) ∷ [])
add_sub_reg_placed f = record { values = refl; slots = refl }

pub logic_reg_placed : (f : LogicRegFields) → IsPlaced (logic_reg f) ((f.sf, place.sf) ∷ (f.opc, place.opc) ∷ (f.sh, place.sh) ∷ (f.n, place.n) ∷ (f.rm, place.rm) ∷ (f.imm6, place.imm6) ∷ (f.rn, place.rn) ∷ (f.rd, place.rd) ∷ [])
logic_reg_placed f = record { values = refl; slots = refl }

pub add_sub_ext_placed : (f : AddSubExtFields) → IsPlaced (add_sub_ext f) ((f.sf, place.sf) ∷ (f.op, place.op) ∷ (f.s, place.s) ∷ (f.rm, place.rm) ∷ (f.ext, place.ext) ∷ (f.rn, place.rn) ∷ (f.rd, place.rd) ∷ [])
add_sub_ext_placed f = record { values = refl; slots = refl }

pub add_sub_carry_placed : (f : AddSubCarryFields) → IsPlaced (add_sub_carry f) ((f.sf, place.sf) ∷ (f.op, place.op) ∷ (f.s, place.s) ∷ (f.rm, place.rm) ∷ (f.rn, place.rn) ∷ (f.rd, place.rd) ∷ [])
add_sub_carry_placed f = record { values = refl; slots = refl }

pub data_proc2_placed : (f : DataProc2Fields) → IsPlaced (data_proc2 f) ((f.sf, place.sf) ∷ (f.rm, place.rm) ∷ (f.op6, place.op6) ∷ (f.rn, place.rn) ∷ (f.rd, place.rd) ∷ [])
data_proc2_placed f = record { values = refl; slots = refl }

pub mul_high_placed : (f : MulHighFields) → IsPlaced (mul_high f) ((f.u, place.u) ∷ (f.rm, place.rm) ∷ (f.rn, place.rn) ∷ (f.rd, place.rd) ∷ [])
mul_high_placed f = record { values = refl; slots = refl }

pub mul_add_placed : (f : MulAddFields) → IsPlaced (mul_add f) ((f.sf, place.sf) ∷ (f.rm, place.rm) ∷ (f.sub, place.sub) ∷ (f.ra, place.ra) ∷ (f.rn, place.rn) ∷ (f.rd, place.rd) ∷ [])
mul_add_placed f = record { values = refl; slots = refl }

pub mul_add_long_placed : (f : MulAddLongFields) → IsPlaced (mul_add_long f) ((f.u, place.u) ∷ (f.rm, place.rm) ∷ (f.ra, place.ra) ∷ (f.rn, place.rn) ∷ (f.rd, place.rd) ∷ [])
mul_add_long_placed f = record { values = refl; slots = refl }

pub add_sub_imm_placed : (f : AddSubImmFields) → IsPlaced (add_sub_imm f) ((f.sf, place.sf) ∷ (f.op, place.op) ∷ (f.s, place.s) ∷ (f.sh, place.sh) ∷ (f.imm12, place.imm12) ∷ (f.rn, place.rn) ∷ (f.rd, place.rd) ∷ [])
add_sub_imm_placed f = record { values = refl; slots = refl }

pub logic_imm_placed : (f : LogicImmFields) → IsPlaced (logic_imm f) ((f.sf, place.sf) ∷ (f.opc, place.opc) ∷ (f.n, place.n) ∷ (f.immr, place.immr) ∷ (f.imms, place.imms) ∷ (f.rn, place.rn) ∷ (f.rd, place.rd) ∷ [])
logic_imm_placed f = record { values = refl; slots = refl }

pub bitfield_placed : (f : BitfieldFields) → IsPlaced (bitfield f) ((f.sf, place.sf) ∷ (f.opc, place.opc) ∷ (f.immr, place.immr) ∷ (f.imms, place.imms) ∷ (f.rn, place.rn) ∷ (f.rd, place.rd) ∷ [])
bitfield_placed f = record { values = refl; slots = refl }

pub extract_placed : (f : ExtractFields) → IsPlaced (extract f) ((f.sf, place.sf) ∷ (f.rm, place.rm) ∷ (f.imms, place.imms) ∷ (f.rn, place.rn) ∷ (f.rd, place.rd) ∷ [])
extract_placed f = record { values = refl; slots = refl }

pub data_proc1_placed : (f : DataProc1Fields) → IsPlaced (data_proc1 f) ((f.sf, place.sf) ∷ (f.op6, place.op6) ∷ (f.rn, place.rn) ∷ (f.rd, place.rd) ∷ [])
data_proc1_placed f = record { values = refl; slots = refl }

pub move_wide_placed : (f : MoveWideFields) → IsPlaced (move_wide f) ((f.sf, place.sf) ∷ (f.opc, place.opc) ∷ (f.hw, place.hw) ∷ (f.imm16, place.imm16) ∷ (f.rd, place.rd) ∷ [])
move_wide_placed f = record { values = refl; slots = refl }

pub cond_select_placed : (f : CondSelectFields) → IsPlaced (cond_select f) ((f.op, place.op) ∷ (f.rm, place.rm) ∷ (f.cond, place.cond) ∷ (f.o2, place.o2) ∷ (f.rn, place.rn) ∷ (f.rd, place.rd) ∷ [])
cond_select_placed f = record { values = refl; slots = refl }

pub cond_compare_placed : (f : CondCompareFields) → IsPlaced (cond_compare f) ((f.sf, place.sf) ∷ (f.rm, place.rm) ∷ (f.cond, place.cond) ∷ (f.imm, place.imm) ∷ (f.rn, place.rn) ∷ (f.nzcv, place.nzcv) ∷ [])
cond_compare_placed f = record { values = refl; slots = refl }

pub adr_placed : (f : AdrFields) → IsPlaced (adr f) ((f.page, place.page) ∷ (f.lo, place.lo) ∷ (f.hi, place.hi) ∷ (f.rd, place.rd) ∷ [])
adr_placed f = record { values = refl; slots = refl }

-- ---- control

pub branch26_placed : (f : Branch26Fields) → IsPlaced (branch26 f) ((f.link, place.link) ∷ (f.imm26, place.imm26) ∷ [])
branch26_placed f = record { values = refl; slots = refl }

pub branch_cond_placed : (f : BranchCondFields) → IsPlaced (branch_cond f) ((f.imm19, place.imm19) ∷ (f.cond, place.cond) ∷ [])
branch_cond_placed f = record { values = refl; slots = refl }

pub compare_branch_placed : (f : CompareBranchFields) → IsPlaced (compare_branch f) ((f.sf, place.sf) ∷ (f.nz, place.nz) ∷ (f.imm19, place.imm19) ∷ (f.rt, place.rt) ∷ [])
compare_branch_placed f = record { values = refl; slots = refl }

pub test_branch_placed : (f : TestBranchFields) → IsPlaced (test_branch f) ((f.b5, place.b5) ∷ (f.nz, place.nz) ∷ (f.b40, place.b40) ∷ (f.imm14, place.imm14) ∷ (f.rt, place.rt) ∷ [])
test_branch_placed f = record { values = refl; slots = refl }

pub branch_reg_placed : (f : BranchRegFields) → IsPlaced (branch_reg f) ((f.opc, place.opc) ∷ (f.rn, place.rn) ∷ [])
branch_reg_placed f = record { values = refl; slots = refl }

pub ret_auth_placed : (f : RetAuthFields) → IsPlaced (ret_auth f) ((f.b, place.b) ∷ [])
ret_auth_placed f = record { values = refl; slots = refl }

pub hint_placed : (f : HintFields) → IsPlaced (hint f) ((f.crm, place.crm) ∷ (f.op2, place.op2) ∷ [])
hint_placed f = record { values = refl; slots = refl }

pub barrier_placed : IsPlaced barrier []
barrier_placed = record { values = refl; slots = refl }

pub brk_placed : IsPlaced brk []
brk_placed = record { values = refl; slots = refl }

pub nzcv_placed : (f : NzcvFields) → IsPlaced (nzcv f) ((f.read, place.read) ∷ (f.rt, place.rt) ∷ [])
nzcv_placed f = record { values = refl; slots = refl }

-- ---- memory

pub ld_st_imm9_placed : (f : LdStImm9Fields) → IsPlaced (ld_st_imm9 f) ((f.sz, place.sz) ∷ (f.v, place.v) ∷ (f.opc, place.opc) ∷ (f.imm9, place.imm9) ∷ (f.mode, place.mode) ∷ (f.rn, place.rn) ∷ (f.rt, place.rt) ∷ [])
ld_st_imm9_placed f = record { values = refl; slots = refl }

pub ld_st_unsigned_placed : (f : LdStUnsignedFields) → IsPlaced (ld_st_unsigned f) ((f.sz, place.sz) ∷ (f.v, place.v) ∷ (f.opc, place.opc) ∷ (f.imm12, place.imm12) ∷ (f.rn, place.rn) ∷ (f.rt, place.rt) ∷ [])
ld_st_unsigned_placed f = record { values = refl; slots = refl }

pub ld_st_reg_placed : (f : LdStRegFields) → IsPlaced (ld_st_reg f) ((f.sz, place.sz) ∷ (f.v, place.v) ∷ (f.opc, place.opc) ∷ (f.rm, place.rm) ∷ (f.ext, place.ext) ∷ (f.s, place.s) ∷ (f.rn, place.rn) ∷ (f.rt, place.rt) ∷ [])
ld_st_reg_placed f = record { values = refl; slots = refl }

pub ld_literal_placed : (f : LdLiteralFields) → IsPlaced (ld_literal f) ((f.opc, place.opc) ∷ (f.v, place.v) ∷ (f.imm19, place.imm19) ∷ (f.rt, place.rt) ∷ [])
ld_literal_placed f = record { values = refl; slots = refl }

pub ld_st_pair_placed : (f : LdStPairFields) → IsPlaced (ld_st_pair f) ((f.opc, place.opc) ∷ (f.v, place.v) ∷ (f.idx, place.idx) ∷ (f.load, place.load) ∷ (f.imm7, place.imm7) ∷ (f.rt2, place.rt2) ∷ (f.rn, place.rn) ∷ (f.rt, place.rt) ∷ [])
ld_st_pair_placed f = record { values = refl; slots = refl }

pub ld_replicate_placed : (f : LdReplicateFields) → IsPlaced (ld_replicate f) ((f.q, place.q) ∷ (f.sz, place.sz) ∷ (f.rn, place.rn) ∷ (f.rt, place.rt) ∷ [])
ld_replicate_placed f = record { values = refl; slots = refl }

pub atomic_op_placed : (f : AtomicOpFields) → IsPlaced (atomic_op f) ((f.sz, place.sz) ∷ (f.rs, place.rs) ∷ (f.swp, place.swp) ∷ (f.op, place.op) ∷ (f.rn, place.rn) ∷ (f.rt, place.rt) ∷ [])
atomic_op_placed f = record { values = refl; slots = refl }

pub load_acq_placed : (f : LoadAcqFields) → IsPlaced (load_acq f) ((f.sz, place.sz) ∷ (f.rn, place.rn) ∷ (f.rt, place.rt) ∷ [])
load_acq_placed f = record { values = refl; slots = refl }

pub store_rel_placed : (f : StoreRelFields) → IsPlaced (store_rel f) ((f.sz, place.sz) ∷ (f.rn, place.rn) ∷ (f.rt, place.rt) ∷ [])
store_rel_placed f = record { values = refl; slots = refl }

pub load_ex_placed : (f : LoadExFields) → IsPlaced (load_ex f) ((f.sz, place.sz) ∷ (f.rn, place.rn) ∷ (f.rt, place.rt) ∷ [])
load_ex_placed f = record { values = refl; slots = refl }

pub store_ex_placed : (f : StoreExFields) → IsPlaced (store_ex f) ((f.sz, place.sz) ∷ (f.rs, place.rs) ∷ (f.rn, place.rn) ∷ (f.rt, place.rt) ∷ [])
store_ex_placed f = record { values = refl; slots = refl }

pub cas_placed : (f : CasFields) → IsPlaced (cas f) ((f.sz, place.sz) ∷ (f.rs, place.rs) ∷ (f.rn, place.rn) ∷ (f.rt, place.rt) ∷ [])
cas_placed f = record { values = refl; slots = refl }

pub casp_placed : (f : CaspFields) → IsPlaced (casp f) ((f.rs, place.rs) ∷ (f.rn, place.rn) ∷ (f.rt, place.rt) ∷ [])
casp_placed f = record { values = refl; slots = refl }

-- ---- floats

pub fp_one_placed : (f : FpOneFields) → IsPlaced (fp_one f) ((f.ftype, place.ftype) ∷ (f.op, place.op) ∷ (f.rn, place.rn) ∷ (f.rd, place.rd) ∷ [])
fp_one_placed f = record { values = refl; slots = refl }

pub fp_two_placed : (f : FpTwoFields) → IsPlaced (fp_two f) ((f.ftype, place.ftype) ∷ (f.rm, place.rm) ∷ (f.op, place.op) ∷ (f.rn, place.rn) ∷ (f.rd, place.rd) ∷ [])
fp_two_placed f = record { values = refl; slots = refl }

pub fp_three_placed : (f : FpThreeFields) → IsPlaced (fp_three f) ((f.ftype, place.ftype) ∷ (f.o1, place.o1) ∷ (f.rm, place.rm) ∷ (f.o0, place.o0) ∷ (f.ra, place.ra) ∷ (f.rn, place.rn) ∷ (f.rd, place.rd) ∷ [])
fp_three_placed f = record { values = refl; slots = refl }

pub fp_compare_placed : (f : FpCompareFields) → IsPlaced (fp_compare f) ((f.ftype, place.ftype) ∷ (f.rm, place.rm) ∷ (f.rn, place.rn) ∷ [])
fp_compare_placed f = record { values = refl; slots = refl }

pub fp_select_placed : (f : FpSelectFields) → IsPlaced (fp_select f) ((f.ftype, place.ftype) ∷ (f.rm, place.rm) ∷ (f.cond, place.cond) ∷ (f.rn, place.rn) ∷ (f.rd, place.rd) ∷ [])
fp_select_placed f = record { values = refl; slots = refl }

pub fp_imm_placed : (f : FpImmFields) → IsPlaced (fp_imm f) ((f.ftype, place.ftype) ∷ (f.imm8, place.imm8) ∷ (f.rd, place.rd) ∷ [])
fp_imm_placed f = record { values = refl; slots = refl }

pub fp_int_placed : (f : FpIntFields) → IsPlaced (fp_int f) ((f.sf, place.sf) ∷ (f.ftype, place.ftype) ∷ (f.op, place.op) ∷ (f.rn, place.rn) ∷ (f.rd, place.rd) ∷ [])
fp_int_placed f = record { values = refl; slots = refl }

-- ---- vectors

pub vec_three_placed : (f : VecThreeFields) → IsPlaced (vec_three f) ((f.q, place.q) ∷ (f.u, place.u) ∷ (f.size, place.size) ∷ (f.rm, place.rm) ∷ (f.op, place.op) ∷ (f.rn, place.rn) ∷ (f.rd, place.rd) ∷ [])
vec_three_placed f = record { values = refl; slots = refl }

pub vec_permute_placed : (f : VecPermuteFields) → IsPlaced (vec_permute f) ((f.size, place.size) ∷ (f.rm, place.rm) ∷ (f.op, place.op) ∷ (f.rn, place.rn) ∷ (f.rd, place.rd) ∷ [])
vec_permute_placed f = record { values = refl; slots = refl }

pub vec_dot_placed : (f : VecDotFields) → IsPlaced (vec_dot f) ((f.q, place.q) ∷ (f.us, place.us) ∷ (f.rm, place.rm) ∷ (f.rn, place.rn) ∷ (f.rd, place.rd) ∷ [])
vec_dot_placed f = record { values = refl; slots = refl }

pub vec_elem_placed : (f : VecElemFields) → IsPlaced (vec_elem f) ((f.q, place.q) ∷ (f.sz, place.sz) ∷ (f.l, place.l) ∷ (f.rm, place.rm) ∷ (f.o2, place.o2) ∷ (f.h, place.h) ∷ (f.rn, place.rn) ∷ (f.rd, place.rd) ∷ [])
vec_elem_placed f = record { values = refl; slots = refl }

pub vec_two_placed : (f : VecTwoFields) → IsPlaced (vec_two f) ((f.q, place.q) ∷ (f.u, place.u) ∷ (f.size, place.size) ∷ (f.op, place.op) ∷ (f.rn, place.rn) ∷ (f.rd, place.rd) ∷ [])
vec_two_placed f = record { values = refl; slots = refl }

pub vec_scalar_pair_placed : (f : VecScalarPairFields) → IsPlaced (vec_scalar_pair f) ((f.rn, place.rn) ∷ (f.rd, place.rd) ∷ [])
vec_scalar_pair_placed f = record { values = refl; slots = refl }

pub vec_across_placed : (f : VecAcrossFields) → IsPlaced (vec_across f) ((f.q, place.q) ∷ (f.u, place.u) ∷ (f.size, place.size) ∷ (f.op, place.op) ∷ (f.rn, place.rn) ∷ (f.rd, place.rd) ∷ [])
vec_across_placed f = record { values = refl; slots = refl }

pub vec_long3_placed : (f : VecLong3Fields) → IsPlaced (vec_long3 f) ((f.q, place.q) ∷ (f.u, place.u) ∷ (f.size, place.size) ∷ (f.mul, place.mul) ∷ (f.rm, place.rm) ∷ (f.rn, place.rn) ∷ (f.rd, place.rd) ∷ [])
vec_long3_placed f = record { values = refl; slots = refl }

pub vec_shift_placed : (f : VecShiftFields) → IsPlaced (vec_shift f) ((f.q, place.q) ∷ (f.u, place.u) ∷ (f.imm7, place.imm7) ∷ (f.op, place.op) ∷ (f.rn, place.rn) ∷ (f.rd, place.rd) ∷ [])
vec_shift_placed f = record { values = refl; slots = refl }

pub vec_imm_placed : (f : VecImmFields) → IsPlaced (vec_imm f) ((f.q, place.q) ∷ (f.op, place.op) ∷ (f.abc, place.abc) ∷ (f.cmode, place.cmode) ∷ (f.defgh, place.defgh) ∷ (f.rd, place.rd) ∷ [])
vec_imm_placed f = record { values = refl; slots = refl }

pub scalar_shift_placed : (f : ScalarShiftFields) → IsPlaced (scalar_shift f) ((f.imm7, place.imm7) ∷ (f.op, place.op) ∷ (f.rn, place.rn) ∷ (f.rd, place.rd) ∷ [])
scalar_shift_placed f = record { values = refl; slots = refl }

pub vec_copy_placed : (f : VecCopyFields) → IsPlaced (vec_copy f) ((f.q, place.q) ∷ (f.imm5, place.imm5) ∷ (f.op, place.op) ∷ (f.rn, place.rn) ∷ (f.rd, place.rd) ∷ [])
vec_copy_placed f = record { values = refl; slots = refl }

pub scalar_copy_placed : (f : ScalarCopyFields) → IsPlaced (scalar_copy f) ((f.imm5, place.imm5) ∷ (f.rn, place.rn) ∷ (f.rd, place.rd) ∷ [])
scalar_copy_placed f = record { values = refl; slots = refl }

pub vec_ins_elem_placed : (f : VecInsElemFields) → IsPlaced (vec_ins_elem f) ((f.imm5, place.imm5) ∷ (f.imm4, place.imm4) ∷ (f.rn, place.rn) ∷ (f.rd, place.rd) ∷ [])
vec_ins_elem_placed f = record { values = refl; slots = refl }

pub vec_ext_placed : (f : VecExtFields) → IsPlaced (vec_ext f) ((f.rm, place.rm) ∷ (f.imm4, place.imm4) ∷ (f.rn, place.rn) ∷ (f.rd, place.rd) ∷ [])
vec_ext_placed f = record { values = refl; slots = refl }

pub vec_table_placed : (f : VecTableFields) → IsPlaced (vec_table f) ((f.rm, place.rm) ∷ (f.len, place.len) ∷ (f.ext, place.ext) ∷ (f.rn, place.rn) ∷ (f.rd, place.rd) ∷ [])
vec_table_placed f = record { values = refl; slots = refl }
