-- The cells of instructions and items without a fault are forms of their rows, or data.
use Rattle.std.proofs.Common.{ℕ, ℤ, pos, suc, ◌-ℤ◌, ◌≡◌, ◌+◌, ◌*◌, ◌<◌, ◌^◌, Bool, true, false, List, [], ◌∷◌, ◌++◌, length, get_or, map, Option, None, Some, refl, sym, subst, lit<, arith, rules}
use Rattle.std.specs.Prelude.{All, ◌&&◌, not, if◌then◌else◌}
use Rattle.std.specs.List.{flat_map}
use Rattle.std.specs.Ordering.{nat_cmp, int_eq}
use Rattle.std.specs.FinMap.{FinMap}
use Rattle.std.specs.Int.RustNames.{unsigned_abs}
use Rattle.std.proofs.lemmas.Bool.{and_parts}
use Rattle.std.proofs.lemmas.List.Elements.{All-nil, All-cons, All-append, All-map}
use Rattle.std.proofs.lemmas.List.Sums.{AllPass-from_list_all}
use Rattle.a64_base.specs.declared.entity.UserStackMap.{UserStackMap}
use Rattle.a64_base.specs.declared.ir_type.IrType.TheVariants.{I8}
use Rattle.a64_base.specs.declared.key.APIKey.{APIKey}
use Rattle.a64_base.specs.declared.reg.Reg.{Reg}
use Rattle.a64_base.specs.declared.size.OperandSize.TheVariants.{Size64}
use Rattle.a64_base.specs.declared.target.BranchTarget.{BranchTarget}
use Rattle.a64_ops.specs.declared.operator.ALUOp.TheVariants as alu
use Rattle.a64_plan.specs.Plans.{plan_of}
use Rattle.a64_inst.specs.declared.access.Access.{Access}
use Rattle.a64_inst.specs.declared.call.CallRetPair.{CallRetPair}
use Rattle.a64_inst.specs.declared.call.RetLocation.{RetLocation}
use Rattle.a64_inst.specs.declared.call.RetLocation.TheVariants as locations
use Rattle.a64_inst.specs.declared.emission.EmitFlags.{EmitFlags}
use Rattle.a64_inst.specs.declared.frame.FrameLayout.{FrameLayout}
use Rattle.a64_inst.specs.declared.inst.Inst.{Inst}
use Rattle.a64_inst.specs.declared.inst.Inst.TheVariants as insts
use Rattle.a64_inst.specs.declared.mode.AMode.{AMode}
use Rattle.a64_inst.specs.declared.mode.AMode.TheVariants as modes
use Rattle.a64_operand.specs.declared.virtuals.VirtualRegisters.TheVariants.{Refused}
use Rattle.a64_inst.specs.Accesses.{access_of, load_op, type_has_load_form}
use Rattle.a64_inst.specs.Addresses.{is_numbered}
use Rattle.a64_inst.specs.CallOperands.{are_call_defs, is_result_at}
use Rattle.a64_inst.specs.Faults.{can_restore, has_plain_operands, has_other_operands, has_operands, has_other_mode, has_mode, has_scratch, inst_fault, is_restorable}
use Rattle.a64_inst.specs.FinalModes.{FinalMode, SignedOffset, ScaledOffset, Other, final_mode, final_steps}
use Rattle.a64_inst.specs.ControlOperands.{are_test_bit_operands}
use Rattle.a64_operand.specs.IntegerOperands.{is_add_sub, is_logic, is_shift}
use Rattle.a64_inst.specs.Lone.{is_lone}
use Rattle.a64_inst.specs.MemoryOperands.{is_addend, needs_x17_beside, are_mode_parts, are_mode_operands, are_address_operands, are_access_operands, has_access_mode, is_data_register}
use Rattle.a64_operand.specs.Operands.{is_bit_of, is_imm12, is_logic_of, is_register, is_register_or_zero, is_same_register, is_wide_in}
use Rattle.a64_inst.specs.declared.item.Item.{Item}
use Rattle.a64_inst.specs.declared.item.Item.TheVariants.{Bind, Emit}
use Rattle.a64_inst.proofs.Good.{operands_good}
use Rattle.a64_rows.specs.Forms.{Form, IsFormOf}
use Rattle.a64_cells.specs.declared.callee.Callee.{Callee}
use Rattle.a64_cells.specs.declared.callee.Callee.TheVariants.{Symbol, Address}
use Rattle.a64_label_use.specs.declared.label_use.LabelUse.{LabelUse}
use Rattle.a64_label_use.specs.declared.label_use.LabelUse.TheVariants as uses
use Rattle.a64_cells.specs.Shapes.{Cell, Shape, OneWord, Several, Words, plain, last_cell, branch, branches, quiet, sum_shape, address_shape}
use Rattle.a64_cells.specs.PlainShapes.{plain_shape}
use Rattle.a64_cells.specs.Cells.{access_shape, other_shape, shape_of, shape_cells, inst_cells, cells_of, pop_forms, call_cell, call_cells, patchable_cells, result_cells, lone_cell, restored_cell, leave_forms, return_cell, return_cells, keep, kept_by}
use Rattle.a64_cells.specs.FormCells.{IsFormBody, IsFormCell, HasHalfword, RestoresHalfwords, HoldsHalfword}
use Rattle.a64_emit.specs.Faults.{item_fault}
use Rattle.a64_cells.specs.ControlForms.{jump_form, ret_form, brk_form}
use Rattle.a64_cells.specs.IntegerForms.{mov_form, mov_to_nzcv_form, mov_from_nzcv_form}
use Rattle.a64_cells.specs.MemoryForms.{step_forms, addend_register, offset_register, addend, addend_form, sum_form, sum_op}
use Rattle.a64_cells.proofs.Accesses.{mode_good, byte_size, addend_good}
use Rattle.a64_cells.proofs.AccessForms.{HoldsOffset, final_holds, plan_forms, final_steps_forms, parts_are_form, access_is_form, access_steps_forms, pair_is_form, float_pair_is_form}
use Rattle.a64_cells.proofs.AtomicForms as atomic
use Rattle.a64_cells.proofs.BranchForms as control
use Rattle.a64_cells.proofs.BranchForms.{branch_forms}
use Rattle.a64_emit.proofs.CallForms.{adjust_are_forms, call_is_form, leave_are_forms, return_is_form}
use Rattle.a64_emit.proofs.CallLoads.{loading, loaded_cells}
use Rattle.a64_cells.proofs.CallOperands.{call_results, return_restorable}
use Rattle.a64_cells.proofs.FloatForms as float
use Rattle.a64_cells.proofs.ImmediateForms as immediate
use Rattle.a64_cells.proofs.ImmediateForms.{immediate_forms}
use Rattle.a64_cells.proofs.LogicForms.{alu_rr_imm_logic_within}
use Rattle.a64_cells.proofs.OneWord.{field_widths}
use Rattle.a64_cells.proofs.Operands.{parts}
use Rattle.a64_cells.proofs.PlainOperands.{rest_of}
use Rattle.a64_cells.proofs.RegisterForms as register
use Rattle.a64_cells.proofs.RegisterForms.{register_forms}
use Rattle.a64_emit.proofs.SequenceForms.{plain_forms, sequences, one_cell}
use Rattle.a64_cells.proofs.VectorForms as vector

-- ---- shapes

-- each word of a shape is a form of its row, or data
abbrev pub AreForms : Shape → Type 0
AreForms (OneWord form) = IsFormOf form
AreForms (Several forms body site trap) = All IsFormOf forms × IsFormBody body
AreForms (Words cells) = All IsFormCell cells

two_cells : (first second : Cell) → IsFormCell first → IsFormCell second → All IsFormCell (first ∷ second ∷ [])
two_cells first second is then_is = All-cons IsFormCell first (second ∷ []) is (one_cell second then_is)

shape_forms : (shape : Shape) → AreForms shape → All IsFormCell (shape_cells shape)
shape_forms (OneWord form) is = one_cell (plain form) is
shape_forms (Several forms body site trap) (are, is) =
    All-append IsFormCell (map plain forms) (last_cell body site trap ∷ []) (All-map IsFormCell plain forms are) (one_cell (last_cell body site trap) is)
shape_forms (Words cells) are = are

-- a map of the stack at the first changes nothing
keep_forms : (kept : Option UserStackMap) (cells : List Cell) → All IsFormCell cells → All IsFormCell (keep kept cells)
keep_forms None cells are = are
keep_forms (Some m) [] are = are
keep_forms (Some m) (c ∷ cs) are = All-cons IsFormCell (record c { marks = record c.marks { map = Some m } }) cs (are 0 c (omega arith)) (λ k d w. are (suc k) d (omega (arith, w)))

-- ---- addresses

module _ (rd rn : Reg) where
  sum_forms : (offset : ℤ) → unsigned_abs offset < 2 ^ 64 → AreForms (sum_shape rd rn offset)
  sum_forms offset fits = go (int_eq offset (pos 0)) (is_same_register rd rn) (is_addend (unsigned_abs offset)) refl
    where
      go : (none same small : Bool) → is_addend (unsigned_abs offset) ≡ small → AreForms (if none then (if same then Words [] else quiet [] (mov_form Size64 rd rn)) else if small then quiet [] (addend_form rd rn offset) else quiet (step_forms addend_register (plan_of (unsigned_abs offset))) (sum_form rd rn offset))
      go true true small e = All-nil IsFormCell
      go true false small e = (All-nil IsFormOf, register.mov_is_form Size64 rd rn)
      go false same true e = (All-nil IsFormOf, immediate.alu_rr_imm12_is_form (sum_op offset) Size64 rd rn (addend (unsigned_abs offset)) (addend_good (unsigned_abs offset) e))
      go false same false e = (plan_forms addend_register (unsigned_abs offset) fits, register.alu_rrr_is_form (sum_op offset) Size64 rd rn addend_register)

mode_forms : (rd : Reg) (before : List Form) (mode : FinalMode) → All IsFormOf before → HoldsOffset mode → AreForms (address_shape rd before mode)
mode_forms rd before (SignedOffset rn offset) are holds = sum_forms rd rn offset holds
mode_forms rd before (ScaledOffset rn offset ty) are holds = sum_forms rd rn (pos offset) holds.0
mode_forms rd before (Other (modes.RegExtended rn rm extendop)) are holds = (are, register.alu_rrr_extend_is_form alu.Add Size64 rd rn rm extendop)
mode_forms rd before (Other _) are holds = All-nil IsFormCell

address_forms : (frame : FrameLayout) (rd : Reg) (mem : AMode) → are_address_operands frame Refused rd mem ≡ true → AreForms (address_shape rd (step_forms offset_register (final_steps frame I8 mem)) (final_mode frame I8 mem))
unfolding are_address_operands are_mode_operands
address_forms frame rd mem good =
    let (_, rest) = and_parts (is_register Refused rd) (are_mode_operands frame Refused mem && not (needs_x17_beside 63 (final_mode frame I8 mem))) good in
    let (operands, _) = and_parts (are_mode_operands frame Refused mem) (not (needs_x17_beside 63 (final_mode frame I8 mem))) rest in
    mode_forms rd (step_forms offset_register (final_steps frame I8 mem)) (final_mode frame I8 mem) (final_steps_forms offset_register frame I8 mem)
    (final_holds frame I8 mem byte_size (and_parts (are_mode_parts Refused mem) _ operands).0)

-- ---- branches

branch_pair : (form : Form) (kind : LabelUse) (taken not_taken : BranchTarget) → IsFormOf form → All IsFormCell (branches form kind taken not_taken)
branch_pair form kind taken not_taken is = two_cells (branch form kind taken) (branch (jump_form not_taken) uses.Branch26 not_taken) is (control.jump_is_form not_taken)

-- ---- instructions that are no calls

-- a form is one of its row by the widths of its fields, or by its own lemma where they are not enough
ruleset inst_rules = (rules, parts, field_widths, register_forms, immediate_forms, branch_forms, sequences, pair_is_form, address_forms, All-nil, one_cell, two_cells, branch_pair)

module _ (frame : FrameLayout) (flags : EmitFlags) where
  plain_shape_forms : (inst : Inst) → HasHalfword inst → has_plain_operands frame flags Refused inst ≡ true → AreForms (plain_shape frame flags inst)
  unfolding mov_to_nzcv_form mov_from_nzcv_form ret_form brk_form are_test_bit_operands
  plain_shape_forms insts.Nop4 fits good = control.nop4_is_form
  plain_shape_forms (insts.AluRRImm12 alu_op size rd rn imm12) fits good =
      immediate.alu_rr_imm12_is_form alu_op size rd rn imm12
      (and_parts (is_add_sub alu_op) (is_imm12 imm12) (rest_of (insts.AluRRImm12 alu_op size rd rn imm12) good)).1
  plain_shape_forms (insts.AluRRImmLogic alu_op size rd rn imml) fits good =
      alu_rr_imm_logic_within alu_op size rd rn imml
      (and_parts (is_logic alu_op) (is_logic_of size imml) (rest_of (insts.AluRRImmLogic alu_op size rd rn imml) good)).1
  plain_shape_forms (insts.AluRRImmShift alu_op size rd rn immshift) fits good =
      let (shift, bit) = and_parts (is_shift alu_op) (is_bit_of size immshift.imm) (rest_of (insts.AluRRImmShift alu_op size rd rn immshift) good) in
      immediate.alu_rr_imm_shift_is_form alu_op size rd rn immshift shift bit
  plain_shape_forms (insts.MovWide op rd imm size) fits good =
      immediate.mov_wide_is_form op rd imm size (rest_of (insts.MovWide op rd imm size) good) fits
  plain_shape_forms (insts.MovK rd rn imm size) fits good =
      immediate.mov_k_is_form rd imm size
      (and_parts (is_same_register rd rn) (is_wide_in size imm) (rest_of (insts.MovK rd rn imm size) good)).1 fits
  plain_shape_forms (insts.Extend rd rn signed from_bits to_bits) fits good =
      register.extend_is_form rd rn signed from_bits to_bits (rest_of (insts.Extend rd rn signed from_bits to_bits) good)
  plain_shape_forms (insts.BitfieldMove size bfm_op rd rn immr imms) fits good =
      immediate.bitfield_is_form size bfm_op rd rn immr imms (rest_of (insts.BitfieldMove size bfm_op rd rn immr imms) good)
  plain_shape_forms (insts.BitfieldMoveMod size rd ri rn immr imms) fits good =
      immediate.kept_bitfield_is_form size rd ri rn immr imms (rest_of (insts.BitfieldMoveMod size rd ri rn immr imms) good)
  plain_shape_forms (insts.AluRRRR alu_op size rd rn rm ra) fits good = register.product_is_form alu_op size rd rn rm ra
  plain_shape_forms (insts.AluRRRShift alu_op size rd rn rm shiftop) fits good =
      register.shifted_is_form alu_op size rd rn rm shiftop (rest_of (insts.AluRRRShift alu_op size rd rn rm shiftop) good)
  plain_shape_forms (insts.BitRR op size rd rn) fits good =
      register.bit_op_is_form op size rd rn (rest_of (insts.BitRR op size rd rn) good)
  plain_shape_forms (insts.AtomicRMW ty op rs rt rn trap) fits good = (All-nil IsFormOf, atomic.rmw_is_form ty op rs rt rn)
  plain_shape_forms (insts.AtomicCAS rd rs rt rn ty trap) fits good = (All-nil IsFormOf, atomic.cas_is_form ty rd rt rn)
  plain_shape_forms (insts.AtomicCAS128 args) fits good = (All-nil IsFormOf, atomic.cas128_is_form args good)
  plain_shape_forms (insts.LoadAcquire access_ty rt rn trap) fits good = (All-nil IsFormOf, atomic.load_acquire_is_form access_ty rt rn)
  plain_shape_forms (insts.StoreRelease access_ty rt rn trap) fits good = (All-nil IsFormOf, atomic.store_release_is_form access_ty rt rn)
  plain_shape_forms (insts.FpuLoadP64 rt rt2 mem trap) fits good = (All-nil IsFormOf, float_pair_is_form 1 true rt rt2 mem (lit< tt) refl)
  plain_shape_forms (insts.FpuStoreP64 rt rt2 mem trap) fits good = (All-nil IsFormOf, float_pair_is_form 1 false rt rt2 mem (lit< tt) refl)
  plain_shape_forms (insts.FpuLoadP128 rt rt2 mem trap) fits good = (All-nil IsFormOf, float_pair_is_form 2 true rt rt2 mem (lit< tt) refl)
  plain_shape_forms (insts.FpuStoreP128 rt rt2 mem trap) fits good = (All-nil IsFormOf, float_pair_is_form 2 false rt rt2 mem (lit< tt) refl)
  plain_shape_forms (insts.FpuMoveFromVec rd rn idx lanes) fits good =
      float.lane_is_form lanes idx rd rn (rest_of (insts.FpuMoveFromVec rd rn idx lanes) good)
  plain_shape_forms (insts.FpuExtend rd rn scalar) fits good = float.move_is_form scalar rd rn
  plain_shape_forms (insts.FpuRR fpu_op scalar rd rn) fits good = float.one_float_is_form fpu_op scalar rd rn
  plain_shape_forms (insts.FpuRRR fpu_op scalar rd rn rm) fits good = float.two_floats_is_form fpu_op scalar rd rn rm
  plain_shape_forms (insts.FpuRRI fpu_op rd rn) fits good =
      float.right_shift_is_form fpu_op rd rn (rest_of (insts.FpuRRI fpu_op rd rn) good)
  plain_shape_forms (insts.FpuRRIMod fpu_op rd ri rn) fits good =
      float.left_shift_is_form fpu_op rd rn (float.kept_op rd ri fpu_op (rest_of (insts.FpuRRIMod fpu_op rd ri rn) good))
  plain_shape_forms (insts.FpuRRRR fpu_op scalar rd rn rm ra) fits good = float.three_floats_is_form fpu_op scalar rd rn rm ra
  plain_shape_forms (insts.FpuCmp scalar rn rm) fits good = float.compare_is_form scalar rn rm
  plain_shape_forms (insts.FpuToInt op rd rn) fits good = float.to_int_is_form op rd rn
  plain_shape_forms (insts.IntToFpu op rd rn) fits good = float.from_int_is_form op rd rn
  plain_shape_forms (insts.FpuRound op rd rn) fits good = float.round_is_form op rd rn
  plain_shape_forms (insts.MovToFpu rd rn scalar) fits good = float.bits_are_form scalar rd rn
  plain_shape_forms (insts.FpuMoveFPImm rd imm scalar) fits good =
      float.immediate_is_form scalar imm rd (rest_of (insts.FpuMoveFPImm rd imm scalar) good)
  plain_shape_forms (insts.VecExtend t rd rn high_half lane_size) fits good =
      vector.extend_is_form t high_half lane_size rd rn (rest_of (insts.VecExtend t rd rn high_half lane_size) good)
  plain_shape_forms (insts.VecRRLong op rd rn high_half) fits good = vector.long_is_form op high_half rd rn
  plain_shape_forms (insts.VecRRNarrowLow op rd rn lane_size) fits good = vector.narrow_low_is_form op lane_size rd rn
  plain_shape_forms (insts.VecRRNarrowHigh op rd ri rn lane_size) fits good = vector.narrow_high_is_form op lane_size rd rn
  plain_shape_forms (insts.VecRRRLong alu_op rd rn rm high_half) fits good = vector.product_is_form alu_op high_half rd rn rm
  plain_shape_forms (insts.VecRRRLongMod alu_op rd ri rn rm high_half) fits good = vector.added_product_is_form alu_op high_half rd rn rm
  plain_shape_forms (insts.VecRRPairLong op rd rn) fits good = vector.pair_long_is_form op rd rn
  plain_shape_forms (insts.VecRRR alu_op rd rn rm size) fits good = vector.three_is_form alu_op size rd rn rm
  plain_shape_forms (insts.VecRRRMod alu_op rd ri rn rm size) fits good = vector.kept_three_is_form alu_op size rd rn rm
  plain_shape_forms (insts.VecFmlaElem alu_op rd ri rn rm size idx) fits good =
      vector.element_is_form alu_op size idx rd rn rm
      (vector.kept_element rd ri alu_op size idx (rest_of (insts.VecFmlaElem alu_op rd ri rn rm size idx) good))
  plain_shape_forms (insts.VecMisc op rd rn size) fits good = vector.two_is_form op size rd rn
  plain_shape_forms (insts.VecLanes op rd rn size) fits good = vector.across_is_form op size rd rn
  plain_shape_forms (insts.VecShiftImm op rd rn size imm) fits good =
      vector.shift_is_form op size imm rd rn (rest_of (insts.VecShiftImm op rd rn size imm) good)
  plain_shape_forms (insts.VecShiftImmMod op rd ri rn size imm) fits good =
      vector.kept_shift_is_form size imm rd rn
      (vector.kept_amount rd ri size imm (rest_of (insts.VecShiftImmMod op rd ri rn size imm) good))
  plain_shape_forms (insts.MovToVec rd ri rn idx size) fits good =
      vector.insert_is_form size idx rd rn (vector.kept_lane rd ri size idx (rest_of (insts.MovToVec rd ri rn idx size) good))
  plain_shape_forms (insts.MovFromVec rd rn idx scalar) fits good =
      vector.unsigned_move_is_form scalar idx rd rn (rest_of (insts.MovFromVec rd rn idx scalar) good)
  plain_shape_forms (insts.MovFromVecSigned rd rn idx size scalar_size) fits good =
      vector.signed_move_is_form size idx scalar_size rd rn (rest_of (insts.MovFromVecSigned rd rn idx size scalar_size) good)
  plain_shape_forms (insts.VecDup rd rn size) fits good = vector.dup_is_form size rd rn
  plain_shape_forms (insts.VecDupFromFpu rd rn size lane) fits good =
      vector.dup_lane_is_form size lane rd rn (rest_of (insts.VecDupFromFpu rd rn size lane) good)
  plain_shape_forms (insts.VecDupFPImm rd imm size) fits good =
      vector.dup_float_is_form size imm rd (rest_of (insts.VecDupFPImm rd imm size) good)
  plain_shape_forms (insts.VecDupImm rd imm invert size) fits good =
      vector.dup_immediate_is_form size imm invert rd (rest_of (insts.VecDupImm rd imm invert size) good)
  plain_shape_forms (insts.VecMovElement rd ri rn dest_idx src_idx size) fits good =
      let rest = rest_of (insts.VecMovElement rd ri rn dest_idx src_idx size) good in
      vector.move_element_is_form size dest_idx src_idx rd rn
      (vector.kept_dest rd ri size dest_idx src_idx rest) (vector.kept_src rd ri size dest_idx src_idx rest)
  plain_shape_forms (insts.VecExtract rd rn rm imm4) fits good =
      vector.extract_is_form imm4 rd rn rm (rest_of (insts.VecExtract rd rn rm imm4) good)
  plain_shape_forms (insts.VecTbl rd rn rm) fits good = vector.table_is_form false false rd rn rm
  plain_shape_forms (insts.VecTblExt rd ri rn rm) fits good = vector.table_is_form false true rd rn rm
  plain_shape_forms (insts.VecTbl2 rd rn rn2 rm) fits good = vector.table_is_form true false rd rn rm
  plain_shape_forms (insts.VecTbl2Ext rd ri rn rn2 rm) fits good = vector.table_is_form true true rd rn rm
  plain_shape_forms (insts.VecLoadReplicate rd rn size trap) fits good = (All-nil IsFormOf, vector.replicate_is_form size rd rn)
  plain_shape_forms _ fits good = search inst_rules

module _ (frame : FrameLayout) where
  access_forms : (access : Access) → are_access_operands frame Refused access ≡ true → has_access_mode access.op access.mem ≡ true → AreForms (access_shape frame access)
  access_forms access good mode = (access_steps_forms frame access, access_is_form frame access good mode)

-- ---- calls

module _ (frame : FrameLayout) where
  -- the load of a result
  result_forms : (vreg : Reg) (location : RetLocation) → is_result_at Refused vreg location ≡ true → All IsFormCell (result_cells frame (record { vreg = vreg; location = location }))
  result_forms vreg (locations.Reg preg ty) good = All-nil IsFormCell
  result_forms vreg (locations.Stack offset ty) good =
      let (has, _) = and_parts (type_has_load_form ty) (is_data_register Refused (load_op ty) vreg && not (is_numbered 16 vreg)) good in
      let load = loading vreg offset ty in
      subst (All IsFormCell) (sym (loaded_cells frame vreg offset ty has))
      (shape_forms (access_shape frame load)
      (access_steps_forms frame load, parts_are_form frame load refl refl refl))

  results_forms : (defs : List CallRetPair) → are_call_defs Refused defs ≡ true → All IsFormCell (flat_map (result_cells frame) defs)
  results_forms [] good = All-nil IsFormCell
  results_forms (pair ∷ defs) good =
      let (first, others) = and_parts (is_result_at Refused pair.vreg pair.location) (are_call_defs Refused defs) good in
      All-append IsFormCell (result_cells frame pair) (flat_map (result_cells frame) defs) (result_forms pair.vreg pair.location first) (results_forms defs others)

  call_forms : (callee : Callee) (defs : List CallRetPair) (pop : ℕ) → are_call_defs Refused defs ≡ true → All IsFormCell (call_cells frame callee defs pop)
  call_forms callee defs pop good =
      All-cons IsFormCell (call_cell callee None) (map plain (pop_forms pop) ++ flat_map (result_cells frame) defs) (call_is_form callee)
      (All-append IsFormCell (map plain (pop_forms pop)) (flat_map (result_cells frame) defs) (plain_forms (pop_forms pop) (adjust_are_forms (pos 0 -ℤ pos pop))) (results_forms defs good))

  symbol_forms : (callee : Callee) (patchable : Bool) (defs : List CallRetPair) (pop : ℕ) → are_call_defs Refused defs ≡ true → All IsFormCell (if patchable then patchable_cells callee pop else call_cells frame callee defs pop)
  symbol_forms callee true defs pop good =
      All-cons IsFormCell (call_cell callee (Some (4 * (length (pop_forms pop) + 1)))) (map plain (pop_forms pop)) (call_is_form callee) (plain_forms (pop_forms pop) (adjust_are_forms (pos 0 -ℤ pos pop)))
  symbol_forms callee false defs pop good = call_forms callee defs pop good

  module _ (flags : EmitFlags) where
    -- what a frame restores
    lone_form : (cells : List Cell) → All IsFormCell cells → IsFormCell (lone_cell cells)
    lone_form [] are = control.nop4_is_form
    lone_form (c ∷ cs) are = are 0 c (omega arith)

    restored_form : (inst : Inst) → HasHalfword inst → can_restore frame flags Refused inst ≡ true → IsFormCell (restored_cell frame flags inst)
    restored_form inst fits good = go (access_of inst) operands mode
      where
        others : ((elim (access_of inst) [ None ↦ has_plain_operands frame flags Refused inst | Some access ↦ are_access_operands frame Refused access ]) && (has_mode inst && has_scratch frame inst)) ≡ true
        others = (and_parts (is_lone frame inst) _ good).1

        operands : (elim (access_of inst) [ None ↦ has_plain_operands frame flags Refused inst | Some access ↦ are_access_operands frame Refused access ]) ≡ true
        operands = (and_parts _ (has_mode inst && has_scratch frame inst) others).0

        mode : has_mode inst ≡ true
        mode = (and_parts (has_mode inst) (has_scratch frame inst) (and_parts _ (has_mode inst && has_scratch frame inst) others).1).0

        go : (o : Option Access) → (elim o [ None ↦ has_plain_operands frame flags Refused inst | Some access ↦ are_access_operands frame Refused access ]) ≡ true
            → (elim o [ None ↦ has_other_mode inst | Some access ↦ has_access_mode access.op access.mem ]) ≡ true
            → IsFormCell (lone_cell (shape_cells (elim o [ None ↦ plain_shape frame flags inst | Some access ↦ access_shape frame access ])))
        go None e f = lone_form (shape_cells (plain_shape frame flags inst)) (shape_forms (plain_shape frame flags inst) (plain_shape_forms frame flags inst fits e))
        go (Some access) e f = lone_form (shape_cells (access_shape frame access)) (shape_forms (access_shape frame access) (access_forms frame access e f))

    restored_forms : RestoresHalfwords frame → is_restorable frame flags Refused ≡ true → All IsFormCell (map (restored_cell frame flags) frame.restore)
    restored_forms fit good =
        let can = AllPass-from_list_all (can_restore frame flags Refused) frame.restore good in
        All-map IsFormCell (restored_cell frame flags) frame.restore (λ k d w. restored_form (get_or frame.restore k d) (fit k d w) (can k d w))

    return_forms : (callee : Callee) (size : ℕ) (key : Option APIKey) (all : Bool) → RestoresHalfwords frame → is_restorable frame flags Refused ≡ true → All IsFormCell (return_cells frame flags callee size key all)
    return_forms callee size key all fit good =
        All-append IsFormCell (map (restored_cell frame flags) frame.restore ++ map plain (leave_forms frame size key all)) (return_cell callee ∷ [])
        (All-append IsFormCell (map (restored_cell frame flags) frame.restore) (map plain (leave_forms frame size key all)) (restored_forms fit good) (plain_forms (leave_forms frame size key all) (leave_are_forms frame size key all)))
        (one_cell (return_cell callee) (return_is_form callee))

-- ---- instructions

module _ (frame : FrameLayout) (flags : EmitFlags) (fit : RestoresHalfwords frame) where
  other_forms : (inst : Inst) → HasHalfword inst → has_other_operands frame flags Refused inst ≡ true → AreForms (other_shape frame flags inst)
  other_forms (insts.Call info) fits good = symbol_forms frame (Symbol info.dest) info.patchable info.defs info.callee_pop_size (call_results info.uses info.defs info.callee_pop_size good)
  other_forms (insts.CallInd info) fits good =
      call_forms frame (Address info.dest) info.defs info.callee_pop_size (call_results info.uses info.defs info.callee_pop_size (and_parts (is_register_or_zero Refused info.dest) _ good).1)
  other_forms (insts.ReturnCall info) fits good =
      return_forms frame flags (Symbol info.dest) info.new_stack_arg_size info.key info.sign_return_address_all fit (return_restorable frame (is_restorable frame flags Refused) info.uses info.new_stack_arg_size good)
  other_forms (insts.ReturnCallInd info) fits good =
      return_forms frame flags (Address info.dest) info.new_stack_arg_size info.key info.sign_return_address_all fit
      (return_restorable frame (is_restorable frame flags Refused) info.uses info.new_stack_arg_size (and_parts (is_register_or_zero Refused info.dest) _ good).1)
  other_forms inst fits good = plain_shape_forms frame flags inst fits good

  -- those of an instruction whose operands are in their sets and whose mode exists
  operands_forms : (inst : Inst) → HasHalfword inst → has_operands frame flags Refused inst ≡ true → has_mode inst ≡ true → AreForms (shape_of frame flags inst)
  operands_forms inst fits good mode = go (access_of inst) good mode
    where
      go : (o : Option Access) → (elim o [ None ↦ has_other_operands frame flags Refused inst | Some access ↦ are_access_operands frame Refused access ]) ≡ true
          → (elim o [ None ↦ has_other_mode inst | Some access ↦ has_access_mode access.op access.mem ]) ≡ true
          → AreForms (elim o [ None ↦ other_shape frame flags inst | Some access ↦ access_shape frame access ])
      go None e f = other_forms inst fits e
      go (Some access) e f = access_forms frame access e f

  -- those of an instruction without a fault
  pub inst_forms : (constants : FinMap nat_cmp (List ℕ)) (inst : Inst) → HasHalfword inst → inst_fault frame flags constants Refused inst ≡ None → All IsFormCell (inst_cells frame flags inst)
  inst_forms constants inst fits none =
      shape_forms (shape_of frame flags inst) (operands_forms inst fits (operands_good frame flags constants Refused inst none) (mode_good frame flags constants inst none))

  -- and of an item
  pub item_forms : (constants : FinMap nat_cmp (List ℕ)) (item : Item) → HoldsHalfword item → item_fault frame flags constants item ≡ None → All IsFormCell (cells_of frame flags item)
  item_forms constants (Bind label) fits none = All-nil IsFormCell
  item_forms constants (Emit inst kept) fits none = keep_forms (kept_by inst kept) (inst_cells frame flags inst) (inst_forms constants inst fits none)
