-- How many bytes the words of instructions take at most, and what islands may add because of them.
use Rattle.std.proofs.Common.{ℕ, ℤ, pos, ◌≡◌, ◌-◌, ◌+◌, ◌^◌, ◌≤◌, Bool, true, false, List, [], ◌∷◌, length, map, Option, None, Some, refl, sym, ap, subst, arith, if◌then◌else◌}
use Rattle.std.specs.Prelude.{option_map}
use Rattle.std.specs.Ordering.{int_eq}
use Rattle.std.specs.Int.RustNames.{unsigned_abs}
use Rattle.std.specs.List.{cons_option, filter_map}
use Rattle.std.proofs.lemmas.List.{length-append, length-map}
use Rattle.a64_base.specs.declared.entity.TrapCode.{TrapCode}
use Rattle.a64_base.specs.declared.entity.UserStackMap.{UserStackMap}
use Rattle.a64_base.specs.declared.ir_type.IrType.{IrType}
use Rattle.a64_base.specs.declared.ir_type.IrType.TheVariants.{I8, I16}
use Rattle.a64_base.specs.declared.key.APIKey.{APIKey}
use Rattle.a64_base.specs.declared.key.APIKey.TheVariants.{ASP, BSP}
use Rattle.a64_base.specs.declared.reg.Reg.{Reg}
use Rattle.a64_base.specs.declared.size.OperandSize.{OperandSize}
use Rattle.a64_base.specs.declared.size.OperandSize.TheVariants.{Size32, Size64}
use Rattle.a64_base.specs.declared.target.BranchTarget.{BranchTarget}
use Rattle.a64_base.specs.declared.target.BranchTarget.TheVariants as branch_targets
use Rattle.a64_imms.specs.Logic.{logic_of}
use Rattle.a64_imms.specs.MoveWides.{wide_of}
use Rattle.a64_ops.specs.declared.operator.ALUOp.TheVariants.{Add}
use Rattle.a64_ops.specs.declared.operator.AtomicRMWLoopOp.{AtomicRMWLoopOp}
use Rattle.a64_ops.specs.declared.operator.AtomicRMWLoopOp.TheVariants as rmw
use Rattle.a64_plan.specs.declared.step.ConstStep.{ConstStep}
use Rattle.a64_plan.specs.declared.step.ConstStep.TheVariants.{MovN, MovZ, Orr}
use Rattle.a64_plan.specs.Plans.{alone_or, moves_size, narrow_logic_of, plan_of}
use Rattle.a64_plan.specs.Shapes.{halfword_count}
use Rattle.a64_plan.proofs.Moves.{moves_few}
use Rattle.a64_inst.specs.declared.access.Access.{Access}
use Rattle.a64_inst.specs.declared.emission.EmitFlags.{EmitFlags}
use Rattle.a64_inst.specs.declared.frame.FrameLayout.{FrameLayout}
use Rattle.a64_inst.specs.declared.inst.Inst.{Inst}
use Rattle.a64_inst.specs.declared.inst.Inst.TheVariants as insts
use Rattle.a64_inst.specs.declared.mode.AMode.TheVariants as modes
use Rattle.a64_inst.specs.Accesses.{access_of, access_type}
use Rattle.a64_inst.specs.FinalModes.{FinalMode, SignedOffset, ScaledOffset, Other, final_mode, final_steps}
use Rattle.a64_inst.specs.MemoryOperands.{is_addend}
use Rattle.a64_operand.specs.Operands.{is_same_register}
use Rattle.a64_inst.specs.State.{State}
use Rattle.a64_buffer.specs.Buffer.{Buffer, end_of}
use Rattle.a64_label_use.specs.declared.label_use.LabelUse.{LabelUse}
use Rattle.a64_label_use.specs.declared.label_use.LabelUse.TheVariants as uses
use Rattle.a64_rows.specs.Forms.{Form}
use Rattle.a64_cells.specs.declared.site.Site.{Site}
use Rattle.a64_emit.specs.Bounds.{asked_of, charge_of, size_of, veneer_range}
use Rattle.a64_cells.specs.Shapes.{Body, Cell, FormOf, Shape, Words, address_shape, branch, branch_site, branches, cas_loop_cells, last_cell, plain, quiet, rmw_loop_cells, several, sum_shape}
use Rattle.a64_cells.specs.Cells.{access_shape, cell_word, inst_cells, keep, kept_by, kept_cells, mode_site, other_shape, shape_cells, sites_of}
use Rattle.a64_cells.specs.ControlForms.{authenticated_ret_forms}
use Rattle.a64_emit.specs.Emission.{Emits, Puts, appended}
use Rattle.a64_cells.specs.IntegerForms.{alu_rrr_extend_form, mov_form}
use Rattle.a64_cells.specs.LoopForms.{awaited_forms, new_register, operator_forms, stored_register}
use Rattle.a64_cells.specs.MemoryForms.{access_form, access_steps, addend_form, addend_register, offset_register, step_form, step_forms, sum_form}
use Rattle.a64_emit.specs.WorstCases.{is_bounded}
use Rattle.a64_emit.proofs.CallLoads.{final_few}
use Rattle.a64_cells.proofs.Loops.{loop_length, loop_sites}
use Rattle.a64_cells.proofs.Several.{address_sites, plain_sites, several_sites}

-- cells that take few bytes, and because of which islands add few
record AreFew (cells : List Cell) : Type 0 where
  size : size_of cells ≤ 44
  charge : charge_of cells ≤ 128

-- ---- by how many they are, and how many uses they have

-- as many uses at most may want veneers as there are uses
wanting_fewer : (sites : List Site) → length (filter_map veneer_range sites) ≤ length sites
wanting_fewer [] = omega arith
wanting_fewer (site ∷ sites) = go (veneer_range site) (wanting_fewer sites)
  where
    go : (o : Option ℕ) → length (filter_map veneer_range sites) ≤ length sites → length (cons_option o (filter_map veneer_range sites)) ≤ length (site ∷ sites)
    go None fewer = omega (arith, fewer)
    go (Some range) fewer = omega (arith, fewer)

few_of : (cells : List Cell) → length cells ≤ 11 → length (sites_of cells) ≤ 4 → AreFew cells
few_of [] few used = record { size = omega arith; charge = omega arith }
few_of (c ∷ cs) few used = record { size = omega (arith, few); charge = omega (arith, used, wanting_fewer (sites_of (c ∷ cs))) }

unused_few : (cells : List Cell) → length cells ≤ 11 → sites_of cells ≡ [] → AreFew cells
unused_few cells few none = few_of cells few (omega (arith, ap length none))

-- a map that is kept changes nothing of it
kept_few : (kept : Option UserStackMap) (cells : List Cell) → AreFew cells → AreFew (keep kept cells)
kept_few None cells h = h
kept_few (Some kept) [] h = h
kept_few (Some kept) (c ∷ cs) h = record { size = h.size; charge = h.charge }

-- ---- several words, of which the last may be a use

option_few : (o : Option Site) → length (cons_option o []) ≤ 1
option_few None = omega arith
option_few (Some site) = omega arith

several_few : (forms : List Form) (body : Body) (site : Option Site) (trap : Option TrapCode) → length forms ≤ 10 → AreFew (several forms body site trap)
several_few forms body site trap few =
    few_of (several forms body site trap) (omega (arith, few, length-append (map plain forms) (last_cell body site trap ∷ []), length-map forms plain))
    (omega (arith, ap length (several_sites forms body site trap), option_few site))

-- ---- the steps of a number are four at most

alone_few : (alone : Option ConstStep) (steps : List ConstStep) → length steps ≤ 4 → length (alone_or alone steps) ≤ 4
alone_few None steps few = few
alone_few (Some step) steps few = omega arith

size_few : (size : OperandSize) → halfword_count size ≤ 4
size_few Size32 = omega arith
size_few Size64 = omega arith

plan_few : (value : ℕ) → length (plan_of value) ≤ 4
unfolding plan_of
plan_few value =
    let (zeros, ones) = moves_few (moves_size value) value in
    alone_few (option_map (λ imm. MovZ imm Size64) (wide_of value)) _
    (alone_few (option_map (λ imm. MovN imm Size64) (wide_of (2 ^ 64 - 1 - value))) _
    (alone_few (option_map Orr (logic_of Size64 value)) _
    (alone_few (option_map Orr (narrow_logic_of value)) _ (omega (arith, zeros, size_few (moves_size value))))))

-- ---- addresses

abbrev FewWords : Shape → Type 0
FewWords shape = length (shape_cells shape) ≤ 11

chosen_few : (nothing same near : Bool) (move near_sum far_sum : Shape) → FewWords move → FewWords near_sum → FewWords far_sum
    → FewWords (if nothing then (if same then Words [] else move) else if near then near_sum else far_sum)
chosen_few true true near move near_sum far_sum a b c = omega arith
chosen_few true false near move near_sum far_sum a b c = a
chosen_few false same true move near_sum far_sum a b c = b
chosen_few false same false move near_sum far_sum a b c = c

quiet_few : (forms : List Form) (form : Form) → length forms ≤ 10 → FewWords (quiet forms form)
quiet_few forms form few = omega (arith, few, length-append (map plain forms) (last_cell (FormOf form) None None ∷ []), length-map forms plain)

sum_few : (rd rn : Reg) (offset : ℤ) → FewWords (sum_shape rd rn offset)
sum_few rd rn offset =
    let plan = plan_of (unsigned_abs offset) in
    chosen_few (int_eq offset (pos 0)) (is_same_register rd rn) (is_addend (unsigned_abs offset))
    (quiet [] (mov_form Size64 rd rn)) (quiet [] (addend_form rd rn offset)) (quiet (step_forms addend_register plan) (sum_form rd rn offset))
    (omega arith) (omega arith)
    (quiet_few (step_forms addend_register plan) (sum_form rd rn offset) (omega (arith, length-map plan (step_form addend_register), plan_few (unsigned_abs offset))))

address_few : (rd : Reg) (before : List Form) (mode : FinalMode) → length before ≤ 10 → FewWords (address_shape rd before mode)
address_few rd before (SignedOffset rn offset) few = sum_few rd rn offset
address_few rd before (ScaledOffset rn offset ty) few = sum_few rd rn (pos offset)
address_few rd before (Other (modes.RegExtended rn rm extendop)) few = quiet_few before (alu_rrr_extend_form Add Size64 rd rn rm extendop) few
address_few rd before (Other _) few = omega arith

-- ---- loops and returns

-- between the accesses of a loop stand three words at most
choice_few : (ty : IrType) (op : AtomicRMWLoopOp) → length (operator_forms ty op) ≤ 3
choice_few I8 rmw.Smax = omega arith
choice_few I16 rmw.Smax = omega arith
choice_few _ rmw.Smax = omega arith
choice_few I8 rmw.Smin = omega arith
choice_few I16 rmw.Smin = omega arith
choice_few _ rmw.Smin = omega arith
choice_few ty _ = omega arith

return_few : (key : APIKey) (is_hint : Bool) → length (map plain (authenticated_ret_forms key is_hint)) ≤ 11
return_few ASP false = omega arith
return_few BSP false = omega arith
return_few _ _ = omega arith

-- ---- branches

branch_few : (form : Form) (kind : LabelUse) (dest : BranchTarget) → AreFew (branch form kind dest ∷ [])
branch_few form kind dest = few_of (branch form kind dest ∷ []) (omega arith) (omega (arith, option_few (branch_site kind dest)))

both_few : (first second : Option Site) → length (cons_option first (cons_option second [])) ≤ 2
both_few None second = omega (arith, option_few second)
both_few (Some site) second = omega (arith, option_few second)

branches_few : (form : Form) (kind : LabelUse) (taken not_taken : BranchTarget) → AreFew (branches form kind taken not_taken)
branches_few form kind taken not_taken =
    few_of (branches form kind taken not_taken) (omega arith) (omega (arith, both_few (branch_site kind taken) (branch_site uses.Branch26 not_taken)))

-- ---- instructions

-- what is bounded is no place for an island
bounded_unasked : (inst : Inst) → is_bounded inst ≡ true → asked_of inst ≡ None
bounded_unasked (insts.EmitIsland needed_space) e = absurd cc
bounded_unasked _ e = refl

module _ (frame : FrameLayout) (flags : EmitFlags) where
  access_few : (access : Access) → AreFew (shape_cells (access_shape frame access))
  access_few access =
      let steps = final_steps frame (access_type access.op) access.mem in
      several_few (access_steps frame access) (FormOf (access_form frame access)) (mode_site access.mem) access.flags
      (omega (arith, length-map steps (step_form offset_register), final_few frame (access_type access.op) access.mem))

  other_few : (inst : Inst) → is_bounded inst ≡ true → AreFew (shape_cells (other_shape frame flags inst))
  other_few (insts.Call info) e = absurd cc
  other_few (insts.CallInd info) e = absurd cc
  other_few (insts.ReturnCall info) e = absurd cc
  other_few (insts.ReturnCallInd info) e = absurd cc
  other_few (insts.JTSequence default targets ridx rtmp1 rtmp2) e = absurd cc
  other_few (insts.Jump dest) e = branch_few _ uses.Branch26 dest
  other_few (insts.CondBr taken not_taken kind) e = branches_few _ uses.Branch19 taken not_taken
  other_few (insts.TestBitAndBranch kind taken not_taken rn bit) e = branches_few _ uses.Branch14 taken not_taken
  other_few (insts.LabelAddress dst label) e = branch_few _ uses.Adr21 (branch_targets.Label label)
  other_few (insts.AuthenticatedRet key is_hint) e =
      unused_few (map plain (authenticated_ret_forms key is_hint)) (return_few key is_hint) (plain_sites (authenticated_ret_forms key is_hint))
  other_few (insts.AtomicRMWLoop ty op trap addr operand oldval scratch1 scratch2) e =
      let between = operator_forms ty op in
      unused_few (rmw_loop_cells ty op trap) (omega (arith, loop_length ty between (stored_register op) trap, choice_few ty op))
      (loop_sites ty between (stored_register op) trap)
  other_few (insts.AtomicCASLoop ty trap addr expected replacement oldval scratch) e =
      unused_few (cas_loop_cells ty trap) (omega arith) (loop_sites ty (awaited_forms ty) new_register trap)
  other_few (insts.LoadAddr rd mem) e =
      let steps = final_steps frame I8 mem in
      let before = step_forms offset_register steps in
      unused_few (shape_cells (address_shape rd before (final_mode frame I8 mem)))
      (address_few rd before (final_mode frame I8 mem) (omega (arith, length-map steps (step_form offset_register), final_few frame I8 mem)))
      (address_sites rd before (final_mode frame I8 mem))
  other_few _ e = record { size = omega arith; charge = omega arith }

  inst_few : (inst : Inst) → is_bounded inst ≡ true → AreFew (inst_cells frame flags inst)
  inst_few inst bounded = go (access_of inst) refl
    where
      go : (o : Option Access) → access_of inst ≡ o → AreFew (inst_cells frame flags inst)
      go None e = subst (λ o. AreFew (shape_cells (elim o [ None ↦ other_shape frame flags inst | Some access ↦ access_shape frame access ]))) (sym e) (other_few inst bounded)
      go (Some access) e =
          subst (λ o. AreFew (shape_cells (elim o [ None ↦ other_shape frame flags inst | Some a ↦ access_shape frame a ]))) (sym e) (access_few access)

module _ (inst : Inst) (flags : EmitFlags) (state : State) (bounded : is_bounded inst ≡ true) where
  abbrev words : List Cell
  words = kept_cells state.frame flags inst state.map

  words_few : AreFew words
  words_few = kept_few (kept_by inst state.map) (inst_cells state.frame flags inst) (inst_few state.frame flags inst bounded)

  pub worst_size : size_of words ≤ 44
  worst_size = words_few.size

  pub worst_charge : charge_of words ≤ 128
  worst_charge = words_few.charge

  -- so emission adds no more bytes
  pub worst_bytes : (before after : Buffer LabelUse) → Emits flags state inst before after → end_of after ≤ end_of before + 44
  worst_bytes before after emits =
      let put : after ≡ appended before words = subst (λ o. Puts o words before after) (bounded_unasked inst bounded) emits in
      omega (arith, ap end_of put, length-append before.words (map cell_word words), length-map words cell_word, words_few.size)
