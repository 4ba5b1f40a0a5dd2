-- What a frame can restore: exactly the instructions without a fault that are one word, which is no use and no call.
use Rattle.std.proofs.Common.{ℕ, ℤ, pos, ◌≡◌, ◌≤◌, ◌+◌, ◌*◌, ◌^◌, Bool, true, false, List, [], ◌∷◌, ◌++◌, length, map, Option, None, Some, refl, ap₂, sym, ◌∙◌, nat_cmp, arith}
use Rattle.std.specs.Ordering.{int_eq}
use Rattle.std.specs.Int.RustNames.{unsigned_abs}
use Rattle.std.specs.Prelude.{not, ◌&&◌, is_none, if◌then◌else◌}
use Rattle.std.specs.FinMap.{FinMap}
use Rattle.std.specs.List.{flat_map}
use Rattle.std.proofs.lemmas.Bool.{and_parts}
use Rattle.a64_base.specs.declared.entity.TrapCode.{TrapCode}
use Rattle.a64_base.specs.declared.entity.VCodeConstant.{VCodeConstant}
use Rattle.a64_base.specs.declared.ir_type.IrType.{IrType}
use Rattle.a64_base.specs.declared.ir_type.IrType.TheVariants.{I8}
use Rattle.a64_base.specs.declared.key.APIKey.{APIKey}
use Rattle.a64_base.specs.declared.key.APIKey.TheVariants.{AZ, ASP, BZ, BSP}
use Rattle.a64_base.specs.declared.reg.Reg.{Reg}
use Rattle.a64_base.specs.declared.reg.RegKind.TheVariants.{Real, Virtual}
use Rattle.a64_base.specs.declared.size.OperandSize.TheVariants.{Size64}
use Rattle.a64_base.specs.declared.target.BranchTarget.TheVariants as branch_targets
use Rattle.a64_ops.specs.declared.operator.ALUOp.TheVariants.{Add}
use Rattle.a64_plan.specs.declared.step.ConstStep.{ConstStep}
use Rattle.a64_plan.specs.Plans.{plan_of}
use Rattle.a64_plan.specs.Shapes.{IsShape}
use Rattle.a64_inst.specs.declared.access.Access.{Access}
use Rattle.a64_inst.specs.declared.call.CallRetPair.{CallRetPair}
use Rattle.a64_inst.specs.declared.emission.EmitFlags.{EmitFlags}
use Rattle.a64_inst.specs.declared.frame.FrameLayout.{FrameLayout}
use Rattle.a64_inst.specs.declared.inst.Inst.{Inst}
use Rattle.a64_inst.specs.declared.inst.Inst.TheVariants as insts
use Rattle.a64_inst.specs.declared.mode.AMode.{AMode}
use Rattle.a64_inst.specs.declared.mode.AMode.TheVariants as modes
use Rattle.a64_inst.specs.declared.mode.MemLabel.TheVariants.{PCRel, Mach, Pool}
use Rattle.a64_operand.specs.declared.virtuals.VirtualRegisters.TheVariants.{Refused}
use Rattle.a64_inst.specs.Accesses.{access_of, access_type}
use Rattle.a64_inst.specs.FinalModes.{FinalMode, SignedOffset, ScaledOffset, Other, final_mode, final_steps, needs_x16}
use Rattle.a64_inst.specs.Lone.{is_lone, is_lone_access, is_lone_address, is_lone_other, is_lone_return, is_lone_sum, is_no_use}
use Rattle.a64_inst.specs.MemoryOperands.{are_access_operands, are_address_operands, are_mode_operands, is_addend, is_within}
use Rattle.a64_imms.specs.Offsets.{residue}
use Rattle.a64_inst.specs.Modes.{BaseOffset, base_offset_of, constant_in, is_far, steps_to}
use Rattle.a64_operand.specs.Operands.{is_register, is_register_or_stack, is_other_register, is_same_register}
use Rattle.a64_inst.specs.declared.fault.OwnFault.{OwnFault}
use Rattle.a64_inst.specs.declared.fault.OwnFault.TheVariants as own
use Rattle.a64_inst.specs.Faults.{can_restore, constant_size, first_of, has_constant, has_operands, has_other_operands, has_plain_operands, has_mode, has_scratch, inst_fault, is_within_constant}
use Rattle.a64_inst.proofs.Good.{operands_good}
use Rattle.a64_rows.specs.Forms.{Form}
use Rattle.a64_cells.specs.declared.callee.Callee.{Callee}
use Rattle.a64_cells.specs.declared.callee.Callee.TheVariants.{Symbol, Address}
use Rattle.a64_cells.specs.declared.site.Site.{Site}
use Rattle.a64_cells.specs.Shapes.{Body, FormOf, Cell, Shape, Words, quiet, several, sum_shape, address_shape, plain, loop_cells, table_jump}
use Rattle.a64_cells.specs.Cells.{mode_site, access_shape, other_shape, shape_cells, inst_cells, call_cell, call_cells, leave_forms, patchable_cells, pop_forms, restored_cell, result_cells, return_cell, is_lone_cells}
use Rattle.a64_cells.specs.IntegerForms.{mov_form, alu_rrr_extend_form}
use Rattle.a64_cells.specs.LoopForms.{awaited_forms, new_register, operator_forms, stored_register}
use Rattle.a64_cells.specs.MemoryForms.{step_forms, offset_register, addend_register, addend_form, sum_form, access_steps, access_form}
use Rattle.a64_cells.proofs.Accesses.{are_address_parts, address_good, mode_good, scratch_good}
use Rattle.a64_cells.proofs.Loops.{loop_length}
use Rattle.a64_emit.proofs.Restored.{restored}
use Rattle.a64_emit.proofs.SequenceForms.{plan_shape}
use Rattle.a64_emit.proofs.TableUses.{table_forms_length, table_jump_length}

-- ---- lists of cells

abbrev is_empty : {X : Type 0} → List X → Bool
is_empty [] = true
is_empty (x ∷ xs) = false

-- two words or more
many : (cells : List Cell) → 2 ≤ length cells → is_lone_cells cells ≡ false
many [] two = absurd (omega (arith, two))
many (c ∷ []) two = absurd (omega (arith, two))
many (c ∷ d ∷ cs) two = refl

-- of several words the last alone may be a use, and none is a call
several_lone : (forms : List Form) (body : Body) (site : Option Site) (trap : Option TrapCode) → is_lone_cells (several forms body site trap) ≡ (is_empty forms && is_none site)
several_lone [] body None trap = refl
several_lone [] body (Some site) trap = refl
several_lone (f ∷ []) body site trap = refl
several_lone (f ∷ g ∷ forms) body site trap = refl

call_first : (callee : Callee) (patchable : Option ℕ) (cells : List Cell) → is_lone_cells (call_cell callee patchable ∷ cells) ≡ false
call_first callee patchable [] = refl
call_first callee patchable (c ∷ cs) = refl

call_last : (cells : List Cell) (callee : Callee) → is_lone_cells (cells ++ return_cell callee ∷ []) ≡ false
call_last [] callee = refl
call_last (c ∷ []) callee = refl
call_last (c ∷ d ∷ cs) callee = refl

-- ---- loads and stores of one register

-- the constant of an access
abbrev constant_of : Option Access → Option VCodeConstant
constant_of o = elim o [ None ↦ None | Some access ↦ constant_in access.mem ]

use_lone : (mem : AMode) → is_none (mode_site mem) ≡ is_no_use mem
use_lone (modes.Label (PCRel offset)) = refl
use_lone (modes.Label (Mach label)) = refl
use_lone (modes.Label (Pool addr)) = refl
use_lone (modes.Const addr) = refl
use_lone _ = refl

-- a plan has steps
some_steps : (rd : Reg) (plan : List ConstStep) → IsShape plan → is_empty (step_forms rd plan) ≡ false
some_steps rd [] is = elim is [ ]
some_steps rd (step ∷ plan) is = refl

plan_steps : (rd : Reg) (value : ℕ) → is_empty (step_forms rd (plan_of value)) ≡ false
plan_steps rd value = some_steps rd (plan_of value) (plan_shape value)

-- there are steps before an access exactly where x16 is needed
steps_empty : (frame : FrameLayout) (ty : IrType) (mem : AMode) → is_empty (step_forms offset_register (final_steps frame ty mem)) ≡ not (needs_x16 frame ty mem)
steps_empty frame ty mem = go (base_offset_of frame mem)
  where
    far : (b : Bool) (value : ℕ) → is_empty (step_forms offset_register (if b then plan_of value else [])) ≡ not b
    far true value = plan_steps offset_register value
    far false value = refl

    go : (o : Option BaseOffset) → is_empty (step_forms offset_register (elim o [ None ↦ [] | Some place ↦ steps_to ty place.offset ])) ≡ not (elim o [ None ↦ false | Some place ↦ is_far ty place.offset ])
    go None = refl
    go (Some place) = far (is_far ty place.offset) (residue (2 ^ 64) place.offset)

and_swap : (a b : Bool) → (a && b) ≡ (b && a)
and_swap true true = refl
and_swap true false = refl
and_swap false true = refl
and_swap false false = refl

access_lone : (frame : FrameLayout) (access : Access) → is_lone_access frame access ≡ is_lone_cells (shape_cells (access_shape frame access))
access_lone frame access =
    sym (several_lone (access_steps frame access) (FormOf (access_form frame access)) (mode_site access.mem) access.flags
    ∙ ap₂ (λ a b. a && b) (steps_empty frame (access_type access.op) access.mem) (use_lone access.mem)
    ∙ and_swap (not (needs_x16 frame (access_type access.op) access.mem)) (is_no_use access.mem))

-- ---- addresses

other_same : (rd rn : Reg) → is_register Refused rd ≡ true → is_register_or_stack Refused rn ≡ true → is_other_register rd rn ≡ not (is_same_register rd rn)
other_same (Real p) (Real q) d b = refl
other_same (Real p) (Virtual index class) d b = absurd cc
other_same (Virtual index class) rn d b = absurd cc

and_true : (a : Bool) → (a && true) ≡ a
and_true true = refl
and_true false = refl

module _ (rd rn : Reg) (offset : ℤ) where
  abbrev move : Shape
  move = quiet [] (mov_form Size64 rd rn)

  abbrev near_sum : Shape
  near_sum = quiet [] (addend_form rd rn offset)

  abbrev far_sum : Shape
  far_sum = quiet (step_forms addend_register (plan_of (unsigned_abs offset))) (sum_form rd rn offset)

  chosen_lone : (nothing same other near : Bool) → other ≡ not same → (if nothing then other else near) ≡ is_lone_cells (shape_cells (if nothing then (if same then Words [] else move) else if near then near_sum else far_sum))
  chosen_lone true true other near e = e
  chosen_lone true false other near e = e
  chosen_lone false same other true e = refl
  chosen_lone false same other false e =
      sym (several_lone (step_forms addend_register (plan_of (unsigned_abs offset))) (FormOf (sum_form rd rn offset)) None None
      ∙ and_true (is_empty (step_forms addend_register (plan_of (unsigned_abs offset))))
      ∙ plan_steps addend_register (unsigned_abs offset))

  sum_lone : is_register Refused rd ≡ true → is_register_or_stack Refused rn ≡ true → is_lone_sum rd rn offset ≡ is_lone_cells (shape_cells (sum_shape rd rn offset))
  sum_lone numbered base = chosen_lone (int_eq offset (pos 0)) (is_same_register rd rn) (is_other_register rd rn) (is_addend (unsigned_abs offset)) (other_same rd rn numbered base)

mode_lone : (rd : Reg) (before : List Form) (steps : Bool) (mode : FinalMode) → is_register Refused rd ≡ true → is_empty before ≡ not steps → are_address_parts mode ≡ true → is_lone_address rd steps mode ≡ is_lone_cells (shape_cells (address_shape rd before mode))
mode_lone rd before steps (SignedOffset rn offset) numbered none parts = sum_lone rd rn offset numbered parts
mode_lone rd before steps (ScaledOffset rn offset ty) numbered none parts = sum_lone rd rn (pos offset) numbered parts
mode_lone rd before steps (Other (modes.RegExtended rn rm extendop)) numbered none parts =
    sym (several_lone before (FormOf (alu_rrr_extend_form Add Size64 rd rn rm extendop)) None None ∙ and_true (is_empty before) ∙ none)
mode_lone rd before steps (Other _) numbered none parts = refl

address_lone : (frame : FrameLayout) (rd : Reg) (mem : AMode) → are_address_operands frame Refused rd mem ≡ true → is_lone_address rd (needs_x16 frame I8 mem) (final_mode frame I8 mem) ≡ is_lone_cells (shape_cells (address_shape rd (step_forms offset_register (final_steps frame I8 mem)) (final_mode frame I8 mem)))
unfolding are_address_operands
address_lone frame rd mem good =
    let (numbered, rest) = and_parts (is_register Refused rd) _ good in
    let (operands, _) = and_parts (are_mode_operands frame Refused mem) _ rest in
    mode_lone rd (step_forms offset_register (final_steps frame I8 mem)) (needs_x16 frame I8 mem) (final_mode frame I8 mem) numbered (steps_empty frame I8 mem) (address_good frame mem operands)

-- ---- instructions

return_lone : (frame : FrameLayout) (flags : EmitFlags) (key : APIKey) (is_hint : Bool) → is_lone_return key is_hint ≡ is_lone_cells (shape_cells (other_shape frame flags (insts.AuthenticatedRet key is_hint)))
return_lone frame flags ASP false = refl
return_lone frame flags BSP false = refl
return_lone frame flags AZ is_hint = refl
return_lone frame flags ASP true = refl
return_lone frame flags BZ is_hint = refl
return_lone frame flags BSP true = refl

module _ (frame : FrameLayout) (flags : EmitFlags) where
  symbol_lone : (callee : Callee) (patchable : Bool) (defs : List CallRetPair) (pop : ℕ) → false ≡ is_lone_cells (if patchable then patchable_cells callee pop else call_cells frame callee defs pop)
  symbol_lone callee true defs pop = sym (call_first callee (Some (4 * (length (pop_forms pop) + 1))) (map plain (pop_forms pop)))
  symbol_lone callee false defs pop = sym (call_first callee None (map plain (pop_forms pop) ++ flat_map (result_cells frame) defs))

  -- the words of a return before its branch
  abbrev before_return : ℕ → Option APIKey → Bool → List Cell
  before_return size key all = map (restored_cell frame flags) frame.restore ++ map plain (leave_forms frame size key all)

  other_lone : (inst : Inst) → access_of inst ≡ None → has_other_operands frame flags Refused inst ≡ true → is_lone_other frame inst ≡ is_lone_cells (shape_cells (other_shape frame flags inst))
  other_lone (insts.LoadAddr rd mem) e good = address_lone frame rd mem good
  other_lone (insts.Jump (branch_targets.Label label)) e good = refl
  other_lone (insts.Jump (branch_targets.ResolvedOffset offset)) e good = refl
  other_lone (insts.AuthenticatedRet key is_hint) e good = return_lone frame flags key is_hint
  other_lone (insts.JTSequence default targets ridx rtmp1 rtmp2) e good =
      sym (many (table_jump flags default targets ridx rtmp1 rtmp2) (omega (arith, table_jump_length flags default targets ridx rtmp1 rtmp2, table_forms_length flags (length targets) ridx rtmp1 rtmp2)))
  other_lone (insts.AtomicRMWLoop ty op trap addr operand oldval scratch1 scratch2) e good =
      sym (many (loop_cells ty (operator_forms ty op) (stored_register op) trap) (omega (arith, loop_length ty (operator_forms ty op) (stored_register op) trap)))
  other_lone (insts.AtomicCASLoop ty trap addr expected replacement oldval scratch) e good =
      sym (many (loop_cells ty (awaited_forms ty) new_register trap) (omega (arith, loop_length ty (awaited_forms ty) new_register trap)))
  other_lone (insts.Call info) e good = symbol_lone (Symbol info.dest) info.patchable info.defs info.callee_pop_size
  other_lone (insts.CallInd info) e good = symbol_lone (Address info.dest) false info.defs info.callee_pop_size
  other_lone (insts.ReturnCall info) e good = sym (call_last (before_return info.new_stack_arg_size info.key info.sign_return_address_all) (Symbol info.dest))
  other_lone (insts.ReturnCallInd info) e good = sym (call_last (before_return info.new_stack_arg_size info.key info.sign_return_address_all) (Address info.dest))
  other_lone _ e good = cc

  inst_lone : (inst : Inst) → has_operands frame flags Refused inst ≡ true → is_lone frame inst ≡ is_lone_cells (inst_cells frame flags inst)
  inst_lone inst good = go (access_of inst) refl good
    where
      go : (o : Option Access) → access_of inst ≡ o → (elim o [ None ↦ has_other_operands frame flags Refused inst | Some access ↦ are_access_operands frame Refused access ]) ≡ true
          → (elim o [ None ↦ is_lone_other frame inst | Some access ↦ is_lone_access frame access ]) ≡ is_lone_cells (shape_cells (elim o [ None ↦ other_shape frame flags inst | Some access ↦ access_shape frame access ]))
      go None e f = other_lone inst e f
      go (Some access) e f = access_lone frame access

  -- ---- faults

  -- what is one word is no call, so that its operands are judged as those of others
  other_is : (inst : Inst) → is_lone_other frame inst ≡ true → has_other_operands frame flags Refused inst ≡ has_plain_operands frame flags Refused inst
  other_is insts.Nop0 e = refl
  other_is _ e = cc

  operands_are : (inst : Inst) (o : Option Access) → (elim o [ None ↦ is_lone_other frame inst | Some access ↦ is_lone_access frame access ]) ≡ true
      → (elim o [ None ↦ has_other_operands frame flags Refused inst | Some access ↦ are_access_operands frame Refused access ]) ≡ true
      → (elim o [ None ↦ has_plain_operands frame flags Refused inst | Some access ↦ are_access_operands frame Refused access ]) ≡ true
  operands_are inst None lone good = sym (other_is inst lone) ∙ good
  operands_are inst (Some access) lone good = good

  all_hold : (lone operands mode scratch : Bool) → lone ≡ true → operands ≡ true → mode ≡ true → scratch ≡ true → (lone && (operands && (mode && scratch))) ≡ true
  all_hold true true true true a b c d = refl
  all_hold _ _ _ _ a b c d = cc

  module _ (constants : FinMap nat_cmp (List ℕ)) (inst : Inst) where
    -- an instruction without a fault that is one word can be restored
    can_be : inst_fault frame flags constants Refused inst ≡ None → is_lone frame inst ≡ true → can_restore frame flags Refused inst ≡ true
    can_be none lone =
        all_hold (is_lone frame inst) _ (has_mode inst) (has_scratch frame inst) lone
        (operands_are inst (access_of inst) lone (operands_good frame flags constants Refused inst none))
        (mode_good frame flags constants inst none) (scratch_good frame flags constants inst none)

    -- and one that can be restored has none
    passes : (operands within mode scratch known : Bool) → operands ≡ true → within ≡ true → mode ≡ true → scratch ≡ true → known ≡ true
        → first_of ((operands && within, own.BadOperand) ∷ (mode, own.BadMode) ∷ (scratch, own.ScratchConflict) ∷ (known, own.UnknownConstant) ∷ []) ≡ None
    passes true true true true true a b c d e = refl
    passes _ _ _ _ _ a b c d e = absurd cc

    within : (size : Option ℕ) (o : Option Access) → constant_of o ≡ None → (elim o [ None ↦ true | Some access ↦ is_within size access ]) ≡ true
    within size None e = refl
    within size (Some access) e = rw (e, is_within) refl

    faultless : can_restore frame flags Refused inst ≡ true → inst_fault frame flags constants Refused inst ≡ None
    faultless e =
        let known = restored frame flags inst e in
        let (_, rest) = and_parts (is_lone frame inst) _ e in
        let (_, others) = and_parts _ (has_mode inst && has_scratch frame inst) rest in
        let size = constant_size constants inst in
        passes (has_operands frame flags Refused inst) (is_within_constant size inst) (has_mode inst) (has_scratch frame inst) (has_constant size inst)
        known.good (within size (access_of inst) known.named) known.mode (and_parts (has_mode inst) (has_scratch frame inst) others).1 (rw (known.named, has_constant) refl)

    exactly : (fault : Option OwnFault) (lone can : Bool)
        → inst_fault frame flags constants Refused inst ≡ fault → is_lone frame inst ≡ lone → can_restore frame flags Refused inst ≡ can
        → can ≡ (is_none fault && is_lone_cells (inst_cells frame flags inst))
    exactly (Some fault) lone true e f g = let none = faultless g in absurd cc
    exactly (Some fault) lone false e f g = refl
    exactly None lone can e f g = go lone can f g
      where
        cells : is_lone_cells (inst_cells frame flags inst) ≡ is_lone frame inst
        cells = sym (inst_lone inst (operands_good frame flags constants Refused inst e))

        go : (lone can : Bool) → is_lone frame inst ≡ lone → can_restore frame flags Refused inst ≡ can → can ≡ is_lone_cells (inst_cells frame flags inst)
        go lone true f g = sym (cells ∙ (and_parts (is_lone frame inst) _ g).0)
        go true false f g = let has = can_be e f in absurd cc
        go false false f g = sym (cells ∙ f)

    pub restored_exactly : can_restore frame flags Refused inst ≡ (is_none (inst_fault frame flags constants Refused inst) && is_lone_cells (inst_cells frame flags inst))
    restored_exactly = exactly (inst_fault frame flags constants Refused inst) (is_lone frame inst) (can_restore frame flags Refused inst) refl refl refl
