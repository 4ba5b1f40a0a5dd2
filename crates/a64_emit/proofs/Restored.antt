-- Instructions that a frame restores: each is one word, which is no use.
use Rattle.std.proofs.Common.{ℕ, ℤ, pos, ◌≡◌, ◌≢◌, ◌<◌, Bool, true, false, List, [], ◌∷◌, length, get_or, map, Option, None, Some, refl, ap, sym, subst, ◌∙◌, nat_cmp}
use Rattle.std.specs.Ordering.{int_eq}
use Rattle.std.specs.Int.RustNames.{unsigned_abs}
use Rattle.std.specs.Prelude.{not, ◌&&◌, nat_eq, if◌then◌else◌, IfSome, IsSome}
use Rattle.std.specs.FinMap.{FinMap, get}
use Rattle.std.specs.List.{list_all}
use Rattle.std.proofs.lemmas.List.Sums.{AllPass-from_list_all}
use Rattle.std.proofs.lemmas.Bool.{and_parts}
use Rattle.a64_base.specs.declared.entity.TrapCode.{TrapCode}
use Rattle.a64_base.specs.declared.entity.VCodeConstant.{VCodeConstant}
use Rattle.a64_base.specs.declared.ir_type.IrType.{IrType}
use Rattle.a64_base.specs.declared.ir_type.IrType.TheVariants.{I8}
use Rattle.a64_base.specs.declared.key.APIKey.{APIKey}
use Rattle.a64_base.specs.declared.key.APIKey.TheVariants.{AZ, ASP, BZ, BSP}
use Rattle.a64_base.specs.declared.reg.Reg.{Reg}
use Rattle.a64_base.specs.declared.reg.RegKind.TheVariants.{Real, Virtual}
use Rattle.a64_base.specs.declared.size.OperandSize.TheVariants.{Size64}
use Rattle.a64_base.specs.declared.target.BranchTarget.TheVariants as branch_targets
use Rattle.a64_inst.specs.declared.access.Access.{Access}
use Rattle.a64_inst.specs.declared.emission.EmitFlags.{EmitFlags}
use Rattle.a64_inst.specs.declared.frame.FrameLayout.{FrameLayout}
use Rattle.a64_inst.specs.declared.group.Group.TheVariants.{Call}
use Rattle.a64_inst.specs.declared.inst.Inst.{Inst}
use Rattle.a64_inst.specs.declared.inst.Inst.TheVariants as insts
use Rattle.a64_inst.specs.declared.mode.AMode.{AMode}
use Rattle.a64_inst.specs.declared.mode.AMode.TheVariants as modes
use Rattle.a64_inst.specs.declared.mode.MemLabel.TheVariants.{PCRel, Mach, Pool}
use Rattle.a64_operand.specs.declared.virtuals.VirtualRegisters.TheVariants.{Refused}
use Rattle.a64_inst.specs.Accesses.{access_of, access_type}
use Rattle.a64_inst.specs.Faults.{named_constant, has_mode, has_plain_operands, has_other_operands, has_operands, can_restore}
use Rattle.a64_inst.specs.FinalModes.{FinalMode, SignedOffset, ScaledOffset, Other, final_mode, final_steps, needs_x16}
use Rattle.a64_inst.specs.Groups.{group_of}
use Rattle.a64_inst.specs.Lone.{is_no_use, is_lone_access, is_lone_sum, is_lone_address, is_lone_other, is_lone_return, is_lone}
use Rattle.a64_inst.specs.MemoryOperands.{is_addend, are_access_operands, are_mode_operands, are_address_operands}
use Rattle.a64_inst.specs.Modes.{BaseOffset, base_offset_of, is_far, steps_to, constant_in}
use Rattle.a64_operand.specs.Operands.{is_register, is_register_or_stack, is_same_class, is_same_register, is_other_register}
use Rattle.a64_ops.specs.declared.operator.ALUOp.TheVariants.{Add}
use Rattle.a64_plan.specs.Plans.{plan_of}
use Rattle.a64_plan.specs.declared.step.ConstStep.{ConstStep}
use Rattle.a64_rows.specs.Forms.{Form}
use Rattle.a64_cells.specs.declared.site.Site.{Site}
use Rattle.a64_emit.specs.Bounds.{asked_of}
use Rattle.a64_cells.specs.Shapes.{Body, FormOf, Shape, Words, plain, quiet, several, sum_shape, address_shape}
use Rattle.a64_cells.specs.PlainShapes.{plain_shape}
use Rattle.a64_cells.specs.Cells.{mode_site, access_shape, other_shape, shape_cells, inst_cells, lone_cell, restored_cell}
use Rattle.a64_cells.specs.ControlForms.{authenticated_ret_forms}
use Rattle.a64_cells.specs.IntegerForms.{mov_form, alu_rrr_extend_form}
use Rattle.a64_cells.specs.MemoryForms.{step_forms, offset_register, addend_register, addend_form, sum_form, access_steps, access_form}
use Rattle.a64_cells.specs.Words.{IsThere}
use Rattle.a64_cells.proofs.Accesses.{are_address_parts, address_good}
use Rattle.a64_emit.proofs.Asked.{worded_asked}

-- a shape of one word, which is no use
abbrev pub IsLoneShape : Shape → Type 0
IsLoneShape shape = shape_cells shape ≡ lone_cell (shape_cells shape) ∷ []

lone_several : (forms : List Form) (body : Body) (site : Option Site) (trap : Option TrapCode) → forms ≡ [] → site ≡ None → several forms body site trap ≡ lone_cell (several forms body site trap) ∷ []
lone_several [] body None trap e f = refl
lone_several [] body (Some site) trap e f = absurd cc
lone_several (form ∷ forms) body site trap e f = absurd cc

-- ---- loads and stores of one register

-- a mode that is no use is none of a label or a constant
lone_site : (mem : AMode) → is_no_use mem ≡ true → mode_site mem ≡ None
lone_site (modes.Label (PCRel offset)) e = refl
lone_site (modes.Label (Mach label)) e = absurd cc
lone_site (modes.Label (Pool addr)) e = absurd cc
lone_site (modes.Const addr) e = absurd cc
lone_site _ e = refl

lone_constant : (mem : AMode) → is_no_use mem ≡ true → constant_in mem ≡ None
lone_constant (modes.Label (PCRel offset)) e = refl
lone_constant (modes.Label (Mach label)) e = refl
lone_constant (modes.Label (Pool addr)) e = absurd cc
lone_constant (modes.Const addr) e = absurd cc
lone_constant _ e = refl

-- the steps of a mode with this base and offset
abbrev placed_of : IrType → Option BaseOffset → List ConstStep
placed_of ty o = elim o [ None ↦ [] | Some place ↦ steps_to ty place.offset ]

abbrev chosen_steps : Bool → List ConstStep → List ConstStep
chosen_steps far plan = if far then plan else []

-- without x16 there are no steps
no_steps : (frame : FrameLayout) (ty : IrType) (mem : AMode) → not (needs_x16 frame ty mem) ≡ true → final_steps frame ty mem ≡ []
no_steps frame ty mem e = go (base_offset_of frame mem) e
  where
    near : (far : Bool) (plan : List ConstStep) → not far ≡ true → chosen_steps far plan ≡ []
    near false plan f = refl
    near true plan f = absurd cc

    go : (o : Option BaseOffset) → not (elim o [ None ↦ false | Some place ↦ is_far ty place.offset ]) ≡ true → placed_of ty o ≡ []
    go None f = refl
    go (Some place) f = near (is_far ty place.offset) _ f

lone_access : (frame : FrameLayout) (access : Access) → is_lone_access frame access ≡ true → IsLoneShape (access_shape frame access)
lone_access frame access e =
    let (no_use, near) = and_parts (is_no_use access.mem) (not (needs_x16 frame (access_type access.op) access.mem)) e in
    lone_several (access_steps frame access) (FormOf (access_form frame access)) (mode_site access.mem) access.flags
    (ap (step_forms offset_register) (no_steps frame (access_type access.op) access.mem near)) (lone_site access.mem no_use)

-- ---- addresses

other_same : (rd rn : Reg) → is_register Refused rd ≡ true → is_register_or_stack Refused rn ≡ true → is_other_register rd rn ≡ true → is_same_register rd rn ≡ false
other_same (Real p) (Real q) d b e = differs (is_same_class p.class q.class && nat_eq p.number q.number) e
  where
    differs : (same : Bool) → not same ≡ true → same ≡ false
    differs false f = refl
    differs true f = absurd cc
other_same (Real p) (Virtual index class) d b e = absurd cc
other_same (Virtual index class) rn d b e = absurd cc

chosen_lone : (nothing same other near : Bool) (move near_sum far_sum : Shape) → (other ≡ true → same ≡ false) → (if nothing then other else near) ≡ true → IsLoneShape move → IsLoneShape near_sum
    → IsLoneShape (if nothing then (if same then Words [] else move) else if near then near_sum else far_sum)
chosen_lone true true other near move near_sum far_sum differ e a b = let f = differ e in absurd cc
chosen_lone true false other near move near_sum far_sum differ e a b = a
chosen_lone false same other true move near_sum far_sum differ e a b = b
chosen_lone false same other false move near_sum far_sum differ e a b = absurd cc

module _ (rd : Reg) (numbered : is_register Refused rd ≡ true) where
  lone_sum : (rn : Reg) (offset : ℤ) → is_register_or_stack Refused rn ≡ true → is_lone_sum rd rn offset ≡ true → IsLoneShape (sum_shape rd rn offset)
  lone_sum rn offset base e =
      chosen_lone (int_eq offset (pos 0)) (is_same_register rd rn) (is_other_register rd rn) (is_addend (unsigned_abs offset))
      (quiet [] (mov_form Size64 rd rn)) (quiet [] (addend_form rd rn offset)) (quiet (step_forms addend_register (plan_of (unsigned_abs offset))) (sum_form rd rn offset))
      (other_same rd rn numbered base) e refl refl

  lone_address : (before : List Form) (steps : Bool) (mode : FinalMode) → (not steps ≡ true → before ≡ []) → are_address_parts mode ≡ true → is_lone_address rd steps mode ≡ true → IsLoneShape (address_shape rd before mode)
  lone_address before steps (SignedOffset rn offset) none parts e = lone_sum rn offset parts e
  lone_address before steps (ScaledOffset rn offset ty) none parts e = lone_sum rn (pos offset) parts e
  lone_address before steps (Other (modes.RegExtended rn rm extendop)) none parts e = lone_several before (FormOf (alu_rrr_extend_form Add Size64 rd rn rm extendop)) None None (none e) refl
  lone_address before steps (Other _) none parts e = absurd cc

-- ---- returns that authenticate their address

return_lone : (key : APIKey) (is_hint : Bool) → is_lone_return key is_hint ≡ true → IsLoneShape (Words (map plain (authenticated_ret_forms key is_hint)))
return_lone ASP false e = refl
return_lone BSP false e = refl
return_lone AZ is_hint e = absurd cc
return_lone ASP true e = absurd cc
return_lone BZ is_hint e = absurd cc
return_lone BSP true e = absurd cc

-- ---- instructions

-- what is known of an instruction that a frame restores
pub record IsRestored (frame : FrameLayout) (flags : EmitFlags) (inst : Inst) : Type 0 where
  pub word : inst_cells frame flags inst ≡ restored_cell frame flags inst ∷ []
  pub other : group_of inst ≢ Call
  pub asked : asked_of inst ≡ None
  pub good : has_operands frame flags Refused inst ≡ true
  pub mode : has_mode inst ≡ true
  pub named : named_constant inst ≡ None

module _ (frame : FrameLayout) (flags : EmitFlags) where
  address_lone : (rd : Reg) (mem : AMode) → are_address_operands frame Refused rd mem ≡ true → is_lone_address rd (needs_x16 frame I8 mem) (final_mode frame I8 mem) ≡ true
      → IsLoneShape (address_shape rd (step_forms offset_register (final_steps frame I8 mem)) (final_mode frame I8 mem))
  unfolding are_address_operands
  address_lone rd mem good e =
      let (numbered, rest) = and_parts (is_register Refused rd) _ good in
      let (operands, _) = and_parts (are_mode_operands frame Refused mem) _ rest in
      lone_address rd numbered (step_forms offset_register (final_steps frame I8 mem)) (needs_x16 frame I8 mem) (final_mode frame I8 mem)
      (λ near. ap (step_forms offset_register) (no_steps frame I8 mem near)) (address_good frame mem operands) e

  plain_lone : (inst : Inst) → has_plain_operands frame flags Refused inst ≡ true → is_lone_other frame inst ≡ true → IsLoneShape (plain_shape frame flags inst)
  plain_lone (insts.LoadAddr rd mem) good e = address_lone rd mem good e
  plain_lone (insts.Jump (branch_targets.Label label)) good e = absurd cc
  plain_lone (insts.Jump (branch_targets.ResolvedOffset offset)) good e = refl
  plain_lone (insts.AuthenticatedRet key is_hint) good e = return_lone key is_hint e
  plain_lone _ good e = cc

  -- what is said of an instruction that is no call is said of any
  plain_operands : (inst : Inst) → is_lone_other frame inst ≡ true → has_plain_operands frame flags Refused inst ≡ true → has_other_operands frame flags Refused inst ≡ true
  plain_operands insts.Nop0 e good = good
  plain_operands _ e good = cc

  plain_is : (inst : Inst) → is_lone_other frame inst ≡ true → other_shape frame flags inst ≡ plain_shape frame flags inst
  plain_is insts.Nop0 e = refl
  plain_is _ e = cc

  no_call : (inst : Inst) → is_lone frame inst ≡ true → group_of inst ≢ Call
  no_call insts.Nop0 e g = absurd cc
  no_call _ e g = absurd cc

  -- the constant of an access
  abbrev constant_of : Option Access → Option VCodeConstant
  constant_of o = elim o [ None ↦ None | Some access ↦ constant_in access.mem ]

  -- by whether it is a load or a store of one register
  lone_parts : (inst : Inst) (o : Option Access)
      → (elim o [ None ↦ is_lone_other frame inst | Some access ↦ is_lone_access frame access ]) ≡ true
      → (elim o [ None ↦ has_plain_operands frame flags Refused inst | Some access ↦ are_access_operands frame Refused access ]) ≡ true
      → (shape_cells (elim o [ None ↦ other_shape frame flags inst | Some access ↦ access_shape frame access ]) ≡ lone_cell (shape_cells (elim o [ None ↦ plain_shape frame flags inst | Some access ↦ access_shape frame access ])) ∷ [])
      × ((elim o [ None ↦ has_other_operands frame flags Refused inst | Some access ↦ are_access_operands frame Refused access ]) ≡ true)
      × (constant_of o ≡ None)
  lone_parts inst None e good = (ap shape_cells (plain_is inst e) ∙ plain_lone inst good e, plain_operands inst e good, refl)
  lone_parts inst (Some access) e good = (lone_access frame access e, good, lone_constant access.mem (and_parts (is_no_use access.mem) _ e).0)

  pub restored : (inst : Inst) → can_restore frame flags Refused inst ≡ true → IsRestored frame flags inst
  restored inst e =
      let (lone, rest) = and_parts (is_lone frame inst) _ e in
      let (operands, modes) = and_parts (elim (access_of inst) [ None ↦ has_plain_operands frame flags Refused inst | Some access ↦ are_access_operands frame Refused access ]) _ rest in
      let (word, good, named) = lone_parts inst (access_of inst) lone operands in
      record { word = word; other = no_call inst lone; asked = worded_asked frame flags inst (restored_cell frame flags inst) word; good = good; mode = (and_parts (has_mode inst) _ modes).0; named = named }

  pub restored_word : (inst : Inst) → can_restore frame flags Refused inst ≡ true → inst_cells frame flags inst ≡ restored_cell frame flags inst ∷ []
  restored_word inst e = (restored inst e).word

-- and it loads no constant
pub restored_there : (frame : FrameLayout) (flags : EmitFlags) (inst : Inst) → IsRestored frame flags inst → (constants : FinMap nat_cmp (List ℕ)) → IsThere constants inst
restored_there frame flags inst known constants = subst (λ o. IfSome o (λ addr. IsSome (get constants addr.0))) (sym known.named) tt

-- each of a list can be restored
pub restored_each : (frame : FrameLayout) (flags : EmitFlags) (insts : List Inst) (i : ℕ) (d : Inst) → list_all (can_restore frame flags Refused) insts ≡ true → i < length insts → can_restore frame flags Refused (get_or insts i d) ≡ true
restored_each frame flags insts i d good h = AllPass-from_list_all (can_restore frame flags Refused) insts good i d h
