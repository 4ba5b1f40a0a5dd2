-- The uses of the words of loads, stores and addresses.
use Rattle.std.proofs.Common.{ℕ, ℤ, pos, ◌≡◌, ◌+◌, Bool, true, false, List, [], ◌∷◌, ◌++◌, length, map, Option, None, Some, refl, sym, ap, ◌∙◌, subst, arith, if◌then◌else◌}
use Rattle.std.specs.Prelude.{IfSome, IsSome}
use Rattle.std.specs.Ordering.{nat_cmp, int_eq}
use Rattle.std.specs.FinMap.{FinMap, get}
use Rattle.std.specs.Int.RustNames.{unsigned_abs}
use Rattle.std.specs.List.{cons_option}
use Rattle.std.proofs.lemmas.List.{append-nil}
use Rattle.a64_base.specs.declared.entity.TrapCode.{TrapCode}
use Rattle.a64_base.specs.declared.reg.Reg.{Reg}
use Rattle.a64_base.specs.declared.ir_type.IrType.TheVariants.{I8}
use Rattle.a64_base.specs.declared.size.OperandSize.TheVariants.{Size64}
use Rattle.a64_ops.specs.declared.operator.ALUOp.TheVariants.{Add}
use Rattle.a64_plan.specs.Plans.{plan_of}
use Rattle.a64_inst.specs.declared.emission.EmitFlags.{EmitFlags}
use Rattle.a64_inst.specs.declared.frame.FrameLayout.{FrameLayout}
use Rattle.a64_inst.specs.declared.access.Access.{Access}
use Rattle.a64_inst.specs.declared.inst.Inst.{Inst}
use Rattle.a64_inst.specs.declared.inst.Inst.TheVariants as insts
use Rattle.a64_inst.specs.declared.mode.AMode.{AMode}
use Rattle.a64_inst.specs.declared.mode.AMode.TheVariants as modes
use Rattle.a64_inst.specs.declared.mode.MemLabel.TheVariants.{PCRel, Mach, Pool}
use Rattle.a64_inst.specs.declared.group.Group.TheVariants.{Memory}
use Rattle.a64_inst.specs.Accesses.{access_of, access_type}
use Rattle.a64_inst.specs.FinalModes.{FinalMode, SignedOffset, ScaledOffset, Other, final_mode, final_steps}
use Rattle.a64_inst.specs.Groups.{group_of}
use Rattle.a64_inst.specs.Modes.{constant_in}
use Rattle.a64_inst.specs.MemoryOperands.{is_addend}
use Rattle.a64_operand.specs.Operands.{is_same_register}
use Rattle.a64_rows.specs.Forms.{Form}
use Rattle.a64_cells.specs.IntegerForms.{mov_form, alu_rrr_extend_form}
use Rattle.a64_cells.specs.MemoryForms.{step_forms, addend_form, addend_register, sum_form, offset_register, access_steps, access_form}
use Rattle.a64_cells.specs.declared.site.Site.{Site}
use Rattle.a64_cells.specs.Shapes.{Body, FormOf, Cell, Shape, OneWord, Several, Words, plain, quiet, several, sum_shape, address_shape}
use Rattle.a64_cells.specs.Cells.{literal_site, mode_site, memory_site, access_shape, other_shape, shape_of, shape_cells, inst_cells, sites_of, use_of, uses_of}
use Rattle.a64_cells.specs.Words.{AreSeveral, MayBePut, IsThere}

-- ---- the uses of several words

pub plain_sites : (forms : List Form) → sites_of (map plain forms) ≡ []
plain_sites [] = refl
plain_sites (f ∷ forms) = plain_sites forms

pub several_sites : (forms : List Form) (body : Body) (site : Option Site) (trap : Option TrapCode) → sites_of (several forms body site trap) ≡ cons_option site []
several_sites [] body site trap = refl
several_sites (f ∷ forms) body site trap = several_sites forms body site trap

-- only the last word is one
several_uses : (n : ℕ) (forms : List Form) (body : Body) (site : Option Site) (trap : Option TrapCode) → uses_of n (several forms body site trap) ≡ use_of (n + length forms) site
several_uses n [] body site trap = append-nil (use_of n site) ∙ ap (λ k. use_of k site) (omega arith)
several_uses n (f ∷ forms) body site trap = several_uses (n + 1) forms body site trap ∙ ap (λ k. use_of k site) (omega arith)

-- ---- words without uses

pub no_uses : (n : ℕ) (cells : List Cell) → sites_of cells ≡ [] → uses_of n cells ≡ []
no_uses n [] e = refl
no_uses n (c ∷ cs) e = go (no_uses (n + 1) cs) c.site e
  where
    go : (sites_of cs ≡ [] → uses_of (n + 1) cs ≡ []) → (o : Option Site) → cons_option o (sites_of cs) ≡ [] → use_of n o ++ uses_of (n + 1) cs ≡ []
    go rest None f = rest f
    go rest (Some site) f = absurd cc

-- shapes without uses
abbrev pub HasNoSites : Shape → Type 0
HasNoSites shape = sites_of (shape_cells shape) ≡ []

abbrev chosen : Bool → Bool → Bool → Shape → Shape → Shape → Shape
chosen nothing same near move near_sum far_sum = if nothing then (if same then Words [] else move) else if near then near_sum else far_sum

chosen_sites : (nothing same near : Bool) (move near_sum far_sum : Shape) → HasNoSites move → HasNoSites near_sum → HasNoSites far_sum → HasNoSites (chosen nothing same near move near_sum far_sum)
chosen_sites true true near move near_sum far_sum a b c = refl
chosen_sites true false near move near_sum far_sum a b c = a
chosen_sites false same true move near_sum far_sum a b c = b
chosen_sites false same false move near_sum far_sum a b c = c

quiet_sites : (forms : List Form) (form : Form) → HasNoSites (quiet forms form)
quiet_sites forms form = several_sites forms (FormOf form) None None

sum_sites : (rd rn : Reg) (offset : ℤ) → HasNoSites (sum_shape rd rn offset)
sum_sites rd rn offset =
    chosen_sites (int_eq offset (pos 0)) (is_same_register rd rn) (is_addend (unsigned_abs offset))
    (quiet [] (mov_form Size64 rd rn)) (quiet [] (addend_form rd rn offset)) (quiet (step_forms addend_register (plan_of (unsigned_abs offset))) (sum_form rd rn offset))
    refl refl (quiet_sites (step_forms addend_register (plan_of (unsigned_abs offset))) (sum_form rd rn offset))

pub address_sites : (rd : Reg) (before : List Form) (mode : FinalMode) → HasNoSites (address_shape rd before mode)
address_sites rd before (SignedOffset rn offset) = sum_sites rd rn offset
address_sites rd before (ScaledOffset rn offset ty) = sum_sites rd rn (pos offset)
address_sites rd before (Other (modes.RegExtended rn rm extendop)) = quiet_sites before (alu_rrr_extend_form Add Size64 rd rn rm extendop)
address_sites rd before (Other _) = refl

-- ---- the use of a load of a literal

-- a literal has no steps before it
literal_first : (frame : FrameLayout) (access : Access) (mem : AMode) → access.mem ≡ mem → use_of (length (access_steps frame access)) (mode_site mem) ≡ use_of 0 (mode_site mem)
literal_first frame access (modes.Label label) e = ap (λ m. use_of (length (step_forms offset_register (final_steps frame (access_type access.op) m))) (literal_site label)) e
literal_first frame access (modes.Const addr) e = ap (λ m. use_of (length (step_forms offset_register (final_steps frame (access_type access.op) m))) (literal_site (Pool addr))) e
literal_first frame access _ e = refl

module _ (frame : FrameLayout) (flags : EmitFlags) where
  other_sites : (inst : Inst) → group_of inst ≡ Memory → HasNoSites (other_shape frame flags inst)
  other_sites (insts.LoadAddr rd mem) e = address_sites rd (step_forms offset_register (final_steps frame I8 mem)) (final_mode frame I8 mem)
  other_sites (insts.Jump dest) e = absurd cc
  other_sites (insts.CondBr taken not_taken kind) e = absurd cc
  other_sites (insts.TestBitAndBranch kind taken not_taken rn bit) e = absurd cc
  other_sites (insts.TrapIf kind trap_code) e = absurd cc
  other_sites (insts.LabelAddress dst label) e = absurd cc
  other_sites (insts.JTSequence default targets ridx rtmp1 rtmp2) e = absurd cc
  other_sites (insts.AuthenticatedRet key is_hint) e = absurd cc
  other_sites (insts.AtomicRMWLoop ty op trap addr operand oldval scratch1 scratch2) e = absurd cc
  other_sites (insts.AtomicCASLoop ty trap addr expected replacement oldval scratch) e = absurd cc
  other_sites (insts.Call info) e = absurd cc
  other_sites (insts.CallInd info) e = absurd cc
  other_sites (insts.ReturnCall info) e = absurd cc
  other_sites (insts.ReturnCallInd info) e = absurd cc
  other_sites _ e = refl

  pub access_uses : (access : Access) → uses_of 0 (shape_cells (access_shape frame access)) ≡ use_of 0 (mode_site access.mem)
  access_uses access =
      several_uses 0 (access_steps frame access) (FormOf (access_form frame access)) (mode_site access.mem) access.flags
      ∙ ap (λ n. use_of n (mode_site access.mem)) (omega arith)
      ∙ literal_first frame access access.mem refl

  -- loads and stores are one use at most, of their first word
  pub memory_uses : (inst : Inst) → group_of inst ≡ Memory → uses_of 0 (inst_cells frame flags inst) ≡ use_of 0 (memory_site inst)
  memory_uses inst g = go (access_of inst) refl
    where
      go : (o : Option Access) → access_of inst ≡ o → uses_of 0 (inst_cells frame flags inst) ≡ use_of 0 (memory_site inst)
      go None e =
          subst (λ o. uses_of 0 (shape_cells (elim o [ None ↦ other_shape frame flags inst | Some access ↦ access_shape frame access ])) ≡ use_of 0 (elim o [ None ↦ None | Some access ↦ mode_site access.mem ])) (sym e)
          (no_uses 0 (shape_cells (other_shape frame flags inst)) (other_sites inst g))
      go (Some access) e =
          subst (λ o. uses_of 0 (shape_cells (elim o [ None ↦ other_shape frame flags inst | Some a ↦ access_shape frame a ])) ≡ use_of 0 (elim o [ None ↦ None | Some a ↦ mode_site a.mem ])) (sym e)
          (access_uses access)

  -- ---- the uses are of labels, and of constants that are there

  module _ (constants : FinMap nat_cmp (List ℕ)) where
    abbrev pub IsPuttable : Shape → Type 0
    IsPuttable (OneWord form) = Unit {0}
    IsPuttable (Several forms body site trap) = IfSome site (MayBePut constants)
    IsPuttable (Words cells) = Unit {0}

    mode_puttable : (mem : AMode) → IfSome (constant_in mem) (λ addr. IsSome (get constants addr.0)) → IfSome (mode_site mem) (MayBePut constants)
    mode_puttable (modes.Label (PCRel offset)) there = tt
    mode_puttable (modes.Label (Mach label)) there = tt
    mode_puttable (modes.Label (Pool addr)) there = (refl, there)
    mode_puttable (modes.Const addr) there = (refl, there)
    mode_puttable _ there = tt

    chosen_puttable : (nothing same near : Bool) (move near_sum far_sum : Shape) → IsPuttable move → IsPuttable near_sum → IsPuttable far_sum → IsPuttable (chosen nothing same near move near_sum far_sum)
    chosen_puttable true true near move near_sum far_sum a b c = tt
    chosen_puttable true false near move near_sum far_sum a b c = a
    chosen_puttable false same true move near_sum far_sum a b c = b
    chosen_puttable false same false move near_sum far_sum a b c = c

    sum_puttable : (rd rn : Reg) (offset : ℤ) → IsPuttable (sum_shape rd rn offset)
    sum_puttable rd rn offset =
        chosen_puttable (int_eq offset (pos 0)) (is_same_register rd rn) (is_addend (unsigned_abs offset))
        (quiet [] (mov_form Size64 rd rn)) (quiet [] (addend_form rd rn offset)) (quiet (step_forms addend_register (plan_of (unsigned_abs offset))) (sum_form rd rn offset))
        tt tt tt

    address_puttable : (rd : Reg) (before : List Form) (mode : FinalMode) → IsPuttable (address_shape rd before mode)
    address_puttable rd before (SignedOffset rn offset) = sum_puttable rd rn offset
    address_puttable rd before (ScaledOffset rn offset ty) = sum_puttable rd rn (pos offset)
    address_puttable rd before (Other (modes.RegExtended rn rm extendop)) = tt
    address_puttable rd before (Other _) = tt

    other_puttable : (inst : Inst) → IsPuttable (other_shape frame flags inst)
    other_puttable (insts.LoadAddr rd mem) = address_puttable rd (step_forms offset_register (final_steps frame I8 mem)) (final_mode frame I8 mem)
    other_puttable _ = tt

    inst_puttable : (inst : Inst) → IsThere constants inst → IsPuttable (shape_of frame flags inst)
    inst_puttable inst there = go (access_of inst) refl there
      where
        go : (o : Option Access) → access_of inst ≡ o → IfSome (elim o [ None ↦ None | Some access ↦ constant_in access.mem ]) (λ addr. IsSome (get constants addr.0)) → IsPuttable (shape_of frame flags inst)
        go None e there = subst (λ o. IsPuttable (elim o [ None ↦ other_shape frame flags inst | Some access ↦ access_shape frame access ])) (sym e) (other_puttable inst)
        go (Some access) e there = subst (λ o. IsPuttable (elim o [ None ↦ other_shape frame flags inst | Some a ↦ access_shape frame a ])) (sym e) (mode_puttable access.mem there)

    words_puttable : (first : List ℕ) (last : ℕ) (site : Option Site) (trap : Option TrapCode) (shape : Shape) → AreSeveral first last site trap shape → IsPuttable shape → IfSome site (MayBePut constants)
    words_puttable first last site trap (Several forms body own code) are h = subst (λ o. IfSome o (MayBePut constants)) (sym are.2) h
    words_puttable first last site trap (OneWord form) are h = elim are [ ]
    words_puttable first last site trap (Words cells) are h = elim are [ ]

    -- the use of an instruction's words, where these are several
    pub several_puttable : (inst : Inst) (first : List ℕ) (last : ℕ) (site : Option Site) (trap : Option TrapCode) → IsThere constants inst → AreSeveral first last site trap (shape_of frame flags inst) → IfSome site (MayBePut constants)
    several_puttable inst first last site trap there are = words_puttable first last site trap (shape_of frame flags inst) are (inst_puttable inst there)
