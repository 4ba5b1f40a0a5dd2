-- Emission of an instruction, by what is put for its words.
use Rattle.std.proofs.Common.{ℕ, ℤ, pos, ◌≡◌, ◌≢◌, OnOk, OnErr, Result, Bool, true, false, if◌then◌else◌, List, [], ◌∷◌, map, Option, None, Some, refl, sym, ap, ◌∙◌, subst}
use Rattle.std.specs.Ordering.{int_eq}
use Rattle.std.specs.Int.RustNames.{unsigned_abs}
use Rattle.std.proofs.lemmas.Result.{on_ok_weaker, on_err_weaker}
use Rattle.a64_base.specs.declared.entity.UserStackMap.{UserStackMap}
use Rattle.a64_base.specs.declared.reg.Reg.{Reg}
use Rattle.a64_base.specs.declared.ir_type.IrType.TheVariants.{I8}
use Rattle.a64_base.specs.declared.size.OperandSize.TheVariants.{Size64}
use Rattle.a64_plan.specs.Plans.{plan_of}
use Rattle.a64_inst.specs.declared.emission.EmitFlags.{EmitFlags}
use Rattle.a64_inst.specs.declared.frame.FrameLayout.{FrameLayout}
use Rattle.a64_inst.specs.declared.group.Group.TheVariants.{Call, Control, Memory, Sequence}
use Rattle.a64_inst.specs.declared.inst.Inst.{Inst}
use Rattle.a64_inst.specs.declared.inst.Inst.TheVariants as insts
use Rattle.a64_inst.specs.declared.mode.AMode.TheVariants as modes
use Rattle.a64_inst.specs.FinalModes.{FinalMode, SignedOffset, ScaledOffset, Other, final_mode, final_steps}
use Rattle.a64_inst.specs.Groups.{group_of}
use Rattle.a64_inst.specs.MemoryOperands.{is_addend}
use Rattle.a64_operand.specs.Operands.{is_same_register}
use Rattle.a64_rows.specs.Forms.{Form}
use Rattle.a64_buffer.specs.Buffer.{Buffer}
use Rattle.a64_label_use.specs.declared.label_use.LabelUse.{LabelUse}
use Rattle.a64_cells.specs.IntegerForms.{mov_form}
use Rattle.a64_cells.specs.MemoryForms.{step_forms, addend_form, addend_register, sum_form, offset_register}
use Rattle.a64_emit.specs.Bounds.{asked_of}
use Rattle.a64_cells.specs.Shapes.{Cell, Shape, Words, quiet, sum_shape, address_shape}
use Rattle.a64_cells.specs.Cells.{shape_of, only_word, inst_cells, kept_by, kept_cells}
use Rattle.a64_emit.specs.Emission.{appended, CanPut, PutsCells, IsAppendedInPart, IsReady, Puts}
use Rattle.a64_cells.specs.Words.{as_put, put_cell, put_for}
use Rattle.a64_emit.proofs.AsPut.{word_put, other_put, put_appended, put_part, can_as_put}
use Rattle.a64_emit.proofs.Asked.{plain_asked}
use Rattle.a64_emit.proofs.Keeping.{keep_can}
use Rattle.a64_emit.proofs.KeptWords.{other_kept}

-- ---- what the group of an instruction says

-- only places for islands ask for space
no_space : (inst : Inst) → group_of inst ≢ Control → asked_of inst ≡ None
no_space (insts.EmitIsland needed_space) other = absurd (other refl)
no_space _ other = refl

-- an address of a base and an offset is not one word without a use, whichever words it has
no_chosen_word : (nothing same near : Bool) (move near_sum far_sum : Shape) → None ≡ only_word move → None ≡ only_word near_sum → None ≡ only_word far_sum
    → None ≡ only_word (if nothing then (if same then Words [] else move) else if near then near_sum else far_sum)
no_chosen_word true true near move near_sum far_sum a b c = refl
no_chosen_word true false near move near_sum far_sum a b c = a
no_chosen_word false same true move near_sum far_sum a b c = b
no_chosen_word false same false move near_sum far_sum a b c = c

no_sum_word : (rd rn : Reg) (offset : ℤ) → None ≡ only_word (sum_shape rd rn offset)
no_sum_word rd rn offset =
    no_chosen_word (int_eq offset (pos 0)) (is_same_register rd rn) (is_addend (unsigned_abs offset))
    (quiet [] (mov_form Size64 rd rn)) (quiet [] (addend_form rd rn offset)) (quiet (step_forms addend_register (plan_of (unsigned_abs offset))) (sum_form rd rn offset))
    refl refl refl

no_address_word : (rd : Reg) (before : List Form) (mode : FinalMode) → None ≡ only_word (address_shape rd before mode)
no_address_word rd before (SignedOffset rn offset) = no_sum_word rd rn offset
no_address_word rd before (ScaledOffset rn offset ty) = no_sum_word rd rn (pos offset)
no_address_word rd before (Other (modes.RegExtended rn rm extendop)) = refl
no_address_word rd before (Other _) = refl

module _ (frame : FrameLayout) (flags : EmitFlags) where
  -- nor are loads, stores and other addresses, and sequences
  memory_word : (inst : Inst) → group_of inst ≡ Memory → None ≡ only_word (shape_of frame flags inst)
  memory_word (insts.LoadAddr rd mem) group = no_address_word rd (step_forms offset_register (final_steps frame I8 mem)) (final_mode frame I8 mem)
  memory_word _ group = cc

  sequence_word : (inst : Inst) → group_of inst ≡ Sequence → None ≡ only_word (shape_of frame flags inst)
  sequence_word insts.Nop0 group = cc
  sequence_word _ group = cc

-- ---- what is put for an instruction

-- the cells that are put in place of an instruction's own, where it asks for no space
pub record ArePut (inst : Inst) (own cells : List Cell) : Type 0 where
  pub asked : asked_of inst ≡ None
  pub same : cells ≡ map as_put own

module _ (inst : Inst) (own cells : List Cell) (are : ArePut inst own cells) (b : Buffer LabelUse) where
  pub can_these : CanPut b (map as_put own) → CanPut b cells
  can_these can = subst (CanPut b) (sym are.same) can

  -- with them the instruction is emitted, and with a part of them in part
  module _ {T E : Type 0} (r : Result T E) (b' : Buffer LabelUse) (puts : PutsCells r b b' cells) where
    pub all_emitted : OnOk r (Puts (asked_of inst) (map as_put own) b b')
    all_emitted = on_ok_weaker r (λ e. subst (λ (space : Option ℕ). Puts space (map as_put own) b b') (sym are.asked) (e ∙ ap (appended b) are.same)) puts.ok

    pub part_emitted : OnErr r (IsAppendedInPart b b' (map as_put own))
    part_emitted = on_err_weaker r (subst (IsAppendedInPart b b') are.same) puts.err

module _ (frame : FrameLayout) (flags : EmitFlags) (inst : Inst) where
  -- one word without a use
  pub one_put : (word : ℕ) → Some word ≡ only_word (shape_of frame flags inst) → ArePut inst (inst_cells frame flags inst) (put_cell word None None ∷ [])
  one_put word is = record { asked = plain_asked frame flags inst word is; same = word_put (shape_of frame flags inst) word is }

  -- a branch, an address or data
  pub control_put : None ≡ only_word (shape_of frame flags inst) → None ≡ asked_of inst → ArePut inst (inst_cells frame flags inst) (put_for frame flags inst)
  control_put none asked = record { asked = sym asked; same = other_put (shape_of frame flags inst) none }

  pub memory_put : group_of inst ≡ Memory → ArePut inst (inst_cells frame flags inst) (put_for frame flags inst)
  memory_put group = control_put (memory_word frame flags inst group) (sym (no_space inst (λ e. absurd cc)))

  pub sequence_put : group_of inst ≡ Sequence → ArePut inst (inst_cells frame flags inst) (put_for frame flags inst)
  sequence_put group = control_put (sequence_word frame flags inst group) (sym (no_space inst (λ e. absurd cc)))

-- ---- an instruction's own words, by those that are put

module _ (b : Buffer LabelUse) (own : List Cell) (b' : Buffer LabelUse) where
  pub own_put : (space : Option ℕ) → Puts space (map as_put own) b b' → Puts space own b b'
  own_put None e = e ∙ put_appended b own
  own_put (Some space) h = h

module _ (frame : FrameLayout) (flags : EmitFlags) (inst : Inst) (kept : Option UserStackMap) (b : Buffer LabelUse) where
  pub can_own : IsReady b frame flags inst → CanPut b (map as_put (inst_cells frame flags inst))
  can_own ready = can_as_put b (inst_cells frame flags inst) (record { room = ready.room; fits = ready.fits })

  -- those of a call, with the map of the stack
  pub can_kept : IsReady b frame flags inst → CanPut b (map as_put (kept_cells frame flags inst kept))
  can_kept ready =
      can_as_put b (kept_cells frame flags inst kept)
      (keep_can b (kept_by inst kept) (inst_cells frame flags inst) (record { room = ready.room; fits = ready.fits }))

  module _ (b' : Buffer LabelUse) where
    pub call_emitted : group_of inst ≡ Call → b' ≡ appended b (map as_put (kept_cells frame flags inst kept)) → Puts (asked_of inst) (kept_cells frame flags inst kept) b b'
    call_emitted group e =
        subst (λ (space : Option ℕ). Puts space (kept_cells frame flags inst kept) b b') (sym (no_space inst (λ e. absurd cc)))
        (own_put b (kept_cells frame flags inst kept) b' None e)

    -- no map is kept but at a call
    pub other_emitted : group_of inst ≢ Call → Puts (asked_of inst) (map as_put (inst_cells frame flags inst)) b b' → Puts (asked_of inst) (kept_cells frame flags inst kept) b b'
    other_emitted other h =
        subst (λ cells. Puts (asked_of inst) cells b b') (sym (other_kept frame flags inst kept other))
        (own_put b (inst_cells frame flags inst) b' (asked_of inst) h)

    pub other_in_part : group_of inst ≢ Call → IsAppendedInPart b b' (map as_put (inst_cells frame flags inst)) → IsAppendedInPart b b' (kept_cells frame flags inst kept)
    other_in_part other p = subst (IsAppendedInPart b b') (sym (other_kept frame flags inst kept other)) (put_part b (inst_cells frame flags inst) b' p)
