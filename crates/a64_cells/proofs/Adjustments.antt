-- Which words move the stack pointer by an amount, and how many.
use Rattle.std.proofs.Common.{ℕ, ℤ, pos, negsuc, zero, suc, ◌-ℤ◌, ◌≡◌, ◌+◌, ◌-◌, ◌≤◌, inl, inr, Bool, true, false, List, [], ◌∷◌, ◌++◌, length, map, Option, refl, sym, ap, ap₂, ◌∙◌, subst, arith}
use Rattle.std.specs.Prelude.{if◌then◌else◌}
use Rattle.std.specs.List.{flat_map}
use Rattle.std.specs.Int.RustNames.{unsigned_abs}
use Rattle.std.specs.Ordering.{int_eq}
use Rattle.std.proofs.lemmas.Bool.{cases_lt}
use Rattle.std.proofs.lemmas.Int.{ints}
use Rattle.std.proofs.lemmas.List.{append_assoc, length-append, length-map, map-append}
use Rattle.a64_base.specs.declared.entity.ExternalName.{ExternalName}
use Rattle.a64_base.specs.declared.key.APIKey.{APIKey}
use Rattle.a64_base.specs.declared.shift.ExtendOp.TheVariants.{UXTX}
use Rattle.a64_base.specs.declared.size.OperandSize.TheVariants.{Size64}
use Rattle.a64_base.specs.Registers.{integer_register}
use Rattle.a64_ops.specs.declared.operator.ALUOp.{ALUOp}
use Rattle.a64_plan.specs.declared.step.ConstStep.{ConstStep}
use Rattle.a64_plan.specs.Plans.{plan_of}
use Rattle.a64_inst.specs.declared.call.CallInfo.{CallInfo}
use Rattle.a64_inst.specs.declared.call.CallRetPair.{CallRetPair}
use Rattle.a64_inst.specs.declared.emission.EmitFlags.{EmitFlags}
use Rattle.a64_inst.specs.declared.frame.FrameLayout.{FrameLayout}
use Rattle.a64_inst.specs.declared.inst.Inst.TheVariants as insts
use Rattle.a64_inst.specs.MemoryOperands.{is_addend}
use Rattle.a64_rows.specs.Forms.{Form, form_word}
use Rattle.a64_cells.specs.declared.callee.Callee.{Callee}
use Rattle.a64_cells.specs.declared.callee.Callee.TheVariants.{Symbol}
use Rattle.a64_cells.specs.Shapes.{plain}
use Rattle.a64_cells.specs.Cells.{adjust_forms, call_cells, frame_forms, inst_cells, key_forms, leave_forms, patchable_cells, pop_forms, restored_cell, result_cells, return_cell, return_cells}
use Rattle.a64_cells.specs.IntegerForms.{alu_rrr_extend_form}
use Rattle.a64_cells.specs.MemoryForms.{addend_form, is_negative, offset_register, step_form, step_forms, sum_op}

-- ---- amounts

none_moved : (by : ℤ) → unsigned_abs by ≡ 0 → int_eq by (pos 0) ≡ true
none_moved (pos n) e = grind (arith, e)
none_moved (negsuc n) e = absurd (omega (arith, e))

some_moved : (by : ℤ) → 1 ≤ unsigned_abs by → int_eq by (pos 0) ≡ false
some_moved (pos n) some = grind (arith, some)
some_moved (negsuc n) some = refl

-- the amount taken off the stack pointer
below_zero : (n : ℕ) → pos 0 -ℤ pos (suc n) ≡ negsuc n
below_zero n = omega (arith, ints)

pub lowered : (pop : ℕ) → unsigned_abs (pos 0 -ℤ pos pop) ≡ pop
lowered zero = refl
lowered (suc n) = ap unsigned_abs (below_zero n)

pub lowered_sign : (pop : ℕ) → 1 ≤ pop → is_negative (pos 0 -ℤ pos pop) ≡ true
lowered_sign zero some = absurd (omega (arith, some))
lowered_sign (suc n) some = ap is_negative (below_zero n)

-- and what is added to it
pub raised : (most size : ℕ) → size ≤ most → pos most -ℤ pos size ≡ pos (most - size)
raised most size h = omega (arith, ints, h)

-- ---- which words

abbrev near_form : ℤ → Form
near_form by = addend_form (integer_register 63) (integer_register 63) by

abbrev far_forms : ℤ → List Form
far_forms by =
    step_forms offset_register (plan_of (unsigned_abs by))
    ++ alu_rrr_extend_form (sum_op by) Size64 (integer_register 63) (integer_register 63) offset_register UXTX ∷ []

abbrev chosen : ℤ → Bool → Bool → List Form
chosen by none near = if none then [] else if near then near_form by ∷ [] else far_forms by

pub none_adjusted : (by : ℤ) → unsigned_abs by ≡ 0 → adjust_forms by ≡ []
none_adjusted by e = ap (λ none. chosen by none (is_addend (unsigned_abs by))) (none_moved by e)

pub near_adjusted : (by : ℤ) → 1 ≤ unsigned_abs by → is_addend (unsigned_abs by) ≡ true → adjust_forms by ≡ near_form by ∷ []
near_adjusted by some e = ap₂ (chosen by) (some_moved by some) e

pub far_adjusted : (by : ℤ) → 1 ≤ unsigned_abs by → is_addend (unsigned_abs by) ≡ false → adjust_forms by ≡ far_forms by
far_adjusted by some e = ap₂ (chosen by) (some_moved by some) e

-- ---- how many

pub far_length : (by : ℤ) → length (far_forms by) ≡ length (plan_of (unsigned_abs by)) + 1
far_length by =
    omega (arith, length-append (step_forms offset_register (plan_of (unsigned_abs by))) (alu_rrr_extend_form (sum_op by) Size64 (integer_register 63) (integer_register 63) offset_register UXTX ∷ []), length-map (plan_of (unsigned_abs by)) (step_form offset_register))

-- ---- the words as they are put

pub far_words : (before steps : List ℕ) (op : ALUOp) (plan : List ConstStep) (word : ℕ) → steps ≡ map form_word (step_forms offset_register plan)
    → word ≡ form_word (alu_rrr_extend_form op Size64 (integer_register 63) (integer_register 63) offset_register UXTX)
    → (before ++ steps) ++ word ∷ [] ≡ before ++ map form_word (step_forms offset_register plan ++ alu_rrr_extend_form op Size64 (integer_register 63) (integer_register 63) offset_register UXTX ∷ [])
far_words before steps op plan word e f =
    append_assoc before steps (word ∷ [])
    ∙ ap (λ ws. before ++ ws) (ap₂ (λ ws w. ws ++ w ∷ []) e f ∙ sym (map-append form_word (step_forms offset_register plan) (alu_rrr_extend_form op Size64 (integer_register 63) (integer_register 63) offset_register UXTX ∷ [])))

-- ---- how many words there are, by the amount

module _ (by : ℤ) (amount : ℕ) (e : unsigned_abs by ≡ amount) where
  pub none_count : amount ≡ 0 → 0 ≡ length (adjust_forms by)
  none_count none = ap length (sym (none_adjusted by (e ∙ none)))

  pub near_count : 1 ≤ amount → is_addend amount ≡ true → 1 ≡ length (adjust_forms by)
  near_count some near = ap length (sym (near_adjusted by (subst (λ n. 1 ≤ n) (sym e) some) (ap is_addend e ∙ near)))

  pub far_count : 1 ≤ amount → is_addend amount ≡ false → length (plan_of amount) + 1 ≡ length (adjust_forms by)
  far_count some far =
      ap (λ n. length (plan_of n) + 1) (sym e) ∙ sym (far_length by)
      ∙ ap length (sym (far_adjusted by (subst (λ n. 1 ≤ n) (sym e) some) (ap is_addend e ∙ far)))

-- the amount of a difference
pub difference : (most size amount : ℕ) → (size ≤ most → amount ≡ most - size) → (most ≤ size → amount ≡ size - most) → unsigned_abs (pos most -ℤ pos size) ≡ amount
difference most size amount up down = elim (cases_lt most size) [
  | inl less ↦
      let at : pos most -ℤ pos size ≡ negsuc (size - most - 1) = omega (arith, ints, less) in
      ap unsigned_abs at ∙ omega (arith, less, down)
  | inr more ↦ ap unsigned_abs (raised most size more) ∙ sym (up more)
]

-- ---- all words of a return that calls

pub leave_length : (frame : FrameLayout) (size : ℕ) (key : Option APIKey) (all : Bool) → length (leave_forms frame size key all) ≡ length (frame_forms frame.setup_area_size) + length (adjust_forms (pos frame.tail_args_size -ℤ pos size)) + length (key_forms frame.setup_area_size all key)
leave_length frame size key all =
    let first = frame_forms frame.setup_area_size in
    let moved = adjust_forms (pos frame.tail_args_size -ℤ pos size) in
    omega (arith, length-append (first ++ moved) (key_forms frame.setup_area_size all key), length-append first moved)

-- ---- all words

pub call_length : (frame : FrameLayout) (callee : Callee) (defs : List CallRetPair) (pop : ℕ) → length (call_cells frame callee defs pop) ≡ 1 + length (pop_forms pop) + length (flat_map (result_cells frame) defs)
call_length frame callee defs pop = omega (arith, length-append (map plain (pop_forms pop)) (flat_map (result_cells frame) defs), length-map (pop_forms pop) plain)

pub return_length : (frame : FrameLayout) (flags : EmitFlags) (callee : Callee) (size : ℕ) (key : Option APIKey) (all : Bool) → length (return_cells frame flags callee size key all) ≡ length frame.restore + length (leave_forms frame size key all) + 1
return_length frame flags callee size key all =
    let restored = map (restored_cell frame flags) frame.restore in
    let leave = map plain (leave_forms frame size key all) in
    omega (arith, length-append (restored ++ leave) (return_cell callee ∷ []), length-append restored leave, length-map frame.restore (restored_cell frame flags), length-map (leave_forms frame size key all) plain)

-- of a call of a symbol that may not be changed later
pub symbol_length : (frame : FrameLayout) (flags : EmitFlags) (info : CallInfo ExternalName) → info.patchable ≡ false → length (call_cells frame (Symbol info.dest) info.defs info.callee_pop_size) ≡ length (inst_cells frame flags (insts.Call info))
symbol_length frame flags info e =
    sym (ap (λ b. length (if b then patchable_cells (Symbol info.dest) info.callee_pop_size else call_cells frame (Symbol info.dest) info.defs info.callee_pop_size)) e)
