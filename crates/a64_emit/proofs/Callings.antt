-- Calls and returns that call: what is known of their operands, and their words.
use Rattle.std.proofs.Common.{ℕ, ◌≡◌, ◌<◌, ◌^◌, Bool, true, false, List, [], ◌∷◌, ◌++◌, map, Option, sym, ap, subst, append_assoc, ◌∙◌}
use Rattle.std.proofs.lemmas.List.{map-append}
use Rattle.a64_base.specs.declared.key.APIKey.{APIKey}
use Rattle.a64_cells.specs.declared.callee.Callee.{Callee}
use Rattle.a64_cells.specs.Words.{as_put}
use Rattle.std.specs.Prelude.{nat_lt, if◌then◌else◌}
use Rattle.std.proofs.lemmas.Bool.{and_parts, ltb-true}
use Rattle.a64_base.specs.declared.entity.ExternalName.{ExternalName}
use Rattle.a64_base.specs.declared.entity.UserStackMap.{UserStackMap}
use Rattle.a64_base.specs.declared.reg.Reg.{Reg}
use Rattle.a64_inst.specs.declared.call.CallArgPair.{CallArgPair}
use Rattle.a64_inst.specs.declared.call.CallInfo.{CallInfo}
use Rattle.a64_inst.specs.declared.call.CallRetPair.{CallRetPair}
use Rattle.a64_inst.specs.declared.call.ReturnCallInfo.{ReturnCallInfo}
use Rattle.a64_inst.specs.declared.emission.EmitFlags.{EmitFlags}
use Rattle.a64_inst.specs.declared.frame.FrameLayout.{FrameLayout}
use Rattle.a64_inst.specs.declared.inst.Inst.{Inst}
use Rattle.a64_inst.specs.declared.inst.Inst.TheVariants as insts
use Rattle.a64_operand.specs.declared.virtuals.VirtualRegisters.TheVariants.{Refused}
use Rattle.a64_inst.specs.CallOperands.{are_call_uses, are_call_defs, are_call_operands, has_return_frame, are_return_operands}
use Rattle.a64_inst.specs.Faults.{is_restorable, has_operands}
use Rattle.a64_operand.specs.Operands.{is_register_or_zero}
use Rattle.a64_cells.specs.declared.callee.Callee.TheVariants.{Symbol, Address}
use Rattle.a64_cells.specs.Shapes.{plain}
use Rattle.a64_cells.specs.Cells.{keep, kept_cells, call_cells, patchable_cells, leave_forms, restored_cell, return_cell, return_cells}

-- ---- operands

call_parts : (uses : List CallArgPair) (defs : List CallRetPair) (pop : ℕ) → are_call_operands Refused uses defs pop ≡ true → (are_call_defs Refused defs ≡ true) × (pop < 2 ^ 31)
unfolding are_call_operands
call_parts uses defs pop e =
    let (good, small) = and_parts (are_call_defs Refused defs) (nat_lt pop (2 ^ 31)) (and_parts (are_call_uses Refused uses) _ e).1 in
    (good, ltb-true pop (2 ^ 31) small)

return_parts : (frame : FrameLayout) (restorable : Bool) (uses : List CallArgPair) (size : ℕ) → are_return_operands frame Refused restorable uses size ≡ true → (has_return_frame frame size ≡ true) × (restorable ≡ true)
unfolding are_return_operands
return_parts frame restorable uses size e = and_parts (has_return_frame frame size) restorable (and_parts (are_call_uses Refused uses) _ e).1

-- ---- a return that calls, as what is restored and what stands behind it

pub return_split : (frame : FrameLayout) (flags : EmitFlags) (callee : Callee) (size : ℕ) (key : Option APIKey) (all : Bool)
    → map as_put (return_cells frame flags callee size key all)
    ≡ map as_put (map (restored_cell frame flags) frame.restore) ++ map as_put (map plain (leave_forms frame size key all) ++ return_cell callee ∷ [])
return_split frame flags callee size key all =
    ap (map as_put) (append_assoc (map (restored_cell frame flags) frame.restore) (map plain (leave_forms frame size key all)) (return_cell callee ∷ []))
    ∙ map-append as_put (map (restored_cell frame flags) frame.restore) (map plain (leave_forms frame size key all) ++ return_cell callee ∷ [])

-- ---- each of the four

module _ (frame : FrameLayout) (flags : EmitFlags) (inst : Inst) where
  -- a call of a symbol
  module _ (info call : CallInfo ExternalName) (is : inst ≡ insts.Call info) (same : call ≡ info) where
    call_is : inst ≡ insts.Call call
    call_is = is ∙ ap (λ i. insts.Call i) (sym same)

    pub symbol_good : has_operands frame flags Refused inst ≡ true → (are_call_defs Refused call.defs ≡ true) × (call.callee_pop_size < 2 ^ 31)
    symbol_good good = call_parts call.uses call.defs call.callee_pop_size (subst (λ (i : Inst). has_operands frame flags Refused i ≡ true) call_is good)

    by_patchable : (kept : Option UserStackMap) (patchable : Bool) → call.patchable ≡ patchable
        → kept_cells frame flags inst kept ≡ keep kept (if patchable then patchable_cells (Symbol call.dest) call.callee_pop_size else call_cells frame (Symbol call.dest) call.defs call.callee_pop_size)
    by_patchable kept patchable e =
        ap (λ (i : Inst). kept_cells frame flags i kept) call_is
        ∙ ap (λ p. keep kept (if p then patchable_cells (Symbol call.dest) call.callee_pop_size else call_cells frame (Symbol call.dest) call.defs call.callee_pop_size)) e

    pub patchable_words : (kept : Option UserStackMap) → call.patchable ≡ true → kept_cells frame flags inst kept ≡ keep kept (patchable_cells (Symbol call.dest) call.callee_pop_size)
    patchable_words kept e = by_patchable kept true e

    pub symbol_words : (kept : Option UserStackMap) → call.patchable ≡ false → kept_cells frame flags inst kept ≡ keep kept (call_cells frame (Symbol call.dest) call.defs call.callee_pop_size)
    symbol_words kept e = by_patchable kept false e

  -- a call of an address
  module _ (info call : CallInfo Reg) (is : inst ≡ insts.CallInd info) (same : call ≡ info) where
    indirect_is : inst ≡ insts.CallInd call
    indirect_is = is ∙ ap (λ i. insts.CallInd i) (sym same)

    pub address_good : has_operands frame flags Refused inst ≡ true → (is_register_or_zero Refused call.dest ≡ true) × (are_call_defs Refused call.defs ≡ true) × (call.callee_pop_size < 2 ^ 31)
    address_good good =
        let (dest, rest) = and_parts (is_register_or_zero Refused call.dest) _ (subst (λ (i : Inst). has_operands frame flags Refused i ≡ true) indirect_is good) in
        let known = call_parts call.uses call.defs call.callee_pop_size rest in
        (dest, known.0, known.1)

    pub address_words : (kept : Option UserStackMap) → kept_cells frame flags inst kept ≡ keep kept (call_cells frame (Address call.dest) call.defs call.callee_pop_size)
    address_words kept = ap (λ (i : Inst). kept_cells frame flags i kept) indirect_is

  -- a return that calls a symbol
  module _ (info call : ReturnCallInfo ExternalName) (is : inst ≡ insts.ReturnCall info) (same : call ≡ info) where
    return_is : inst ≡ insts.ReturnCall call
    return_is = is ∙ ap (λ i. insts.ReturnCall i) (sym same)

    pub return_good : has_operands frame flags Refused inst ≡ true → (has_return_frame frame call.new_stack_arg_size ≡ true) × (is_restorable frame flags Refused ≡ true)
    return_good good = return_parts frame (is_restorable frame flags Refused) call.uses call.new_stack_arg_size (subst (λ (i : Inst). has_operands frame flags Refused i ≡ true) return_is good)

    pub return_words : (kept : Option UserStackMap) → kept_cells frame flags inst kept ≡ return_cells frame flags (Symbol call.dest) call.new_stack_arg_size call.key call.sign_return_address_all
    return_words kept = ap (λ (i : Inst). kept_cells frame flags i kept) return_is

  -- and one that calls an address
  module _ (info call : ReturnCallInfo Reg) (is : inst ≡ insts.ReturnCallInd info) (same : call ≡ info) where
    return_indirect_is : inst ≡ insts.ReturnCallInd call
    return_indirect_is = is ∙ ap (λ i. insts.ReturnCallInd i) (sym same)

    pub return_address_good : has_operands frame flags Refused inst ≡ true → (is_register_or_zero Refused call.dest ≡ true) × (has_return_frame frame call.new_stack_arg_size ≡ true) × (is_restorable frame flags Refused ≡ true)
    return_address_good good =
        let (dest, rest) = and_parts (is_register_or_zero Refused call.dest) _ (subst (λ (i : Inst). has_operands frame flags Refused i ≡ true) return_indirect_is good) in
        let known = return_parts frame (is_restorable frame flags Refused) call.uses call.new_stack_arg_size rest in
        (dest, known.0, known.1)

    pub return_address_words : (kept : Option UserStackMap) → kept_cells frame flags inst kept ≡ return_cells frame flags (Address call.dest) call.new_stack_arg_size call.key call.sign_return_address_all
    return_address_words kept = ap (λ (i : Inst). kept_cells frame flags i kept) return_indirect_is
