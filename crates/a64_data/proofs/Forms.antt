-- Which words of instructions are data.
use Rattle.std.proofs.Common.{ℕ, ℤ, zero, suc, pos, ◌≡◌, Bool, true, false, List, [], ◌∷◌, ◌++◌, length, map, Option, None, Some, refl, sym, ◌∙◌}
use Rattle.std.specs.Prelude.{◌||◌, if◌then◌else◌}
use Rattle.std.specs.Ordering.{int_eq}
use Rattle.std.specs.Int.RustNames.{unsigned_abs}
use Rattle.std.specs.List.{flat_map}
use Rattle.a64_base.specs.declared.entity.ExternalName.{ExternalName}
use Rattle.a64_base.specs.declared.entity.MachLabel.{MachLabel}
use Rattle.a64_base.specs.declared.entity.TrapCode.{TrapCode}
use Rattle.a64_base.specs.declared.ir_type.IrType.{IrType}
use Rattle.a64_base.specs.declared.ir_type.IrType.TheVariants.{I8}
use Rattle.a64_base.specs.declared.reg.Reg.{Reg}
use Rattle.a64_base.specs.declared.size.OperandSize.TheVariants.{Size64}
use Rattle.a64_ops.specs.declared.operator.ALUOp.TheVariants.{Add}
use Rattle.a64_plan.specs.Plans.{plan_of}
use Rattle.a64_inst.specs.declared.access.Access.{Access}
use Rattle.a64_inst.specs.declared.call.CallRetPair.{CallRetPair}
use Rattle.a64_inst.specs.declared.call.ReturnCallInfo.{ReturnCallInfo}
use Rattle.a64_inst.specs.declared.emission.EmitFlags.{EmitFlags}
use Rattle.a64_inst.specs.declared.frame.FrameLayout.{FrameLayout}
use Rattle.a64_inst.specs.declared.inst.Inst.{Inst}
use Rattle.a64_inst.specs.declared.inst.Inst.TheVariants as insts
use Rattle.a64_inst.specs.declared.mode.AMode.TheVariants as modes
use Rattle.a64_inst.specs.Accesses.{access_of}
use Rattle.a64_inst.specs.FinalModes.{FinalMode, SignedOffset, ScaledOffset, Other, final_mode, final_steps}
use Rattle.a64_inst.specs.MemoryOperands.{is_addend}
use Rattle.a64_operand.specs.Operands.{is_same_register}
use Rattle.a64_rows.specs.Forms.{Form}
use Rattle.a64_cells.specs.ControlForms.{authenticated_ret_forms}
use Rattle.a64_cells.specs.IntegerForms.{mov_form, alu_rrr_extend_form}
use Rattle.a64_cells.specs.LoopForms as loops
use Rattle.a64_cells.specs.MemoryForms.{step_forms, addend_form, addend_register, sum_form, offset_register, access_steps, access_form}
use Rattle.a64_cells.specs.declared.callee.Callee.{Callee}
use Rattle.a64_cells.specs.declared.callee.Callee.TheVariants.{Symbol, Address}
use Rattle.a64_cells.specs.declared.site.Site.{Site}
use Rattle.a64_cells.specs.Shapes.{FormOf, Cell, Shape, Words, plain, quiet, several, sum_shape, address_shape, loop_cells, table_cells, table_labels}
use Rattle.a64_cells.specs.Cells.{access_shape, other_shape, shape_cells, inst_cells, call_cells, patchable_cells, pop_forms, result_cells, result_load, restored_cell, lone_cell}
use Rattle.a64_cells.specs.PlainShapes.{plain_shape}
use Rattle.a64_data.specs.Cells.{is_data, is_data_at}

-- ---- words of which none is data

abbrev pub any_data : List Cell → Bool
any_data [] = false
any_data (c ∷ cs) = is_data c || any_data cs

pub none_at : (cells : List Cell) (n : ℕ) → any_data cells ≡ false → is_data_at cells n ≡ false
none_at [] n e = refl
none_at (c ∷ cs) n e = go (none_at cs) (is_data c) refl n e
  where
    go : ((m : ℕ) → any_data cs ≡ false → is_data_at cs m ≡ false) → (b : Bool) → is_data c ≡ b → (n : ℕ) → (b || any_data cs) ≡ false → is_data_at (c ∷ cs) n ≡ false
    go rest true is n e = absurd cc
    go rest false is zero e = is
    go rest false is (suc n) e = rest n e

pub joined_data : (xs ys : List Cell) → any_data xs ≡ false → any_data ys ≡ false → any_data (xs ++ ys) ≡ false
joined_data [] ys e f = f
joined_data (c ∷ cs) ys e f = go (joined_data cs ys) (is_data c) e
  where
    go : (any_data cs ≡ false → any_data ys ≡ false → any_data (cs ++ ys) ≡ false) → (b : Bool) → (b || any_data cs) ≡ false → (b || any_data (cs ++ ys)) ≡ false
    go rest true e = absurd cc
    go rest false e = rest e f

pub plain_data : (forms : List Form) → any_data (map plain forms) ≡ false
plain_data [] = refl
plain_data (f ∷ forms) = plain_data forms

pub several_data : (forms : List Form) (form : Form) (site : Option Site) (trap : Option TrapCode) → any_data (several forms (FormOf form) site trap) ≡ false
several_data [] form site trap = refl
several_data (f ∷ forms) form site trap = several_data forms form site trap

abbrev HasNone : Shape → Type 0
HasNone shape = any_data (shape_cells shape) ≡ false

abbrev chosen : Bool → Bool → Bool → Shape → Shape → Shape → Shape
chosen nothing same near move near_sum far_sum = if nothing then (if same then Words [] else move) else if near then near_sum else far_sum

chosen_data : (nothing same near : Bool) (move near_sum far_sum : Shape) → HasNone move → HasNone near_sum → HasNone far_sum → HasNone (chosen nothing same near move near_sum far_sum)
chosen_data true true near move near_sum far_sum a b c = refl
chosen_data true false near move near_sum far_sum a b c = a
chosen_data false same true move near_sum far_sum a b c = b
chosen_data false same false move near_sum far_sum a b c = c

quiet_data : (forms : List Form) (form : Form) → HasNone (quiet forms form)
quiet_data forms form = several_data forms form None None

sum_data : (rd rn : Reg) (offset : ℤ) → HasNone (sum_shape rd rn offset)
sum_data rd rn offset =
    chosen_data (int_eq offset (pos 0)) (is_same_register rd rn) (is_addend (unsigned_abs offset))
    (quiet [] (mov_form Size64 rd rn)) (quiet [] (addend_form rd rn offset)) (quiet (step_forms addend_register (plan_of (unsigned_abs offset))) (sum_form rd rn offset))
    refl refl (quiet_data (step_forms addend_register (plan_of (unsigned_abs offset))) (sum_form rd rn offset))

address_data : (rd : Reg) (before : List Form) (mode : FinalMode) → HasNone (address_shape rd before mode)
address_data rd before (SignedOffset rn offset) = sum_data rd rn offset
address_data rd before (ScaledOffset rn offset ty) = sum_data rd rn (pos offset)
address_data rd before (Other (modes.RegExtended rn rm extendop)) = quiet_data before (alu_rrr_extend_form Add Size64 rd rn rm extendop)
address_data rd before (Other _) = refl

access_data : (frame : FrameLayout) (access : Access) → HasNone (access_shape frame access)
access_data frame access = several_data (access_steps frame access) (access_form frame access) _ access.flags

loop_data : (ty : IrType) (between : List Form) (stored : Reg) (trap : Option TrapCode) → any_data (loop_cells ty between stored trap) ≡ false
loop_data ty between stored trap = joined_data (several between _ None trap) (plain (loops.back_form (length between)) ∷ []) (several_data between _ None trap) refl

-- ---- calls

result_data : (frame : FrameLayout) (pair : CallRetPair) → any_data (result_cells frame pair) ≡ false
result_data frame pair = go (result_load pair)
  where
    of : (o : Option Access) → any_data (elim o [ None ↦ [] | Some access ↦ shape_cells (access_shape frame access) ]) ≡ false
    of None = refl
    of (Some access) = access_data frame access

    go : (o : Option Inst) → any_data (elim o [ None ↦ [] | Some load ↦ elim (access_of load) [ None ↦ [] | Some access ↦ shape_cells (access_shape frame access) ] ]) ≡ false
    go None = refl
    go (Some load) = of (access_of load)

results_data : (frame : FrameLayout) (defs : List CallRetPair) → any_data (flat_map (result_cells frame) defs) ≡ false
results_data frame [] = refl
results_data frame (pair ∷ defs) = joined_data (result_cells frame pair) (flat_map (result_cells frame) defs) (result_data frame pair) (results_data frame defs)

call_data : (frame : FrameLayout) (callee : Callee) (defs : List CallRetPair) (pop : ℕ) → any_data (call_cells frame callee defs pop) ≡ false
call_data frame callee defs pop = joined_data (map plain (pop_forms pop)) (flat_map (result_cells frame) defs) (plain_data (pop_forms pop)) (results_data frame defs)

symbol_data : (frame : FrameLayout) (callee : Callee) (patchable : Bool) (defs : List CallRetPair) (pop : ℕ) → any_data (if patchable then patchable_cells callee pop else call_cells frame callee defs pop) ≡ false
symbol_data frame callee true defs pop = plain_data (pop_forms pop)
symbol_data frame callee false defs pop = call_data frame callee defs pop

-- ---- instructions without data

-- the others
abbrev pub may_have_data : Inst → Bool
may_have_data (insts.Word4 value) = true
may_have_data (insts.Word8 value) = true
may_have_data (insts.LoadExtNameFar rd name offset) = true
may_have_data (insts.JTSequence default targets ridx rtmp1 rtmp2) = true
may_have_data (insts.ReturnCall info) = true
may_have_data (insts.ReturnCallInd info) = true
may_have_data _ = false

pub none_may : (inst : Inst) → ((value : ℕ) → inst ≡ insts.Word4 value → ⊥) → ((value : ℕ) → inst ≡ insts.Word8 value → ⊥)
    → ((default : MachLabel) (targets : List MachLabel) (ridx rtmp1 rtmp2 : Reg) → inst ≡ insts.JTSequence default targets ridx rtmp1 rtmp2 → ⊥)
    → ((rd : Reg) (name : ExternalName) (offset : ℤ) → inst ≡ insts.LoadExtNameFar rd name offset → ⊥)
    → ((info : ReturnCallInfo ExternalName) → inst ≡ insts.ReturnCall info → ⊥)
    → ((info : ReturnCallInfo Reg) → inst ≡ insts.ReturnCallInd info → ⊥)
    → may_have_data inst ≡ false
none_may (insts.Word4 value) a b c d e f = absurd (a value refl)
none_may (insts.Word8 value) a b c d e f = absurd (b value refl)
none_may (insts.JTSequence default targets ridx rtmp1 rtmp2) a b c d e f = absurd (c default targets ridx rtmp1 rtmp2 refl)
none_may (insts.LoadExtNameFar rd name offset) a b c d e f = absurd (d rd name offset refl)
none_may (insts.ReturnCall info) a b c d e f = absurd (e info refl)
none_may (insts.ReturnCallInd info) a b c d e f = absurd (f info refl)
none_may _ a b c d e f = refl

module _ (frame : FrameLayout) (flags : EmitFlags) where
  other_data : (inst : Inst) → may_have_data inst ≡ false → HasNone (other_shape frame flags inst)
  other_data (insts.LoadAddr rd mem) e = address_data rd (step_forms offset_register (final_steps frame I8 mem)) (final_mode frame I8 mem)
  other_data (insts.AuthenticatedRet key is_hint) e = plain_data (authenticated_ret_forms key is_hint)
  other_data (insts.AtomicRMWLoop ty op trap addr operand oldval scratch1 scratch2) e = loop_data ty (loops.operator_forms ty op) (loops.stored_register op) trap
  other_data (insts.AtomicCASLoop ty trap addr expected replacement oldval scratch) e = loop_data ty (loops.awaited_forms ty) loops.new_register trap
  other_data (insts.Call info) e = symbol_data frame (Symbol info.dest) info.patchable info.defs info.callee_pop_size
  other_data (insts.CallInd info) e = call_data frame (Address info.dest) info.defs info.callee_pop_size
  other_data (insts.ReturnCall info) e = absurd cc
  other_data (insts.ReturnCallInd info) e = absurd cc
  other_data (insts.Word4 value) e = absurd cc
  other_data (insts.Word8 value) e = absurd cc
  other_data (insts.LoadExtNameFar rd name offset) e = absurd cc
  other_data (insts.JTSequence default targets ridx rtmp1 rtmp2) e = absurd cc
  other_data _ e = refl

  pub no_data : (inst : Inst) → may_have_data inst ≡ false → any_data (inst_cells frame flags inst) ≡ false
  no_data inst h = go (access_of inst)
    where
      go : (o : Option Access) → any_data (shape_cells (elim o [ None ↦ other_shape frame flags inst | Some access ↦ access_shape frame access ])) ≡ false
      go None = other_data inst h
      go (Some access) = access_data frame access

-- ---- what a frame restores

-- a word of data, or two
abbrev pub is_word : Inst → Bool
is_word (insts.Word4 value) = true
is_word (insts.Word8 value) = true
is_word _ = false

pub no_word : (inst : Inst) → ((value : ℕ) → inst ≡ insts.Word4 value → ⊥) → ((value : ℕ) → inst ≡ insts.Word8 value → ⊥) → is_word inst ≡ false
no_word (insts.Word4 value) f g = absurd (f value refl)
no_word (insts.Word8 value) f g = absurd (g value refl)
no_word _ f g = refl

lone_data : (cells : List Cell) → any_data cells ≡ false → is_data (lone_cell cells) ≡ false
lone_data [] e = refl
lone_data (c ∷ cs) e = go (is_data c) e
  where
    go : (b : Bool) → (b || any_data cs) ≡ false → b ≡ false
    go true e = absurd cc
    go false e = refl

-- what begins with a form
first_form : (steps behind more : List Form) (form : Form) (cells : List Cell) → is_data (lone_cell (map plain ((steps ++ form ∷ behind) ++ more) ++ cells)) ≡ false
first_form [] behind more form cells = refl
first_form (s ∷ steps) behind more form cells = refl

no_access : (inst : Inst) (access : Access) → access_of inst ≡ Some access → is_word inst ≡ false
no_access (insts.Word4 value) access e = absurd cc
no_access (insts.Word8 value) access e = absurd cc
no_access _ access e = refl

module _ (frame : FrameLayout) (flags : EmitFlags) where
  first_data : (inst : Inst) → is_data (lone_cell (shape_cells (plain_shape frame flags inst))) ≡ is_word inst
  first_data (insts.LoadAddr rd mem) = lone_data (shape_cells (plain_shape frame flags (insts.LoadAddr rd mem))) (address_data rd (step_forms offset_register (final_steps frame I8 mem)) (final_mode frame I8 mem))
  first_data (insts.AuthenticatedRet key is_hint) = lone_data (map plain (authenticated_ret_forms key is_hint)) (plain_data (authenticated_ret_forms key is_hint))
  first_data (insts.JTSequence default targets ridx rtmp1 rtmp2) = first_form _ _ _ _ (table_cells 0 (table_labels default targets))
  first_data _ = refl

  pub restored_data : (inst : Inst) → is_data (restored_cell frame flags inst) ≡ is_word inst
  restored_data inst = go (access_of inst) refl
    where
      go : (o : Option Access) → access_of inst ≡ o → is_data (lone_cell (shape_cells (elim o [ None ↦ plain_shape frame flags inst | Some access ↦ access_shape frame access ]))) ≡ is_word inst
      go None e = first_data inst
      go (Some access) e = lone_data (shape_cells (access_shape frame access)) (access_data frame access) ∙ sym (no_access inst access e)
