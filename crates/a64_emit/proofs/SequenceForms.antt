-- The cells of sequences around tables, symbols and the stack, of loops of atomic accesses, of selects of vectors, and of returns that
-- authenticate their address are forms of their rows, or data, where they have no fault.
use Rattle.std.proofs.Common.{ℕ, ℤ, pos, ◌≡◌, ◌+◌, ◌-◌, ◌*◌, ◌≤◌, ◌^◌, Bool, true, false, List, [], ◌∷◌, ◌++◌, length, map, Option, None, Some, inl, inr, refl, sym, subst, lit<, arith, rules, negsuc}
use Rattle.std.specs.Prelude.{All, ◌&&◌, if◌then◌else◌, option_map}
use Rattle.std.proofs.lemmas.Bool.{and_parts, cases_lt}
use Rattle.std.proofs.lemmas.List.Elements.{All-nil, All-cons, All-append, All-map}
use Rattle.a64_base.specs.declared.cond.Cond.{Cond}
use Rattle.a64_base.specs.declared.cond.Cond.TheVariants.{Lo, Ne, Hi, Lt, Gt}
use Rattle.a64_base.specs.declared.cond.CondBrKind.TheVariants as branches
use Rattle.a64_base.specs.declared.entity.ExternalName.{ExternalName}
use Rattle.a64_base.specs.declared.entity.MachLabel.{MachLabel}
use Rattle.a64_base.specs.declared.entity.TrapCode.{TrapCode}
use Rattle.a64_base.specs.declared.ir_type.IrType.{IrType}
use Rattle.a64_base.specs.declared.ir_type.IrType.TheVariants.{I8, I16}
use Rattle.a64_base.specs.declared.key.APIKey.{APIKey}
use Rattle.a64_base.specs.declared.key.APIKey.TheVariants.{AZ, ASP, BZ, BSP}
use Rattle.a64_base.specs.declared.reg.Reg.{Reg}
use Rattle.a64_base.specs.declared.shift.ExtendOp.{ExtendOp}
use Rattle.a64_base.specs.declared.size.OperandSize.{OperandSize}
use Rattle.a64_base.specs.declared.size.OperandSize.TheVariants.{Size64}
use Rattle.a64_base.specs.declared.target.BranchTarget.TheVariants.{ResolvedOffset}
use Rattle.a64_base.specs.Registers.{integer_register}
use Rattle.a64_imms.specs.declared.imm12.Imm12.{Imm12}
use Rattle.a64_ops.specs.declared.access.AccessOp.TheVariants.{SLoad32}
use Rattle.a64_ops.specs.declared.operator.ALUOp.{ALUOp}
use Rattle.a64_ops.specs.declared.operator.ALUOp.TheVariants as alu
use Rattle.a64_ops.specs.declared.operator.ALUOp.TheVariants.{Add, SubS}
use Rattle.a64_ops.specs.declared.operator.AtomicRMWLoopOp.{AtomicRMWLoopOp}
use Rattle.a64_ops.specs.declared.operator.AtomicRMWLoopOp.TheVariants as loops
use Rattle.a64_imms.specs.declared.move_wide.MoveWideConst.{MoveWideConst}
use Rattle.a64_imms.specs.Logic.{logic_of}
use Rattle.a64_imms.specs.MoveWides.{wide_of}
use Rattle.a64_imms.proofs.Found.{wide_holds}
use Rattle.a64_plan.specs.declared.step.ConstStep.{ConstStep}
use Rattle.a64_plan.specs.declared.step.ConstStep.TheVariants.{MovZ, MovN, Orr}
use Rattle.a64_plan.specs.Plans.{alone_or, moves_size, moves_of, narrow_logic_of, plan_of}
use Rattle.a64_plan.specs.Shapes.{IsShape}
use Rattle.a64_plan.proofs.Shortest.{plan_shortest}
use Rattle.a64_inst.specs.declared.emission.EmitFlags.{EmitFlags}
use Rattle.a64_operand.specs.declared.virtuals.VirtualRegisters.TheVariants.{Refused}
use Rattle.a64_operand.specs.IntegerOperands.{is_extended}
use Rattle.a64_operand.specs.Operands.{is_imm12, is_register, is_register_or_zero}
use Rattle.a64_inst.specs.SequenceOperands.{are_probe_operands}
use Rattle.a64_rows.specs.Forms.{Form, IsFormOf}
use Rattle.a64_cells.specs.Shapes.{Data, plain, last_cell, entry_site, table_labels, table_cells, barrier_forms, table_forms, table_jump, got_cells, near_cells, far_cells, probe_forms, vector_select_forms, FormOf, Cell, loop_cells, rmw_loop_cells, cas_loop_cells}
use Rattle.a64_cells.specs.ControlForms.{csdb_form, indirect_br_form, auti_form, authenticated_ret_forms, cond_br_form, ret_auth_form, ret_form}
use Rattle.a64_enc_int.proofs.Registers.{field_below}
use Rattle.a64_cells.specs.FormCells.{IsFormCell}
use Rattle.a64_cells.specs.IntegerForms.{csel_form, adr_form, alu_rrr_form, extend_form}
use Rattle.a64_cells.specs.LoopForms.{address_register, awaited_forms, back_form, choice_forms, compared_form, complement_form, failed_register, load_exclusive_form, loop_size, new_register, old_register, operand_register, operation_form, operator_forms, sign_extend_of, sign_forms, store_exclusive_form, stored_register, zero_extend_of}
use Rattle.a64_cells.specs.MemoryForms.{step_forms, indexed_form}
use Rattle.a64_cells.proofs.AccessForms.{shape_forms, indexed_is_form, unsigned_is_form, literal_is_form}
use Rattle.a64_cells.proofs.BranchForms.{branch_forms, auti_is_form, cond_br_is_form, ret_auth_is_form, ret_is_form}
use Rattle.a64_cells.proofs.FloatForms.{move_vector_is_form}
use Rattle.a64_cells.proofs.AtomicForms.{size_below}
use Rattle.a64_cells.proofs.ImmediateForms.{immediate_forms}
use Rattle.a64_cells.proofs.RegisterForms.{alu_rrr_extend_is_form, alu_rrr_is_form, csel_is_form, extend_is_form, register_forms}

-- ---- lists of forms

pub plain_forms : (forms : List Form) → All IsFormOf forms → All IsFormCell (map plain forms)
plain_forms forms are = All-map IsFormCell plain forms are

-- ---- plans

-- of a number that no register holds
large_shape : (value : ℕ) → 2 ^ 64 ≤ value → IsShape (plan_of value)
unfolding plan_of wide_of
large_shape value high = go (wide_of value) refl
  where
    others : List ConstStep
    others = alone_or (option_map Orr (logic_of Size64 value)) (alone_or (option_map Orr (narrow_logic_of value)) (moves_of (moves_size value) value))

    negated : IsShape (alone_or (option_map (λ imm. MovN imm Size64) (wide_of (2 ^ 64 - 1 - value))) others)
    negated =
        let none : 2 ^ 64 - 1 - value ≡ 0 = omega (arith, high) in
        subst (λ n. IsShape (alone_or (option_map (λ imm. MovN imm Size64) (wide_of n)) others)) (sym none) (record { bits_fit = lit< tt; has_place = lit< tt }, tt)

    go : (o : Option MoveWideConst) → wide_of value ≡ o → IsShape (alone_or (option_map (λ imm. MovZ imm Size64) o) (alone_or (option_map (λ imm. MovN imm Size64) (wide_of (2 ^ 64 - 1 - value))) others))
    go (Some imm) e = let is = (wide_holds value imm e).0 in (record { bits_fit = is.bits_fit; has_place = omega (arith, is.shift_fits) }, tt)
    go None e = negated

-- the plan of any number has a shape
pub plan_shape : (value : ℕ) → IsShape (plan_of value)
plan_shape value = elim (cases_lt value (2 ^ 64)) [ inl low ↦ (plan_shortest value low).shape | inr high ↦ large_shape value high ]

-- ---- tables

-- the words of a list, each by itself
ruleset lists = (All-nil, All-cons, register_forms, immediate_forms, branch_forms, indexed_is_form, unsigned_is_form, literal_is_form)

barrier_are_forms : (flags : EmitFlags) → All IsFormOf (barrier_forms flags)
barrier_are_forms flags = go (flags.enable_table_access_spectre_mitigation && flags.use_csdb)
  where
    go : (asked : Bool) → All IsFormOf (if asked then csdb_form ∷ [] else [])
    go true = search (rules, lists)
    go false = search (rules, lists)

-- entries are data
entries_are_forms : (k : ℕ) (labels : List MachLabel) → All IsFormCell (table_cells k labels)
entries_are_forms k [] = All-nil IsFormCell
entries_are_forms k (label ∷ labels) = All-cons IsFormCell (last_cell (Data (4 * k)) (Some (entry_site label)) None) (table_cells (k + 1) labels) tt (entries_are_forms (k + 1) labels)

module _ (flags : EmitFlags) (ridx rtmp1 rtmp2 : Reg) where
  -- the words that jump to an entry
  abbrev entry_forms : List Form
  entry_forms = adr_form rtmp1 (pos 16) ∷ indexed_form SLoad32 rtmp2 rtmp1 rtmp2 2 1 ∷ alu_rrr_form Add Size64 rtmp1 rtmp1 rtmp2 ∷ indirect_br_form rtmp1 ∷ []

  before_table : (n : ℕ) → All IsFormOf (table_forms flags n ridx rtmp1 rtmp2)
  before_table n =
      All-append IsFormOf (step_forms rtmp2 (plan_of n) ++ csel_form rtmp2 ridx rtmp2 Lo ∷ barrier_forms flags) entry_forms
      (All-append IsFormOf (step_forms rtmp2 (plan_of n)) (csel_form rtmp2 ridx rtmp2 Lo ∷ barrier_forms flags) (shape_forms rtmp2 (plan_of n) (plan_shape n))
      (All-cons IsFormOf (csel_form rtmp2 ridx rtmp2 Lo) (barrier_forms flags) (csel_is_form rtmp2 ridx rtmp2 Lo) (barrier_are_forms flags)))
      (search (rules, lists))

-- ---- each sequence

pub table_are_forms : (flags : EmitFlags) (default : MachLabel) (targets : List MachLabel) (ridx rtmp1 rtmp2 : Reg)
    → All IsFormCell (table_jump flags default targets ridx rtmp1 rtmp2)
table_are_forms flags default targets ridx rtmp1 rtmp2 =
    All-append IsFormCell (map plain (table_forms flags (length targets) ridx rtmp1 rtmp2)) (table_cells 0 (table_labels default targets))
    (plain_forms (table_forms flags (length targets) ridx rtmp1 rtmp2) (before_table flags ridx rtmp1 rtmp2 (length targets)))
    (entries_are_forms 0 (table_labels default targets))

pub got_are_forms : (rd : Reg) (name : ExternalName) → All IsFormCell (got_cells rd name)
got_are_forms rd name = search (rules, lists)

pub near_are_forms : (rd : Reg) (name : ExternalName) (offset : ℤ) → All IsFormCell (near_cells rd name offset)
near_are_forms rd name offset = search (rules, lists)

pub far_are_forms : (rd : Reg) (name : ExternalName) (offset : ℤ) → All IsFormCell (far_cells rd name offset)
far_are_forms rd name offset = search (rules, lists)

pub probe_are_forms : (flags : EmitFlags) (start end : Reg) (step : Imm12) → are_probe_operands flags Refused start end step ≡ true → All IsFormCell (map plain (probe_forms start end step))
unfolding are_probe_operands
probe_are_forms flags start end step good =
    let amount = (and_parts (flags.enable_probestack && is_register Refused start && is_register_or_zero Refused end) (is_imm12 step) good).1 in
    plain_forms (probe_forms start end step) (search (rules, lists, amount) depth 8)

-- ---- selects of vectors

pub vector_select_are_forms : (rd rn rm : Reg) (cond : Cond) → All IsFormCell (map plain (vector_select_forms rd rn rm cond))
vector_select_are_forms rd rn rm cond = plain_forms (vector_select_forms rd rn rm cond) (search (rules, lists, move_vector_is_form) depth 8)

-- ---- loops of atomic accesses

load_is_form : (ty : IrType) (rt rn : Reg) → IsFormOf (load_exclusive_form ty rt rn)
unfolding load_exclusive_form
load_is_form ty rt rn = ((size_below ty, (field_below rn, (field_below rt, tt))), refl)

store_is_form : (ty : IrType) (rs rt rn : Reg) → IsFormOf (store_exclusive_form ty rs rt rn)
unfolding store_exclusive_form
store_is_form ty rs rt rn = ((size_below ty, (field_below rs, (field_below rn, (field_below rt, tt)))), refl)

compared_is_form : (size : OperandSize) (extendop : Option ExtendOp) → IsFormOf (compared_form size extendop)
compared_is_form size None = alu_rrr_is_form SubS size (integer_register 31) old_register operand_register
compared_is_form size (Some extendop) = alu_rrr_extend_is_form SubS size (integer_register 31) old_register operand_register extendop

pub one_form : (form : Form) → IsFormOf form → All IsFormOf (form ∷ [])
one_form form is = All-cons IsFormOf form [] is (All-nil IsFormOf)

operation_is_form : (op : ALUOp) (ty : IrType) → IsFormOf (operation_form op ty)
operation_is_form op ty = alu_rrr_is_form op (loop_size ty) new_register old_register operand_register

sign_are_forms : (ty : IrType) → All IsFormOf (sign_forms ty)
unfolding is_extended
sign_are_forms I8 = one_form (extend_form old_register old_register true 8 32) (extend_is_form old_register old_register true 8 32 refl)
sign_are_forms I16 = one_form (extend_form old_register old_register true 16 32) (extend_is_form old_register old_register true 16 32 refl)
sign_are_forms _ = All-nil IsFormOf

choice_are_forms : (ty : IrType) (extendop : Option ExtendOp) (cond : Cond) → All IsFormOf (choice_forms ty extendop cond)
choice_are_forms ty extendop cond =
    let choice = csel_form new_register old_register operand_register cond in
    All-cons IsFormOf (compared_form (loop_size ty) extendop) (choice ∷ []) (compared_is_form (loop_size ty) extendop)
    (one_form choice (csel_is_form new_register old_register operand_register cond))

signed_are_forms : (ty : IrType) (cond : Cond) → All IsFormOf (sign_forms ty ++ choice_forms ty (sign_extend_of ty) cond)
signed_are_forms ty cond =
    All-append IsFormOf (sign_forms ty) (choice_forms ty (sign_extend_of ty) cond) (sign_are_forms ty) (choice_are_forms ty (sign_extend_of ty) cond)

operator_are_forms : (ty : IrType) (op : AtomicRMWLoopOp) → All IsFormOf (operator_forms ty op)
operator_are_forms ty loops.Add = one_form (operation_form alu.Add ty) (operation_is_form alu.Add ty)
operator_are_forms ty loops.Sub = one_form (operation_form alu.Sub ty) (operation_is_form alu.Sub ty)
operator_are_forms ty loops.And = one_form (operation_form alu.And ty) (operation_is_form alu.And ty)
operator_are_forms ty loops.Nand =
    All-cons IsFormOf (operation_form alu.And ty) (complement_form ty ∷ []) (operation_is_form alu.And ty)
    (one_form (complement_form ty) (alu_rrr_is_form alu.OrrNot (loop_size ty) new_register (integer_register 31) new_register))
operator_are_forms ty loops.Eor = one_form (operation_form alu.Eor ty) (operation_is_form alu.Eor ty)
operator_are_forms ty loops.Orr = one_form (operation_form alu.Orr ty) (operation_is_form alu.Orr ty)
operator_are_forms ty loops.Smax = signed_are_forms ty Gt
operator_are_forms ty loops.Smin = signed_are_forms ty Lt
operator_are_forms ty loops.Umax = choice_are_forms ty (zero_extend_of ty) Hi
operator_are_forms ty loops.Umin = choice_are_forms ty (zero_extend_of ty) Lo
operator_are_forms ty loops.Xchg = All-nil IsFormOf

awaited_are_forms : (ty : IrType) → All IsFormOf (awaited_forms ty)
awaited_are_forms ty =
    let branch = cond_br_form (ResolvedOffset (pos 12)) (branches.Cond Ne) in
    All-cons IsFormOf (compared_form Size64 (zero_extend_of ty)) (branch ∷ []) (compared_is_form Size64 (zero_extend_of ty))
    (one_form branch (cond_br_is_form (ResolvedOffset (pos 12)) (branches.Cond Ne)))

pub one_cell : (cell : Cell) → IsFormCell cell → All IsFormCell (cell ∷ [])
one_cell cell is = All-cons IsFormCell cell [] is (All-nil IsFormCell)

loop_are_forms : (ty : IrType) (between : List Form) (stored : Reg) (trap : Option TrapCode) → All IsFormOf between → All IsFormCell (loop_cells ty between stored trap)
loop_are_forms ty between stored trap are =
    let load = last_cell (FormOf (load_exclusive_form ty old_register address_register)) None trap in
    let store = last_cell (FormOf (store_exclusive_form ty failed_register stored address_register)) None trap in
    let back = plain (back_form (length between)) in
    All-cons IsFormCell load ((map plain between ++ store ∷ []) ++ back ∷ []) (load_is_form ty old_register address_register)
    (All-append IsFormCell (map plain between ++ store ∷ []) (back ∷ [])
    (All-append IsFormCell (map plain between) (store ∷ []) (plain_forms between are) (one_cell store (store_is_form ty failed_register stored address_register)))
    (one_cell back (cond_br_is_form (ResolvedOffset (negsuc (4 * length between + 7))) (branches.NotZero failed_register Size64))))

pub rmw_loop_are_forms : (ty : IrType) (op : AtomicRMWLoopOp) (trap : Option TrapCode) → All IsFormCell (rmw_loop_cells ty op trap)
rmw_loop_are_forms ty op trap = loop_are_forms ty (operator_forms ty op) (stored_register op) trap (operator_are_forms ty op)

pub cas_loop_are_forms : (ty : IrType) (trap : Option TrapCode) → All IsFormCell (cas_loop_cells ty trap)
cas_loop_are_forms ty trap = loop_are_forms ty (awaited_forms ty) new_register trap (awaited_are_forms ty)

-- ---- returns that authenticate their address

hinted : (key : APIKey) → All IsFormOf (auti_form key ∷ ret_form ∷ [])
hinted key = All-cons IsFormOf (auti_form key) (ret_form ∷ []) (auti_is_form key) (one_form ret_form ret_is_form)

return_are_forms : (key : APIKey) (is_hint : Bool) → All IsFormOf (authenticated_ret_forms key is_hint)
return_are_forms ASP false = one_form (ret_auth_form 0) (ret_auth_is_form 0 (lit< tt))
return_are_forms BSP false = one_form (ret_auth_form 1) (ret_auth_is_form 1 (lit< tt))
return_are_forms AZ is_hint = hinted AZ
return_are_forms ASP true = hinted ASP
return_are_forms BZ is_hint = hinted BZ
return_are_forms BSP true = hinted BSP

pub authenticated_are_forms : (key : APIKey) (is_hint : Bool) → All IsFormCell (map plain (authenticated_ret_forms key is_hint))
authenticated_are_forms key is_hint = plain_forms (authenticated_ret_forms key is_hint) (return_are_forms key is_hint)

-- those of the words of sequences
pub ruleset sequences = (table_are_forms, got_are_forms, near_are_forms, far_are_forms, probe_are_forms, rmw_loop_are_forms, cas_loop_are_forms, authenticated_are_forms, vector_select_are_forms)
