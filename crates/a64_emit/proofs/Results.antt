-- Loads of the results that a function left on the stack.
use Rattle.std.proofs.Common.{ℕ, ℤ, ◌≡◌, ◌≢◌, ◌<◌, Bool, true, false, List, [], ◌∷◌, ◌++◌, length, map, get_or, Option, None, Some, refl, ap, sym, subst, ◌∙◌, nat_cmp}
use Rattle.std.specs.Prelude.{if◌then◌else◌, IfSome, IsSome}
use Rattle.std.specs.FinMap.{FinMap, get}
use Rattle.std.specs.List.{flat_map}
use Rattle.std.proofs.lemmas.List.{map-append}
use Rattle.std.proofs.lemmas.List.Concat.{flat_map-cons}
use Rattle.std.proofs.lemmas.List.Sums.{AllPass-from_list_all}
use Rattle.std.proofs.lemmas.Bool.{and_parts, and_from}
use Rattle.a64_base.specs.declared.entity.TrapCode.{TrapCode}
use Rattle.a64_base.specs.declared.entity.VCodeConstant.{VCodeConstant}
use Rattle.a64_base.specs.declared.ir_type.IrType.{IrType}
use Rattle.a64_base.specs.declared.reg.Reg.{Reg}
use Rattle.a64_ops.specs.declared.access.AccessOp.{AccessOp}
use Rattle.a64_ops.specs.declared.access.AccessOp.TheVariants as ops
use Rattle.a64_inst.specs.declared.access.Access.{Access}
use Rattle.a64_inst.specs.declared.call.CallRetPair.{CallRetPair}
use Rattle.a64_inst.specs.declared.call.RetLocation.{RetLocation}
use Rattle.a64_inst.specs.declared.call.RetLocation.TheVariants as locations
use Rattle.a64_inst.specs.declared.emission.EmitFlags.{EmitFlags}
use Rattle.a64_inst.specs.declared.frame.FrameLayout.{FrameLayout}
use Rattle.a64_inst.specs.declared.group.Group.TheVariants.{Call, Memory}
use Rattle.a64_inst.specs.declared.inst.Inst.{Inst}
use Rattle.a64_inst.specs.declared.mode.AMode.{AMode}
use Rattle.a64_inst.specs.declared.mode.AMode.TheVariants as modes
use Rattle.a64_operand.specs.declared.virtuals.VirtualRegisters.TheVariants.{Refused}
use Rattle.a64_inst.specs.Accesses.{access_of, inst_with, load_op, type_has_load_form}
use Rattle.a64_inst.specs.CallOperands.{is_result_at, are_call_defs}
use Rattle.a64_inst.specs.Faults.{named_constant, has_mode, has_other_mode, has_other_operands, has_operands}
use Rattle.a64_inst.specs.Groups.{group_of}
use Rattle.a64_inst.specs.MemoryOperands.{is_signed_64, is_data_register, are_mode_operands, are_access_operands, has_access_mode}
use Rattle.a64_inst.specs.Modes.{constant_in}
use Rattle.a64_emit.specs.Bounds.{asked_of}
use Rattle.a64_cells.specs.Shapes.{Cell}
use Rattle.a64_cells.specs.Cells.{shape_cells, access_shape, other_shape, inst_cells, load_at, result_load, result_cells}
use Rattle.a64_cells.specs.Words.{IsThere, as_put}
use Rattle.a64_emit.proofs.Lights.{access_unasked}

-- ---- an instruction of an operator is its access

with_access : (op : AccessOp) (reg : Reg) (mem : AMode) (trap : Option TrapCode) → access_of (inst_with op reg mem trap) ≡ Some (record { op = op; reg = reg; mem = mem; flags = trap })
with_access ops.ULoad8 reg mem trap = refl
with_access _ reg mem trap = refl

with_group : (op : AccessOp) (reg : Reg) (mem : AMode) (trap : Option TrapCode) → group_of (inst_with op reg mem trap) ≡ Memory
with_group ops.ULoad8 reg mem trap = refl
with_group _ reg mem trap = refl

-- ---- the load of a result

-- the words of an access
abbrev pub access_cells : FrameLayout → Option Access → List Cell
access_cells frame o = elim o [ None ↦ [] | Some access ↦ shape_cells (access_shape frame access) ]

-- and its constant
abbrev pub access_constant : Option Access → Option VCodeConstant
access_constant o = elim o [ None ↦ None | Some access ↦ constant_in access.mem ]

-- the words of a load
abbrev load_cells : FrameLayout → Option Inst → List Cell
load_cells frame o = elim o [ None ↦ [] | Some load ↦ access_cells frame (access_of load) ]

-- what is known of it
pub record IsResultLoad (frame : FrameLayout) (flags : EmitFlags) (load : Inst) : Type 0 where
  pub other : group_of load ≢ Call
  pub asked : asked_of load ≡ None
  pub good : has_operands frame flags Refused load ≡ true
  pub mode : has_mode load ≡ true
  pub named : named_constant load ≡ None
  pub cells : access_cells frame (access_of load) ≡ inst_cells frame flags load

module _ (frame : FrameLayout) (flags : EmitFlags) where
  module _ (reg : Reg) (off : ℤ) (ty : IrType) (good : is_result_at Refused reg (locations.Stack off ty) ≡ true) (signed : is_signed_64 off ≡ true) where
    abbrev access : Access
    access = record { op = load_op ty; reg = reg; mem = modes.SPOffset off; flags = None }

    abbrev the_load : Inst
    the_load = inst_with (load_op ty) reg (modes.SPOffset off) None

    is_access : access_of the_load ≡ Some access
    is_access = with_access (load_op ty) reg (modes.SPOffset off) None

    operands_good : are_access_operands frame Refused access ≡ true
    unfolding are_access_operands are_mode_operands
    operands_good =
        let datum = (and_parts (is_data_register Refused (load_op ty) reg) _ (and_parts (type_has_load_form ty) _ good).1).0 in
        and_from (is_data_register Refused (load_op ty) reg) _ datum (and_from (is_signed_64 off) true signed refl)

    stack_load : IsResultLoad frame flags the_load
    stack_load = record {
      other = λ is. absurd (memory_call (sym (with_group (load_op ty) reg (modes.SPOffset off) None) ∙ is));
      asked = access_unasked the_load access is_access;
      good = subst (λ o. (elim o [ None ↦ has_other_operands frame flags Refused the_load | Some a ↦ are_access_operands frame Refused a ]) ≡ true) (sym is_access) operands_good;
      mode = subst (λ o. (elim o [ None ↦ has_other_mode the_load | Some a ↦ has_access_mode a.op a.mem ]) ≡ true) (sym is_access) refl;
      named = subst (λ o. access_constant o ≡ None) (sym is_access) refl;
      cells = subst (λ o. access_cells frame o ≡ shape_cells (elim o [ None ↦ other_shape frame flags the_load | Some a ↦ access_shape frame a ])) (sym is_access) refl;
    }
      where
        memory_call : Memory ≡ Call → ⊥
        memory_call e = absurd cc

  load_known : (reg : Reg) (location : RetLocation) (load : Inst) → Some load ≡ load_at reg location → is_result_at Refused reg location ≡ true
      → ((off : ℤ) (ty : IrType) → location ≡ locations.Stack off ty → is_signed_64 off ≡ true) → IsResultLoad frame flags load
  load_known reg (locations.Reg preg ty) load e good signed = absurd cc
  load_known reg (locations.Stack off ty) load e good signed =
      let form = (and_parts (type_has_load_form ty) _ good).0 in
      subst (IsResultLoad frame flags) (sym (the_one (type_has_load_form ty) form e)) (stack_load reg off ty good (signed off ty refl))
    where
      the_one : {other : Inst} (has : Bool) → has ≡ true → Some load ≡ (if has then Some other else None) → load ≡ other
      the_one true f is = cc
      the_one false f is = absurd cc

  pub result_known : (pair : CallRetPair) (load : Inst) → Some load ≡ result_load pair → are_call_defs Refused (pair ∷ []) ≡ true
      → ((off : ℤ) (ty : IrType) → pair.location ≡ locations.Stack off ty → is_signed_64 off ≡ true) → IsResultLoad frame flags load
  result_known pair load e good signed = load_known pair.vreg pair.location load e (and_parts (is_result_at Refused pair.vreg pair.location) true good).0 signed

  -- its words are those of the result
  pub result_words : (pair : CallRetPair) (load : Inst) → Some load ≡ result_load pair → IsResultLoad frame flags load → result_cells frame pair ≡ inst_cells frame flags load
  result_words pair load e known =
      ap (load_cells frame) (sym e) ∙ known.cells

  pub no_result : (pair : CallRetPair) → None ≡ result_load pair → result_cells frame pair ≡ []
  no_result pair e = ap (load_cells frame) (sym e)

-- and it loads no constant
pub result_there : (frame : FrameLayout) (flags : EmitFlags) (load : Inst) → IsResultLoad frame flags load → (constants : FinMap nat_cmp (List ℕ)) → IsThere constants load
result_there frame flags load known constants = subst (λ o. IfSome o (λ addr. IsSome (get constants addr.0))) (sym known.named) tt

-- ---- the loads of results, one behind another

pub results_more : (frame : FrameLayout) (pair : CallRetPair) (defs : List CallRetPair) → map as_put (flat_map (result_cells frame) (pair ∷ defs)) ≡ map as_put (result_cells frame pair) ++ map as_put (flat_map (result_cells frame) defs)
results_more frame pair defs = ap (map as_put) (flat_map-cons (result_cells frame) pair defs) ∙ map-append as_put (result_cells frame pair) (flat_map (result_cells frame) defs)

-- each of them may be put
pub result_each : (defs : List CallRetPair) (i : ℕ) (d : CallRetPair) → are_call_defs Refused defs ≡ true → i < length defs → are_call_defs Refused (get_or defs i d ∷ []) ≡ true
result_each defs i d good h = and_from (is_result_at Refused (get_or defs i d).vreg (get_or defs i d).location) true (AllPass-from_list_all (λ (pair : CallRetPair). is_result_at Refused pair.vreg pair.location) defs good i d h) refl
