-- The forms of calls, and of returns that call another function, are forms of their rows.
use Rattle.std.proofs.Common.{ℕ, ℤ, pos, ◌≡◌, ◌-ℤ◌, Bool, true, false, List, [], ◌∷◌, ◌++◌, Option, None, Some, refl, lit<}
use Rattle.std.specs.Prelude.{All, ◌||◌, nat_eq, nat_lt, if◌then◌else◌}
use Rattle.std.specs.Ordering.{int_eq}
use Rattle.std.specs.Int.RustNames.{unsigned_abs}
use Rattle.std.proofs.lemmas.List.Elements.{All-nil, All-cons, All-append}
use Rattle.a64_base.specs.declared.ir_type.IrType.TheVariants.{I64}
use Rattle.a64_base.specs.declared.key.APIKey.{APIKey}
use Rattle.a64_base.specs.declared.reg.Reg.{Reg}
use Rattle.a64_base.specs.declared.shift.ExtendOp.TheVariants.{UXTX}
use Rattle.a64_base.specs.declared.size.OperandSize.TheVariants.{Size64}
use Rattle.a64_base.specs.declared.target.BranchTarget.TheVariants.{ResolvedOffset}
use Rattle.a64_base.specs.Registers.{integer_register}
use Rattle.a64_plan.specs.Plans.{plan_of}
use Rattle.a64_inst.specs.declared.frame.FrameLayout.{FrameLayout}
use Rattle.a64_inst.specs.declared.mode.PairAMode.TheVariants.{SPPostIndexed}
use Rattle.a64_inst.specs.MemoryOperands.{is_addend}
use Rattle.a64_rows.specs.Forms.{Form, IsFormOf}
use Rattle.a64_cells.specs.declared.callee.Callee.{Callee}
use Rattle.a64_cells.specs.declared.callee.Callee.TheVariants.{Symbol, Address}
use Rattle.a64_cells.specs.Cells.{adjust_forms, call_form, frame_forms, key_forms, leave_forms, return_form}
use Rattle.a64_cells.specs.ControlForms.{auti_form}
use Rattle.a64_cells.specs.IntegerForms.{alu_rrr_extend_form}
use Rattle.a64_cells.specs.MemoryForms.{addend, addend_form, offset_register, pair_form, step_forms, sum_op}
use Rattle.a64_cells.proofs.Accesses.{addend_good}
use Rattle.a64_cells.proofs.AccessForms.{shape_forms, pair_word_is_form}
use Rattle.a64_cells.proofs.BranchForms.{auti_is_form, branch_link_is_form, branch_link_register_is_form, indirect_br_is_form, jump_is_form}
use Rattle.a64_cells.proofs.ImmediateForms.{alu_rr_imm12_is_form}
use Rattle.a64_cells.proofs.RegisterForms.{alu_rrr_extend_is_form}
use Rattle.a64_emit.proofs.SequenceForms.{one_form, plan_shape}

abbrev stack : Reg
stack = integer_register 63

-- ---- the stack pointer moves

pub adjust_are_forms : (amount : ℤ) → All IsFormOf (adjust_forms amount)
adjust_are_forms amount = go (int_eq amount (pos 0)) (is_addend (unsigned_abs amount)) refl
  where
    steps : List Form
    steps = step_forms offset_register (plan_of (unsigned_abs amount))

    last : Form
    last = alu_rrr_extend_form (sum_op amount) Size64 stack stack offset_register UXTX

    go : (none small : Bool) → is_addend (unsigned_abs amount) ≡ small → All IsFormOf (if none then [] else if small then addend_form stack stack amount ∷ [] else steps ++ last ∷ [])
    go true small e = All-nil IsFormOf
    go false true e =
        let imm = addend (unsigned_abs amount) in
        one_form (addend_form stack stack amount) (alu_rr_imm12_is_form (sum_op amount) Size64 stack stack imm (addend_good (unsigned_abs amount) e))
    go false false e =
        All-append IsFormOf steps (last ∷ []) (shape_forms offset_register (plan_of (unsigned_abs amount)) (plan_shape (unsigned_abs amount)))
        (one_form last (alu_rrr_extend_is_form (sum_op amount) Size64 stack stack offset_register UXTX))

-- ---- calls

pub call_is_form : (callee : Callee) → IsFormOf (call_form callee)
call_is_form (Symbol name) = branch_link_is_form
call_is_form (Address reg) = branch_link_register_is_form reg

-- ---- returns that call

frame_are_forms : (setup : ℕ) → All IsFormOf (frame_forms setup)
frame_are_forms setup = go (nat_eq setup 0)
  where
    restoring : Form
    restoring = pair_form 1 (integer_register 29) (integer_register 30) (SPPostIndexed (record { value = pos setup; scale_ty = I64 }))

    go : (none : Bool) → All IsFormOf (if none then [] else restoring ∷ [])
    go true = All-nil IsFormOf
    go false = one_form restoring (pair_word_is_form 1 1 stack (record { value = pos setup; scale_ty = I64 }) (integer_register 29) (integer_register 30) (lit< tt) (lit< tt) refl)

key_are_forms : (setup : ℕ) (all : Bool) (key : Option APIKey) → All IsFormOf (key_forms setup all key)
key_are_forms setup all None = All-nil IsFormOf
key_are_forms setup all (Some key) = go (nat_lt 0 setup || all)
  where
    go : (signed : Bool) → All IsFormOf (if signed then auti_form key ∷ [] else [])
    go true = one_form (auti_form key) (auti_is_form key)
    go false = All-nil IsFormOf

pub leave_are_forms : (frame : FrameLayout) (size : ℕ) (key : Option APIKey) (all : Bool) → All IsFormOf (leave_forms frame size key all)
leave_are_forms frame size key all =
    let moved : ℤ = pos frame.tail_args_size -ℤ pos size in
    All-append IsFormOf (frame_forms frame.setup_area_size ++ adjust_forms moved) (key_forms frame.setup_area_size all key)
    (All-append IsFormOf (frame_forms frame.setup_area_size) (adjust_forms moved) (frame_are_forms frame.setup_area_size) (adjust_are_forms moved))
    (key_are_forms frame.setup_area_size all key)

pub return_is_form : (callee : Callee) → IsFormOf (return_form callee)
return_is_form (Symbol name) = jump_is_form (ResolvedOffset (pos 0))
return_is_form (Address reg) = indirect_br_is_form reg
