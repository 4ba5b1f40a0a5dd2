-- Which tests of faults an instruction of a group can fail.
use Rattle.std.proofs.Common.{ℕ, ◌≡◌, Bool, true, false, ◌&&◌, List, [], ◌∷◌, Option, None, refl, ap₂, ◌∙◌}
use Rattle.a64_inst.specs.declared.emission.EmitFlags.{EmitFlags}
use Rattle.a64_inst.specs.declared.frame.FrameLayout.{FrameLayout}
use Rattle.a64_operand.specs.declared.virtuals.VirtualRegisters.{VirtualRegisters}
use Rattle.a64_inst.specs.declared.inst.Inst.{Inst}
use Rattle.a64_inst.specs.declared.inst.Inst.TheVariants as insts
use Rattle.a64_inst.specs.declared.fault.OwnFault.{OwnFault}
use Rattle.a64_inst.specs.declared.fault.OwnFault.TheVariants as own
use Rattle.a64_inst.specs.declared.group.Group.{Group}
use Rattle.a64_inst.specs.declared.group.Group.TheVariants.{Call, Memory}
use Rattle.a64_inst.specs.Groups.{group_of}
use Rattle.a64_inst.specs.Accesses.{access_of}
use Rattle.a64_inst.specs.Faults.{first_of, fault_with, has_operands, is_within_constant, has_mode, has_scratch, named_constant, has_constant}

-- a group of whose instructions only the operands can be wrong: they have no addressing mode, and need no scratch register
abbrev pub has_operands_only : Group → Bool
has_operands_only Call = false
has_operands_only Memory = false
has_operands_only _ = true

-- ---- tests that pass

no_access : (inst : Inst) → has_operands_only (group_of inst) ≡ true → access_of inst ≡ None
no_access insts.Nop0 e = refl
no_access _ e = cc

with_mode : (inst : Inst) → has_operands_only (group_of inst) ≡ true → has_mode inst ≡ true
with_mode (insts.LoadAddr rd mem) e = absurd cc
with_mode _ e = cc

with_scratch : (frame : FrameLayout) (inst : Inst) → has_operands_only (group_of inst) ≡ true → has_scratch frame inst ≡ true
with_scratch frame (insts.LoadAddr rd mem) e = absurd cc
with_scratch frame _ e = cc

-- ---- lists of tests

abbrev tests_of : (a m s : Bool) → List (Bool × OwnFault)
tests_of a m s = (a, own.BadOperand) ∷ (m, own.BadMode) ∷ (s, own.ScratchConflict) ∷ []

-- the tests of a constant pass
with_constant : (a m s : Bool) → first_of ((a && true, own.BadOperand) ∷ (m, own.BadMode) ∷ (s, own.ScratchConflict) ∷ (true, own.UnknownConstant) ∷ []) ≡ first_of (tests_of a m s)
with_constant true true true = refl
with_constant true true false = refl
with_constant true false s = refl
with_constant false m s = refl

only_first : (a : Bool) → first_of (tests_of a true true) ≡ first_of ((a, own.BadOperand) ∷ [])
only_first true = refl
only_first false = refl

module _ (frame : FrameLayout) (flags : EmitFlags) (size : Option ℕ) (virtuals : VirtualRegisters) where
  -- only a load of one register loads a constant
  pub three_tests : (inst : Inst) → access_of inst ≡ None → fault_with frame flags size virtuals inst ≡ first_of (tests_of (has_operands frame flags virtuals inst) (has_mode inst) (has_scratch frame inst))
  three_tests inst other =
      let within : is_within_constant size inst ≡ true = rw (other, is_within_constant) refl in
      let known : has_constant size inst ≡ true = rw (other, named_constant) refl in
      ap₂ (λ w k. first_of ((has_operands frame flags virtuals inst && w, own.BadOperand) ∷ (has_mode inst, own.BadMode) ∷ (has_scratch frame inst, own.ScratchConflict) ∷ (k, own.UnknownConstant) ∷ [])) within known
      ∙ with_constant (has_operands frame flags virtuals inst) (has_mode inst) (has_scratch frame inst)

  -- in such a group one test is left
  pub one_test : (inst : Inst) (group : Group) → group_of inst ≡ group → has_operands_only group ≡ true
      → fault_with frame flags size virtuals inst ≡ first_of ((has_operands frame flags virtuals inst, own.BadOperand) ∷ [])
  one_test inst group is none =
      let e : has_operands_only (group_of inst) ≡ true = rw is none in
      three_tests inst (no_access inst e)
      ∙ ap₂ (λ m s. first_of (tests_of (has_operands frame flags virtuals inst) m s)) (with_mode inst e) (with_scratch frame inst e)
      ∙ only_first (has_operands frame flags virtuals inst)
