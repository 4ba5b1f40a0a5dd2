-- What is wrong with the load of a constant.
use Rattle.std.proofs.Common.{ℕ, ◌≡◌, Bool, true, false, ◌&&◌, ◌||◌, is_none, is_some, List, [], ◌∷◌, Option, Some, refl, sym, subst}
use Rattle.a64_base.specs.declared.entity.VCodeConstant.{VCodeConstant}
use Rattle.a64_ops.specs.Accesses.{literal_of}
use Rattle.a64_inst.specs.declared.access.Access.{Access}
use Rattle.a64_inst.specs.declared.emission.EmitFlags.{EmitFlags}
use Rattle.a64_inst.specs.declared.frame.FrameLayout.{FrameLayout}
use Rattle.a64_operand.specs.declared.virtuals.VirtualRegisters.{VirtualRegisters}
use Rattle.a64_inst.specs.declared.inst.Inst.{Inst}
use Rattle.a64_inst.specs.declared.fault.OwnFault.{OwnFault}
use Rattle.a64_inst.specs.declared.fault.OwnFault.TheVariants as own
use Rattle.a64_inst.specs.declared.mode.AMode.{AMode}
use Rattle.a64_inst.specs.declared.mode.AMode.TheVariants.{Const}
use Rattle.a64_inst.specs.Accesses.{access_of}
use Rattle.a64_inst.specs.Modes.{constant_in}
use Rattle.a64_inst.specs.MemoryOperands.{is_data_register, are_mode_operands, are_access_operands, has_access_mode, has_access_scratch, is_within, is_within_size}
use Rattle.a64_inst.specs.Faults.{first_of, fault_with, has_operands, is_within_constant, has_mode, has_scratch, named_constant, has_constant}

-- a mode without parts adds no test
no_parts : (d w l k : Bool) → first_of ((d && w, own.BadOperand) ∷ (l, own.BadMode) ∷ (k, own.UnknownConstant) ∷ [])
    ≡ first_of (((d && true) && w, own.BadOperand) ∷ (l, own.BadMode) ∷ (true, own.ScratchConflict) ∷ (k, own.UnknownConstant) ∷ [])
no_parts true true true k = refl
no_parts true true false k = refl
no_parts true false l k = refl
no_parts false w l k = refl

module _ (frame : FrameLayout) (size : Option ℕ) (virtuals : VirtualRegisters) where
  -- the tests of a load of a constant
  abbrev pub pool_tests : Access → List (Bool × OwnFault)
  pool_tests access =
      (is_data_register virtuals access.op access.reg && (is_none (literal_of access.op) || is_within_size size access), own.BadOperand)
      ∷ (is_some (literal_of access.op), own.BadMode)
      ∷ (is_some size, own.UnknownConstant) ∷ []

  abbrev access_tests : Access → List (Bool × OwnFault)
  access_tests access =
      (are_access_operands frame virtuals access && is_within size access, own.BadOperand)
      ∷ (has_access_mode access.op access.mem, own.BadMode)
      ∷ (has_access_scratch frame access, own.ScratchConflict)
      ∷ (is_none (constant_in access.mem) || is_some size, own.UnknownConstant) ∷ []

  of_access : (access : Access) (addr : VCodeConstant) → access.mem ≡ Const addr → first_of (pool_tests access) ≡ first_of (access_tests access)
  unfolding are_access_operands are_mode_operands has_access_scratch
  of_access access addr e =
      subst (λ (mem : AMode). first_of (pool_tests access) ≡ first_of (access_tests (record access { mem = mem }))) (sym e)
      (no_parts (is_data_register virtuals access.op access.reg) (is_none (literal_of access.op) || is_within_size size access) (is_some (literal_of access.op)) (is_some size))

  pub pool_fault : (flags : EmitFlags) (inst : Inst) (access : Access) (addr : VCodeConstant) → access_of inst ≡ Some access → access.mem ≡ Const addr
      → first_of (pool_tests access) ≡ fault_with frame flags size virtuals inst
  pool_fault flags inst access addr is e =
      rw (is, has_operands, is_within_constant, has_mode, has_scratch, has_constant, named_constant) (of_access access addr e)
