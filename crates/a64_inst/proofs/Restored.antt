-- What a frame can restore, by the faults of loads and stores.
use Rattle.std.proofs.Common.{◌≡◌, Bool, true, false, ◌&&◌, [], ◌∷◌, Option, None, Some, refl, sym, ap, ap₂, ◌∙◌}
use Rattle.std.specs.Prelude.{◌||◌, is_none}
use Rattle.std.proofs.lemmas.Bool.{and_parts}
use Rattle.a64_inst.specs.declared.access.Access.{Access}
use Rattle.a64_inst.specs.declared.emission.EmitFlags.{EmitFlags}
use Rattle.a64_inst.specs.declared.frame.FrameLayout.{FrameLayout}
use Rattle.a64_operand.specs.declared.virtuals.VirtualRegisters.{VirtualRegisters}
use Rattle.a64_inst.specs.declared.inst.Inst.{Inst}
use Rattle.a64_inst.specs.declared.inst.Inst.TheVariants as insts
use Rattle.a64_inst.specs.declared.fault.OwnFault.TheVariants as own
use Rattle.a64_inst.specs.declared.group.Group.TheVariants.{Memory}
use Rattle.a64_inst.specs.declared.mode.AMode.{AMode}
use Rattle.a64_inst.specs.declared.mode.AMode.TheVariants as modes
use Rattle.a64_inst.specs.declared.mode.MemLabel.TheVariants.{PCRel, Mach, Pool}
use Rattle.a64_inst.specs.Accesses.{access_of}
use Rattle.a64_inst.specs.Groups.{group_of}
use Rattle.a64_inst.specs.Lone.{is_lone, is_lone_access, is_lone_other, is_no_use}
use Rattle.a64_inst.specs.MemoryOperands as memory
use Rattle.a64_inst.specs.Modes.{constant_in}
use Rattle.a64_inst.specs.Faults.{first_of, fault_with, has_plain_operands, has_other_operands, has_operands, is_within_constant, has_mode, has_scratch, named_constant, has_constant, can_restore}

-- an access that is no use loads no constant
no_use_constant : (mem : AMode) → is_no_use mem ≡ true → constant_in mem ≡ None
no_use_constant (modes.Const addr) e = absurd cc
no_use_constant (modes.Label (Pool addr)) e = absurd cc
no_use_constant (modes.Label (Mach label)) e = refl
no_use_constant (modes.Label (PCRel offset)) e = refl
no_use_constant (modes.RegReg rn rm) e = refl
no_use_constant _ e = refl

-- nor does an instruction that is one word without a use
pub lone_constant : (frame : FrameLayout) (inst : Inst) → is_lone frame inst ≡ true → named_constant inst ≡ None
lone_constant frame inst e = at (access_of inst) refl
  where
    at : (o : Option Access) → access_of inst ≡ o → named_constant inst ≡ None
    at None is = rw (is, named_constant) refl
    at (Some access) is =
        let lone : is_lone_access frame access ≡ true = ap (λ o. elim o [ None ↦ is_lone_other frame inst | Some a ↦ is_lone_access frame a ]) (sym is) ∙ e in
        rw (is, named_constant) (no_use_constant access.mem (and_parts (is_no_use access.mem) _ lone).0)

-- a load or a store is no call
plain_memory : (frame : FrameLayout) (flags : EmitFlags) (virtuals : VirtualRegisters) (inst : Inst) → group_of inst ≡ Memory → has_other_operands frame flags virtuals inst ≡ has_plain_operands frame flags virtuals inst
plain_memory frame flags virtuals (insts.LoadAddr rd mem) e = refl
plain_memory frame flags virtuals _ e = cc

-- the four tests pass where three do
none_first : (a m s : Bool) → is_none (first_of ((a && true, own.BadOperand) ∷ (m, own.BadMode) ∷ (s, own.ScratchConflict) ∷ (true, own.UnknownConstant) ∷ [])) ≡ (a && (m && s))
none_first true true true = refl
none_first true true false = refl
none_first true false s = refl
none_first false m s = refl

module _ (frame : FrameLayout) (flags : EmitFlags) (virtuals : VirtualRegisters) (inst : Inst) where
  -- a load or a store of one word without a use can be restored where it has no fault
  pub restored_memory : group_of inst ≡ Memory → is_lone frame inst ≡ true → is_none (fault_with frame flags None virtuals inst) ≡ can_restore frame flags virtuals inst
  restored_memory group lone =
      let within : is_within_constant None inst ≡ true = within_none (access_of inst) refl in
      let known : has_constant None inst ≡ true = rw (lone_constant frame inst lone, has_constant) refl in
      ap₂ (λ w k. is_none (first_of ((has_operands frame flags virtuals inst && w, own.BadOperand) ∷ (has_mode inst, own.BadMode) ∷ (has_scratch frame inst, own.ScratchConflict) ∷ (k, own.UnknownConstant) ∷ []))) within known
      ∙ none_first (has_operands frame flags virtuals inst) (has_mode inst) (has_scratch frame inst)
      ∙ ap (λ a. a && (has_mode inst && has_scratch frame inst)) (operands (access_of inst))
      ∙ ap (λ l. l && (own_operands && (has_mode inst && has_scratch frame inst))) (sym lone)
    where
      own_operands : Bool
      own_operands = elim (access_of inst) [ None ↦ has_plain_operands frame flags virtuals inst | Some access ↦ memory.are_access_operands frame virtuals access ]

      within_none : (o : Option Access) → access_of inst ≡ o → is_within_constant None inst ≡ true
      within_none None is = rw (is, is_within_constant) refl
      within_none (Some access) is = rw (is, is_within_constant) (or_true (is_none (constant_in access.mem)) _)
        where
          or_true : (a b : Bool) → (a || b || true) ≡ true
          or_true true true = refl
          or_true true false = refl
          or_true false true = refl
          or_true false false = refl

      operands : (o : Option Access) → (elim o as (λ x. Bool) [ None ↦ has_other_operands frame flags virtuals inst | Some access ↦ memory.are_access_operands frame virtuals access ]) ≡ (elim o as (λ x. Bool) [ None ↦ has_plain_operands frame flags virtuals inst | Some access ↦ memory.are_access_operands frame virtuals access ])
      operands None = plain_memory frame flags virtuals inst group
      operands (Some access) = refl
