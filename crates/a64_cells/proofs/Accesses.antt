-- What is known of the modes and the steps of loads and stores without a fault.
use Rattle.std.proofs.Common.{ℕ, ℤ, pos, negsuc, ◌≡◌, ◌/◌, ◌%◌, ◌^◌, ◌⊎◌, inl, inr, Bool, true, false, List, [], ◌∷◌, length, get_or, map, Option, None, Some, refl, sym, ap, subst, arith, rules, suc, nat_cmp}
use Rattle.std.specs.Prelude.{All, ◌&&◌, ◌||◌, nat_eq, nat_lt, if◌then◌else◌, is_none, is_some, option_map, option_and_then, IfSome, IsSome}
use Rattle.std.specs.FinMap.{FinMap, empty, get}
use Rattle.std.proofs.lemmas.Bool.{false≢true, and_parts, and_from, eq-eqb, or_right, or_cases, ltb-true, ltb-false, lt-ltb}
use Rattle.std.proofs.lemmas.Int.{ints}
use Rattle.std.proofs.lemmas.List.{get_or-map}
use Rattle.a64_base.specs.declared.entity.VCodeConstant.{VCodeConstant}
use Rattle.a64_base.specs.declared.reg.Reg.{Reg}
use Rattle.std.specs.Int.RustNames.{unsigned_abs}
use Rattle.a64_base.specs.declared.shift.ExtendOp.TheVariants.{SXTX}
use Rattle.a64_base.specs.Registers.{integer_register}
use Rattle.a64_base.specs.declared.ir_type.IrType.TheVariants.{I8}
use Rattle.a64_imms.specs.Offsets.{IsOffset9}
use Rattle.a64_imms.specs.Scales.{type_bytes}
use Rattle.a64_ops.specs.Accesses.{literal_of}
use Rattle.a64_ops.specs.declared.access.AccessOp.{AccessOp}
use Rattle.a64_plan.specs.declared.step.ConstStep.{ConstStep}
use Rattle.a64_plan.specs.declared.step.ConstStep.TheVariants as steps
use Rattle.a64_plan.specs.Shapes.{IsShape}
use Rattle.a64_inst.specs.declared.emission.EmitFlags.{EmitFlags}
use Rattle.a64_inst.specs.declared.frame.FrameLayout.{FrameLayout}
use Rattle.a64_operand.specs.declared.virtuals.VirtualRegisters.TheVariants.{Refused}
use Rattle.a64_inst.specs.declared.inst.Inst.{Inst}
use Rattle.a64_inst.specs.declared.fault.OwnFault.{OwnFault}
use Rattle.a64_inst.specs.declared.fault.OwnFault.TheVariants as own
use Rattle.a64_inst.specs.declared.mode.AMode.{AMode}
use Rattle.a64_inst.specs.declared.mode.AMode.TheVariants as modes
use Rattle.a64_inst.specs.Accesses.{access_type}
use Rattle.a64_inst.specs.Constants.{step_into}
use Rattle.a64_inst.specs.Faults.{first_of, named_constant, constant_size, has_operands, is_within_constant, has_mode, has_scratch, has_constant, inst_fault}
use Rattle.a64_inst.specs.FinalModes.{FinalMode, SignedOffset, ScaledOffset, Other, held_mode, parts_of, placed_mode, final_mode}
use Rattle.a64_inst.specs.Modes.{BaseOffset, base_offset_of, is_offset9, is_scaled_offset, IsAccessSize}
use Rattle.a64_inst.specs.MemoryOperands.{is_addend, are_mode_parts, are_mode_operands, has_units, has_access_mode}
use Rattle.a64_operand.specs.Operands.{is_imm12, is_logic_of, is_register_or_stack, is_register_or_zero, is_same_register, is_wide_in}
use Rattle.a64_operand.specs.IntegerOperands.{is_kept}
use Rattle.a64_inst.proofs.Constants.{steps_good}
use Rattle.a64_inst.proofs.Good.{first_passed, operands_good}
use Rattle.a64_cells.specs.MemoryForms.{addend}
use Rattle.a64_cells.specs.Words.{CanStep, IsThere, are_held_parts}

-- ---- the mode of an instruction without a fault exists

rest_passed : (b : Bool) (fault : OwnFault) (tests : List (Bool × OwnFault)) → first_of ((b, fault) ∷ tests) ≡ None → first_of tests ≡ None
rest_passed true fault tests e = e
rest_passed false fault tests e = absurd cc

pub mode_good : (frame : FrameLayout) (flags : EmitFlags) (constants : FinMap nat_cmp (List ℕ)) (inst : Inst) → inst_fault frame flags constants Refused inst ≡ None → has_mode inst ≡ true
mode_good frame flags constants inst e =
    let size : Option ℕ = constant_size constants inst in
    first_passed (has_mode inst) own.BadMode ((has_scratch frame inst, own.ScratchConflict) ∷ (has_constant size inst, own.UnknownConstant) ∷ [])
    (rest_passed (has_operands frame flags Refused inst && is_within_constant size inst) own.BadOperand ((has_mode inst, own.BadMode) ∷ (has_scratch frame inst, own.ScratchConflict) ∷ (has_constant size inst, own.UnknownConstant) ∷ []) e)

-- and it leaves its own registers alone
pub scratch_good : (frame : FrameLayout) (flags : EmitFlags) (constants : FinMap nat_cmp (List ℕ)) (inst : Inst) → inst_fault frame flags constants Refused inst ≡ None → has_scratch frame inst ≡ true
scratch_good frame flags constants inst e =
    let size : Option ℕ = constant_size constants inst in
    first_passed (has_scratch frame inst) own.ScratchConflict ((has_constant size inst, own.UnknownConstant) ∷ [])
    (rest_passed (has_mode inst) own.BadMode ((has_scratch frame inst, own.ScratchConflict) ∷ (has_constant size inst, own.UnknownConstant) ∷ [])
    (rest_passed (has_operands frame flags Refused inst && is_within_constant size inst) own.BadOperand ((has_mode inst, own.BadMode) ∷ (has_scratch frame inst, own.ScratchConflict) ∷ (has_constant size inst, own.UnknownConstant) ∷ []) e))

-- the constant that such an instruction loads is there
pub constant_there : (frame : FrameLayout) (flags : EmitFlags) (constants : FinMap nat_cmp (List ℕ)) (inst : Inst) → inst_fault frame flags constants Refused inst ≡ None → IsThere constants inst
constant_there frame flags constants inst e =
    let size : Option ℕ = constant_size constants inst in
    there (named_constant inst)
    (first_passed (has_constant size inst) own.UnknownConstant []
    (rest_passed (has_scratch frame inst) own.ScratchConflict ((has_constant size inst, own.UnknownConstant) ∷ [])
    (rest_passed (has_mode inst) own.BadMode ((has_scratch frame inst, own.ScratchConflict) ∷ (has_constant size inst, own.UnknownConstant) ∷ [])
    (rest_passed (has_operands frame flags Refused inst && is_within_constant size inst) own.BadOperand ((has_mode inst, own.BadMode) ∷ (has_scratch frame inst, own.ScratchConflict) ∷ (has_constant size inst, own.UnknownConstant) ∷ []) e))))
  where
    is_there : (content : Option (List ℕ)) → is_some (option_map length content) ≡ true → IsSome content
    is_there None h = absurd (false≢true h)
    is_there (Some bytes) h = refl

    there : (o : Option VCodeConstant) → (is_none o || is_some (option_and_then (λ addr. option_map length (get constants addr.0)) o)) ≡ true → IfSome o (λ addr. IsSome (get constants addr.0))
    there None h = tt
    there (Some addr) h = is_there (get constants addr.0) h

-- ---- the sizes of accesses

pub access_size : (op : AccessOp) → IsAccessSize (type_bytes (access_type op))
access_size op = search rules

pub byte_size : IsAccessSize (type_bytes I8)
byte_size = inl refl

-- ---- the mode that stands in the instruction has its parts in their sets

pub offset9 : (z : ℤ) → is_offset9 z ≡ true → IsOffset9 z
offset9 (pos n) e = let l = ltb-true n 256 e in record { low = omega (arith, ints); high = omega (arith, ints) }
offset9 (negsuc n) e = let l = ltb-true n 256 e in record { low = omega (arith, ints); high = omega (arith, ints) }

pub base_good : (frame : FrameLayout) (mem : AMode) (place : BaseOffset) → base_offset_of frame mem ≡ Some place → are_mode_parts Refused mem ≡ true → is_register_or_stack Refused place.base ≡ true
base_good frame (modes.RegOffset rn off) place e good = let same : rn ≡ place.base = ap (λ (p : BaseOffset). p.base) (some_eq e) in subst (λ (r : Reg). is_register_or_stack Refused r ≡ true) same good
  where
    some_eq : {p q : BaseOffset} → Some p ≡ Some q → p ≡ q
    some_eq f = cc
base_good frame (modes.SPOffset off) place e good = subst (λ (p : BaseOffset). is_register_or_stack Refused p.base ≡ true) (some_eq e) refl
  where
    some_eq : {p q : BaseOffset} → Some p ≡ Some q → p ≡ q
    some_eq f = cc
base_good frame (modes.FPOffset off) place e good = subst (λ (p : BaseOffset). is_register_or_stack Refused p.base ≡ true) (some_eq e) refl
  where
    some_eq : {p q : BaseOffset} → Some p ≡ Some q → p ≡ q
    some_eq f = cc
base_good frame (modes.IncomingArg off) place e good = subst (λ (p : BaseOffset). is_register_or_stack Refused p.base ≡ true) (some_eq e) refl
  where
    some_eq : {p q : BaseOffset} → Some p ≡ Some q → p ≡ q
    some_eq f = cc
base_good frame (modes.SlotOffset off) place e good = subst (λ (p : BaseOffset). is_register_or_stack Refused p.base ≡ true) (some_eq e) refl
  where
    some_eq : {p q : BaseOffset} → Some p ≡ Some q → p ≡ q
    some_eq f = cc
base_good frame _ place e good = absurd cc

kept_good : (op : AccessOp) (mem : AMode) → are_mode_parts Refused mem ≡ true → has_units (type_bytes (access_type op)) mem ≡ true → has_access_mode op mem ≡ true → are_held_parts op (parts_of (held_mode true mem)) ≡ true
kept_good op (modes.Unscaled rn simm9) a b c = a
kept_good op (modes.UnsignedOffset rn uimm12) a b c = and_from (is_register_or_stack Refused rn) _ a b
kept_good op (modes.RegReg rn rm) a b c = and_from _ _ a c
kept_good op (modes.RegScaled rn rm) a b c = and_from _ _ a c
kept_good op (modes.RegScaledExtended rn rm extendop) a b c = and_from _ _ a c
kept_good op (modes.RegExtended rn rm extendop) a b c = and_from _ _ a c
kept_good op (modes.Label label) a b c = and_from _ _ a c
kept_good op (modes.Const addr) a b c = and_from true (is_some (literal_of op)) refl c
kept_good op (modes.SPPreIndexed simm9) a b c = and_from _ _ a c
kept_good op (modes.SPPostIndexed simm9) a b c = and_from _ _ a c
kept_good op (modes.FPOffset off) a b c = and_from _ _ a c
kept_good op (modes.SPOffset off) a b c = and_from _ _ a c
kept_good op (modes.IncomingArg off) a b c = and_from _ _ a c
kept_good op (modes.SlotOffset off) a b c = and_from _ _ a c
kept_good op (modes.RegOffset rn off) a b c = and_from _ _ a c

placed_good : (op : AccessOp) (place : BaseOffset) → is_register_or_stack Refused place.base ≡ true → are_held_parts op (placed_mode (access_type op) place) ≡ true
placed_good op place base = go (is_offset9 place.offset) (is_scaled_offset (access_type op) place.offset) refl refl
  where
    go : (near in_set : Bool) → is_offset9 place.offset ≡ near → is_scaled_offset (access_type op) place.offset ≡ in_set → are_held_parts op (placed_mode (access_type op) place) ≡ true
    go true in_set e f = rw e (and_from (is_register_or_stack Refused place.base) (is_offset9 place.offset) base e)
    go false true e f = rw e (rw f (and_from (is_register_or_stack Refused place.base) _ base (or_right _ _ (eq-eqb (type_bytes (access_type op)) (type_bytes (access_type op)) refl))))
    go false false e f = rw e (rw f (and_from _ true (and_from (is_register_or_stack Refused place.base) true base refl) refl))

-- by the parts of the mode alone
pub parts_good : (op : AccessOp) (frame : FrameLayout) (mem : AMode) → are_mode_parts Refused mem ≡ true → has_units (type_bytes (access_type op)) mem ≡ true → has_access_mode op mem ≡ true → are_held_parts op (final_mode frame (access_type op) mem) ≡ true
parts_good op frame mem parts units mode = go (base_offset_of frame mem) refl
  where
    go : (o : Option BaseOffset) → base_offset_of frame mem ≡ o → are_held_parts op (final_mode frame (access_type op) mem) ≡ true
    go None e = subst (λ o. are_held_parts op (elim o [ None ↦ parts_of (held_mode true mem) | Some place ↦ placed_mode (access_type op) place ]) ≡ true) (sym e) (kept_good op mem parts units mode)
    go (Some place) e =
        subst (λ o. are_held_parts op (elim o [ None ↦ parts_of (held_mode true mem) | Some p ↦ placed_mode (access_type op) p ]) ≡ true) (sym e)
        (placed_good op place (base_good frame mem place e parts))

pub held_good : (op : AccessOp) (frame : FrameLayout) (mem : AMode) → are_mode_operands frame Refused mem ≡ true → has_units (type_bytes (access_type op)) mem ≡ true → has_access_mode op mem ≡ true → are_held_parts op (final_mode frame (access_type op) mem) ≡ true
unfolding are_mode_operands
held_good op frame mem operands units mode = parts_good op frame mem (and_parts (are_mode_parts Refused mem) _ operands).0 units mode

-- ---- the steps of a plan can be made

can_step : (frame : FrameLayout) (flags : EmitFlags) (rd : Reg) (step : ConstStep) → has_operands frame flags Refused (step_into rd step) ≡ true → CanStep step
can_step frame flags rd (steps.MovZ imm size) e = (and_parts (is_register_or_zero Refused rd) (is_wide_in size imm) e).1
can_step frame flags rd (steps.MovN imm size) e = (and_parts (is_register_or_zero Refused rd) (is_wide_in size imm) e).1
can_step frame flags rd (steps.MovK imm size) e =
    let (_, rest) = and_parts (is_register_or_zero Refused rd) (is_register_or_zero Refused rd && is_kept rd rd imm size) e in
    let (_, kept) = and_parts (is_register_or_zero Refused rd) (is_kept rd rd imm size) rest in
    (and_parts (is_same_register rd rd) (is_wide_in size imm) kept).1
can_step frame flags rd (steps.Orr imm) e = (and_parts (is_register_or_stack Refused rd) (is_logic_of imm.size imm) e).1

-- any frame and settings
abbrev some_frame : FrameLayout
some_frame = record { setup_area_size = 0; tail_args_size = 0; clobber_size = 0; fixed_frame_storage_size = 0; outgoing_args_size = 0; restore = [] }

abbrev some_flags : EmitFlags
some_flags = record { enable_probestack = false; enable_table_access_spectre_mitigation = false; use_csdb = false }

-- any register
abbrev some_register : Reg
some_register = integer_register 0

pub can_steps : (plan : List ConstStep) → (plan ≡ []) ⊎ IsShape plan → All CanStep plan
can_steps plan (inl none) = λ k d w. absurd (omega (arith, w, ap length none))
can_steps plan (inr is) = λ k d w.
    let good = steps_good some_register plan refl is some_frame some_flags empty Refused k (step_into some_register d) (omega (arith, w, length_map plan)) in
    let there = get_or-map (step_into some_register) plan k d (step_into some_register d) w in
    can_step some_frame some_flags some_register (get_or plan k d)
    (operands_good some_frame some_flags empty Refused (step_into some_register (get_or plan k d)) (subst (λ (i : Inst). inst_fault some_frame some_flags empty Refused i ≡ None) there good))
  where
    length_map : (xs : List ConstStep) → length (map (step_into some_register) xs) ≡ length xs
    length_map [] = refl
    length_map (x ∷ xs) = ap suc (length_map xs)

-- ---- addresses

-- the registers of a mode whose address is taken
abbrev pub are_address_parts : FinalMode → Bool
are_address_parts (SignedOffset rn offset) = is_register_or_stack Refused rn
are_address_parts (ScaledOffset rn offset ty) = is_register_or_stack Refused rn
are_address_parts (Other (modes.RegExtended rn rm extendop)) = is_register_or_stack Refused rn && is_register_or_zero Refused rm
are_address_parts (Other _) = true

kept_address : (mem : AMode) → are_mode_parts Refused mem ≡ true → are_address_parts (parts_of (held_mode true mem)) ≡ true
kept_address (modes.Unscaled rn simm9) a = (and_parts (is_register_or_stack Refused rn) _ a).0
kept_address (modes.UnsignedOffset rn uimm12) a = a
kept_address (modes.RegExtended rn rm extendop) a = a
kept_address _ a = refl

placed_address : (place : BaseOffset) → is_register_or_stack Refused place.base ≡ true → are_address_parts (placed_mode I8 place) ≡ true
placed_address place base = go (is_offset9 place.offset) (is_scaled_offset I8 place.offset)
  where
    go : (near in_set : Bool) → are_address_parts (if near then SignedOffset place.base place.offset else if in_set then ScaledOffset place.base (unsigned_abs place.offset) I8 else Other (modes.RegExtended place.base (integer_register 16) SXTX)) ≡ true
    go true in_set = base
    go false true = base
    go false false = and_from (is_register_or_stack Refused place.base) true base refl

pub address_good : (frame : FrameLayout) (mem : AMode) → are_mode_operands frame Refused mem ≡ true → are_address_parts (final_mode frame I8 mem) ≡ true
unfolding are_mode_operands
address_good frame mem operands = go (base_offset_of frame mem) refl
  where
    parts : are_mode_parts Refused mem ≡ true
    parts = (and_parts (are_mode_parts Refused mem) _ operands).0

    go : (o : Option BaseOffset) → base_offset_of frame mem ≡ o → are_address_parts (final_mode frame I8 mem) ≡ true
    go None e = subst (λ o. are_address_parts (elim o [ None ↦ parts_of (held_mode true mem) | Some place ↦ placed_mode I8 place ]) ≡ true) (sym e) (kept_address mem parts)
    go (Some place) e = subst (λ o. are_address_parts (elim o [ None ↦ parts_of (held_mode true mem) | Some p ↦ placed_mode I8 p ]) ≡ true) (sym e) (placed_address place (base_good frame mem place e parts))

-- ---- the immediate of an addition

pub addend_good : (n : ℕ) → is_addend n ≡ true → is_imm12 (addend n) ≡ true
addend_good n e = go (nat_lt n 4096) refl
  where
    go : (low : Bool) → nat_lt n 4096 ≡ low → is_imm12 (if low then record { bits = n; shift12 = false } else record { bits = n / 4096; shift12 = true }) ≡ true
    go true f = f
    go false f = lt-ltb (n / 4096) 4096 (elim (or_cases (nat_lt n 4096) (nat_lt n (2 ^ 24) && nat_eq (n % 4096) 0) e) [
      | inl t ↦ let a = ltb-true n 4096 t in let b = ltb-false n 4096 f in absurd (omega (arith, a, b))
      | inr t ↦ let a = ltb-true n (2 ^ 24) (and_parts (nat_lt n (2 ^ 24)) (nat_eq (n % 4096) 0) t).0 in omega (arith, a)
    ])
