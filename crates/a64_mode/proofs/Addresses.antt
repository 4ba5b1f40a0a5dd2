-- What stands for a base and an offset has their address.
use Rattle.std.proofs.Common.{ℕ, ℤ, pos, negsuc, ◌≡◌, ◌<◌, ◌+◌, ◌-◌, ◌*◌, ◌%◌, ◌^◌, ◌⊎◌, inl, inr, ◌+ℤ◌, Bool, true, false, if◌then◌else◌, Some, List, [], refl, ap, ap₂, subst, ◌∙◌, sym, arith}
use Rattle.std.proofs.lemmas.Int.{ints}
use Rattle.std.proofs.lemmas.Bool.{cases_lt}
use Rattle.std.specs.Prelude.{option_map}
use Rattle.a64_base.specs.declared.reg.Reg.{Reg}
use Rattle.a64_base.specs.declared.ir_type.IrType.{IrType}
use Rattle.a64_base.specs.Registers.{integer_register}
use Rattle.a64_imms.specs.Offsets.{residue}
use Rattle.a64_imms.specs.ScaledOffsets.{uimm12_value}
use Rattle.a64_plan.specs.declared.step.ConstStep.{ConstStep}
use Rattle.a64_plan.specs.Machine.{after_all}
use Rattle.a64_plan.specs.Shapes.{Leave}
use Rattle.a64_plan.specs.Plans.{plan_of}
use Rattle.a64_plan.proofs.Shortest.{plan_shortest}
use Rattle.a64_inst.specs.declared.mode.AMode.{AMode}
use Rattle.a64_inst.specs.declared.mode.AMode.TheVariants.{RegReg, RegScaled, RegScaledExtended, RegExtended, Unscaled, UnsignedOffset, Label, SPPreIndexed, SPPostIndexed, FPOffset, SPOffset, IncomingArg, SlotOffset, RegOffset, Const}
use Rattle.a64_inst.specs.Modes.{BaseOffset, is_far, steps_to, StandsFor}
use Rattle.a64_inst.specs.Addresses.{is_numbered, index_in, extended, displaced, indexed, after_steps, Reaches}

-- a sum modulo 2^64
wrapped_sum : (n : ℕ) (z : ℤ) → (n + residue (2 ^ 64) z * 1) % 2 ^ 64 ≡ residue (2 ^ 64) (pos n +ℤ z)
wrapped_sum n (pos m) = omega arith
wrapped_sum n (negsuc m) = elim (cases_lt m n) [
  | inl less ↦ let e : (pos n +ℤ negsuc m) ≡ pos (n - 1 - m) = omega (arith, ints) in rw e (omega arith)
  | inr more ↦ let e : (pos n +ℤ negsuc m) ≡ negsuc (m - n) = omega (arith, ints) in rw e (omega arith)
]

residue_fits : (z : ℤ) → residue (2 ^ 64) z < 2 ^ 64
residue_fits (pos m) = omega arith
residue_fits (negsuc m) = omega arith

either_way : (b : Bool) (n : ℕ) → (if b then n else n) ≡ n
either_way true n = refl
either_way false n = refl

-- the steps keep the base
base_stays : (base : Reg) (steps : List ConstStep) (regs : Reg → ℕ) → (steps ≡ []) ⊎ (is_numbered 16 base ≡ false)
    → after_steps steps regs base ≡ regs base
base_stays base steps regs (inl none) = ap (λ s. after_steps s regs base) none ∙ either_way (is_numbered 16 base) (regs base)
base_stays base steps regs (inr other) = ap (λ (b : Bool). if b then after_all steps (regs base) else regs base) other

-- a base plus an offset that the mode holds
displaced_right : (place : BaseOffset) (rn : Reg) (offset : ℤ) (steps : List ConstStep) (regs : Reg → ℕ)
    → rn ≡ place.base → offset ≡ place.offset → (steps ≡ []) ⊎ (is_numbered 16 place.base ≡ false)
    → displaced (after_steps steps regs) rn offset ≡ displaced regs place.base place.offset
displaced_right place rn offset steps regs base same free =
    ap₂ (λ (n : ℕ) (z : ℤ). residue (2 ^ 64) (pos n +ℤ z))
    (ap (after_steps steps regs) base ∙ base_stays place.base steps regs free) same

-- a base plus an offset that the steps have left in x16
indexed_right : (place : BaseOffset) (rn : Reg) (steps : List ConstStep) (regs : Reg → ℕ)
    → rn ≡ place.base → Leave steps (residue (2 ^ 64) place.offset) → (steps ≡ []) ⊎ (is_numbered 16 place.base ≡ false)
    → indexed (after_steps steps regs) rn 1 (index_in (after_steps steps regs) (integer_register 16)) ≡ displaced regs place.base place.offset
indexed_right place rn steps regs base leave free =
    ap₂ (λ (m n : ℕ). (m + n * 1) % 2 ^ 64) (ap (after_steps steps regs) base ∙ base_stays place.base steps regs free)
    (leave (regs (integer_register 16)))
    ∙ wrapped_sum (regs place.base) place.offset

far_leaves : (access_ty : IrType) (offset : ℤ) → is_far access_ty offset ≡ true → Leave (steps_to access_ty offset) (residue (2 ^ 64) offset)
far_leaves access_ty offset far =
    let plan : steps_to access_ty offset ≡ plan_of (residue (2 ^ 64) offset) =
    ap (λ (b : Bool). if b then plan_of (residue (2 ^ 64) offset) else []) far in
    subst (λ s. Leave s (residue (2 ^ 64) offset)) (sym plan) (plan_shortest (residue (2 ^ 64) offset) (residue_fits offset)).leave

pub reaches : (access_ty : IrType) (place : BaseOffset) (mode : AMode) → StandsFor access_ty place mode
    → Reaches access_ty place (steps_to access_ty place.offset) mode
reaches access_ty place (Unscaled rn simm9) (near, base, value) = λ regs free.
    ap Some (displaced_right place rn simm9.value (steps_to access_ty place.offset) regs base value free)
reaches access_ty place (UnsignedOffset rn uimm12) (near, in_set, base, value, scale) = λ regs free.
    ap Some (displaced_right place rn (pos (uimm12_value uimm12)) (steps_to access_ty place.offset) regs base value free)
reaches access_ty place (RegExtended rn rm extendop) (far, base, index, extend) = λ regs free.
    let steps = steps_to access_ty place.offset in
    ap₂ (λ r op. option_map (indexed (after_steps steps regs) rn 1) (extended op (index_in (after_steps steps regs) r))) index extend
    ∙ ap Some (indexed_right place rn steps regs base (far_leaves access_ty place.offset far) free)
reaches access_ty place (RegReg rn rm) is = elim is [ ]
reaches access_ty place (RegScaled rn rm) is = elim is [ ]
reaches access_ty place (RegScaledExtended rn rm extendop) is = elim is [ ]
reaches access_ty place (Label label) is = elim is [ ]
reaches access_ty place (SPPreIndexed simm9) is = elim is [ ]
reaches access_ty place (SPPostIndexed simm9) is = elim is [ ]
reaches access_ty place (FPOffset off) is = elim is [ ]
reaches access_ty place (SPOffset off) is = elim is [ ]
reaches access_ty place (IncomingArg off) is = elim is [ ]
reaches access_ty place (SlotOffset off) is = elim is [ ]
reaches access_ty place (RegOffset rn off) is = elim is [ ]
reaches access_ty place (Const addr) is = elim is [ ]
