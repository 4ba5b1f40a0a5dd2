-- A shift of a scalar float is a name with an amount in parentheses behind it.
use Rattle.std.proofs.Common.{◌≡◌, ℕ, Bool, true, false, nat_eq, length, ◌-◌, List, Option, Some, option_map, refl, sym, ap, ◌∙◌}
use Rattle.std.specs.Prelude.{codes, slice_index}
use Rattle.a64_imms.specs.declared.fpu_shift.FPULeftShiftImm.{FPULeftShiftImm}
use Rattle.a64_imms.specs.declared.fpu_shift.FPURightShiftImm.{FPURightShiftImm}
use Rattle.a64_operand.specs.declared.fpu_op.FPUOpRI.{FPUOpRI}
use Rattle.a64_operand.specs.declared.fpu_op.FPUOpRI.TheVariants as fpu_op_ris
use Rattle.a64_operand.specs.declared.fpu_op.FPUOpRIMod.{FPUOpRIMod}
use Rattle.a64_operand.specs.declared.fpu_op.FPUOpRIMod.TheVariants as fpu_op_ri_mods
use Rattle.a64_read.specs.FloatShifts.{fpu_op_ri_mod_parts, fpu_op_ri_parts, left_amount_text, right_amount_text, IsFpuOpRI, IsFpuOpRIMod, IsLeftAt, IsRightAt}
use Rattle.a64_tokens.specs.Fields.{IsCall}
use Rattle.a64_tokens.specs.Reads.{Reads}

-- whether the last byte but one of a name is a 3
abbrev is_32 : List ℕ → Bool
is_32 name = nat_eq (slice_index name (length name - 2)) 51

module _ (name amount : List ℕ) (imm : FPURightShiftImm) where
  pub ushr32 : name ≡ codes "UShr32" → Reads (IsRightAt 32) right_amount_text amount (Some imm) → Reads IsFpuOpRI fpu_op_ri_parts (name, amount) (Some (fpu_op_ris.UShr32 imm))
  ushr32 named h = record { some = (h.some.0, rw (named, h.some.1) refl); only = only }
    where
      only : (op : FPUOpRI) → IsFpuOpRI op → (name, amount) ≡ fpu_op_ri_parts op → Some (fpu_op_ris.UShr32 imm) ≡ Some op
      only (fpu_op_ris.UShr32 other) fits e = ap (λ (x : Option FPURightShiftImm). option_map (λ y. fpu_op_ris.UShr32 y) x) (h.only other fits (ap (λ (p : List ℕ × List ℕ). p.1) e))
      only (fpu_op_ris.UShr64 other) fits e = let same : true ≡ false = ap is_32 (sym named ∙ ap (λ (p : List ℕ × List ℕ). p.0) e) in absurd cc

  pub ushr64 : name ≡ codes "UShr64" → Reads (IsRightAt 64) right_amount_text amount (Some imm) → Reads IsFpuOpRI fpu_op_ri_parts (name, amount) (Some (fpu_op_ris.UShr64 imm))
  ushr64 named h = record { some = (h.some.0, rw (named, h.some.1) refl); only = only }
    where
      only : (op : FPUOpRI) → IsFpuOpRI op → (name, amount) ≡ fpu_op_ri_parts op → Some (fpu_op_ris.UShr64 imm) ≡ Some op
      only (fpu_op_ris.UShr64 other) fits e = ap (λ (x : Option FPURightShiftImm). option_map (λ y. fpu_op_ris.UShr64 y) x) (h.only other fits (ap (λ (p : List ℕ × List ℕ). p.1) e))
      only (fpu_op_ris.UShr32 other) fits e = let same : false ≡ true = ap is_32 (sym named ∙ ap (λ (p : List ℕ × List ℕ). p.0) e) in absurd cc

module _ (name amount : List ℕ) (imm : FPULeftShiftImm) where
  pub sli32 : name ≡ codes "Sli32" → Reads (IsLeftAt 32) left_amount_text amount (Some imm) → Reads IsFpuOpRIMod fpu_op_ri_mod_parts (name, amount) (Some (fpu_op_ri_mods.Sli32 imm))
  sli32 named h = record { some = (h.some.0, rw (named, h.some.1) refl); only = only }
    where
      only : (op : FPUOpRIMod) → IsFpuOpRIMod op → (name, amount) ≡ fpu_op_ri_mod_parts op → Some (fpu_op_ri_mods.Sli32 imm) ≡ Some op
      only (fpu_op_ri_mods.Sli32 other) fits e = ap (λ (x : Option FPULeftShiftImm). option_map (λ y. fpu_op_ri_mods.Sli32 y) x) (h.only other fits (ap (λ (p : List ℕ × List ℕ). p.1) e))
      only (fpu_op_ri_mods.Sli64 other) fits e = let same : true ≡ false = ap is_32 (sym named ∙ ap (λ (p : List ℕ × List ℕ). p.0) e) in absurd cc

  pub sli64 : name ≡ codes "Sli64" → Reads (IsLeftAt 64) left_amount_text amount (Some imm) → Reads IsFpuOpRIMod fpu_op_ri_mod_parts (name, amount) (Some (fpu_op_ri_mods.Sli64 imm))
  sli64 named h = record { some = (h.some.0, rw (named, h.some.1) refl); only = only }
    where
      only : (op : FPUOpRIMod) → IsFpuOpRIMod op → (name, amount) ≡ fpu_op_ri_mod_parts op → Some (fpu_op_ri_mods.Sli64 imm) ≡ Some op
      only (fpu_op_ri_mods.Sli64 other) fits e = ap (λ (x : Option FPULeftShiftImm). option_map (λ y. fpu_op_ri_mods.Sli64 y) x) (h.only other fits (ap (λ (p : List ℕ × List ℕ). p.1) e))
      only (fpu_op_ri_mods.Sli32 other) fits e = let same : false ≡ true = ap is_32 (sym named ∙ ap (λ (p : List ℕ × List ℕ). p.0) e) in absurd cc

-- no name has a parenthesis
pub fpu_op_ri_apart : (op : FPUOpRI) → IsCall (fpu_op_ri_parts op)
fpu_op_ri_apart (fpu_op_ris.UShr32 imm) = refl
fpu_op_ri_apart (fpu_op_ris.UShr64 imm) = refl

pub fpu_op_ri_mod_apart : (op : FPUOpRIMod) → IsCall (fpu_op_ri_mod_parts op)
fpu_op_ri_mod_apart (fpu_op_ri_mods.Sli32 imm) = refl
fpu_op_ri_mod_apart (fpu_op_ri_mods.Sli64 imm) = refl
