-- Unsigned offsets, of their values and the types that scale them.
use Rattle.std.proofs.Common.{◌≡◌, ℕ, true, Option, Some, None, sym, ap, subst, ◌∙◌}
use Rattle.std.specs.Prelude.{ℤ, pos, ◌≤◌, MatchOption}
use Rattle.std.proofs.Math.Bridge.{le_prop}
use Rattle.std.proofs.Math.Dec.{T_prop}
use Rattle.std.proofs.Math.Nat.{ℕ_set}
use Rattle.std.proofs.Common.{lit≤}
use Rattle.std.proofs.lemmas.Bool.{false≢true}
use Rattle.a64_base.specs.declared.ir_type.IrType.{IrType}
use Rattle.a64_base.specs.declared.ir_type.IrType.TheVariants as types
use Rattle.a64_imms.specs.declared.offset.UImm12Scaled.{UImm12Scaled}
use Rattle.a64_imms.specs.Offsets.{IsScaledOffset}
use Rattle.a64_imms.specs.ScaledOffsets.{uimm12_value, uimm12_scale}
use Rattle.a64_imms.specs.Scales.{type_bytes}
use Rattle.a64_read.specs.Modes.{IsScaled, scaled_parts}
use Rattle.a64_tokens.specs.Reads.{Reads}
use Rattle.a64_tokens.specs.Types.{is_scale}

-- the types that scale have 16 bytes at most
pub scale_bytes : (ty : IrType) → is_scale ty ≡ true → type_bytes ty ≤ 16
scale_bytes types.I8 is = lit≤ tt
scale_bytes types.I16 is = lit≤ tt
scale_bytes types.I32 is = lit≤ tt
scale_bytes types.I64 is = lit≤ tt
scale_bytes types.I8X16 is = lit≤ tt
scale_bytes _ is = absurd (false≢true is)

abbrev scaled : (value : ℕ) (scale : IrType) → IsScaledOffset scale (pos value) → UImm12Scaled
scaled value scale in_set = record { value = value; scale_ty = scale; in_set = in_set }

one_proof : (scale : IrType) (value : ℕ) → IsProp (IsScaledOffset scale (pos value))
one_proof scale value = hlevel (le_prop, ℕ_set, T_prop)

same_scaled : (x y : UImm12Scaled) → uimm12_value x ≡ uimm12_value y → uimm12_scale x ≡ uimm12_scale y → x ≡ y
same_scaled x y values scales =
    subst (λ (n : ℕ). (in_set : IsScaledOffset y.scale_ty (pos n)) → x ≡ scaled n y.scale_ty in_set) values
    (subst (λ (s : IrType). (in_set : IsScaledOffset s (pos x.value)) → x ≡ scaled x.value s in_set) scales
    (λ in_set. ap (λ (i : IsScaledOffset x.scale_ty (pos x.value)). scaled x.value x.scale_ty i) (one_proof x.scale_ty x.value x.in_set in_set)))
    y.in_set

same_pos : (m n : ℕ) → pos m ≡ pos n → m ≡ n
same_pos m n e = cc

module _ (value : ℤ) (scale : IrType) (is : is_scale scale ≡ true) where
  -- what the constructor answers for the value and the scale
  pub scaled_read : (r : Option UImm12Scaled) → MatchOption r (¬ IsScaledOffset scale value) (λ imm. IsScaledOffset scale value × (pos (uimm12_value imm) ≡ value) × (uimm12_scale imm ≡ scale)) → Reads IsScaled scaled_parts (value, scale) r
  scaled_read None none = record {
    some = tt;
    only = λ x fits e. absurd (none (subst (λ (p : ℤ × IrType). IsScaledOffset p.1 p.0) (sym e) x.in_set));
  }
  scaled_read (Some imm) made = record {
    some = (ap is_scale made.2 ∙ is, ap (λ (z : ℤ). (z, scale)) (sym made.1) ∙ ap (λ (s : IrType). (pos (uimm12_value imm), s)) (sym made.2));
    only = λ x fits e.
        ap (λ (y : UImm12Scaled). Some y) (same_scaled imm x
        (same_pos (uimm12_value imm) (uimm12_value x) (made.1 ∙ ap (λ (p : ℤ × IrType). p.0) e))
        (made.2 ∙ ap (λ (p : ℤ × IrType). p.1) e));
  }
