-- A scale and a field have one offset.
use Rattle.std.specs.Prelude.{◌≡◌, ℕ, pos, ◌*◌, ◌/◌, ◌%◌}
use Rattle.std.proofs.Common.{ap, sym, ◌∙◌, subst, arith}
use Rattle.std.proofs.lemmas.Nat.{div-add-mod'}
use Rattle.a64_base.specs.declared.ir_type.IrType.{IrType}
use Rattle.a64_imms.specs.declared.offset.UImm12Scaled.{UImm12Scaled}
use Rattle.a64_imms.specs.Scales.{type_bytes}
use Rattle.a64_imms.specs.Offsets.{IsScaledOffset}
use Rattle.a64_imms.specs.ScaledOffsets.{uimm12_value, uimm12_scale}

exact : (n d : ℕ) → n % d ≡ 0 → n / d * d ≡ n
exact n d none = omega (arith, div-add-mod' n d)

pub scaled_offset_within : (scale_ty : IrType) (imm : UImm12Scaled) → uimm12_scale imm ≡ scale_ty
    → IsScaledOffset scale_ty (pos (uimm12_value imm))
scaled_offset_within scale_ty imm is =
    subst (λ ty. IsScaledOffset ty (pos (uimm12_value imm))) is imm.in_set

pub one_scaled_offset : (scale_ty : IrType) (x y : UImm12Scaled) → uimm12_scale x ≡ scale_ty
    → uimm12_scale y ≡ scale_ty
    → uimm12_value x / type_bytes scale_ty ≡ uimm12_value y / type_bytes scale_ty
    → pos (uimm12_value x) ≡ pos (uimm12_value y)
one_scaled_offset scale_ty x y of_x of_y same =
    let bytes = type_bytes scale_ty in
    let back_x = exact (uimm12_value x) bytes (scaled_offset_within scale_ty x of_x).multiple in
    let back_y = exact (uimm12_value y) bytes (scaled_offset_within scale_ty y of_y).multiple in
    ap pos (sym back_x ∙ ap (λ units. units * bytes) same ∙ back_y)
