-- The mode that stands for a base and an offset has the parts that the definition gives.
use Rattle.std.proofs.Common.{◌≡◌, Bool, true, false, not, ◌||◌, if◌then◌else◌, refl, ap, ap₂, sym, ◌∙◌}
use Rattle.std.specs.Int.RustNames.{unsigned_abs}
use Rattle.a64_base.specs.declared.ir_type.IrType.{IrType}
use Rattle.a64_base.specs.Registers.{integer_register}
use Rattle.a64_imms.specs.ScaledOffsets.{uimm12_value}
use Rattle.a64_inst.specs.declared.mode.AMode.{AMode}
use Rattle.a64_inst.specs.declared.mode.AMode.TheVariants.{RegReg, RegScaled, RegScaledExtended, RegExtended, Unscaled, UnsignedOffset, Label, SPPreIndexed, SPPostIndexed, FPOffset, SPOffset, IncomingArg, SlotOffset, RegOffset, Const}
use Rattle.a64_inst.specs.Modes.{BaseOffset, is_offset9, is_scaled_offset, StandsFor}
use Rattle.a64_inst.specs.FinalModes.{FinalMode, SignedOffset, ScaledOffset, Other, parts_of, placed_mode}

-- the first, the second or the third, by two tests
abbrev choose : (a b : Bool) → FinalMode → FinalMode → FinalMode → FinalMode
choose a b x y z = if a then x else if b then y else z

first : (a b : Bool) (x y z : FinalMode) → a ≡ true → choose a b x y z ≡ x
first true b x y z e = refl
first false b x y z e = absurd cc

second : (a b : Bool) (x y z : FinalMode) → a ≡ false → b ≡ true → choose a b x y z ≡ y
second false true x y z near in_set = refl
second false false x y z near in_set = absurd cc
second true b x y z near in_set = absurd cc

third : (a b : Bool) (x y z : FinalMode) → not (a || b) ≡ true → choose a b x y z ≡ z
third false false x y z far = refl
third false true x y z far = absurd cc
third true b x y z far = absurd cc

pub stands_parts : (access_ty : IrType) (place : BaseOffset) (mode : AMode) → StandsFor access_ty place mode → parts_of mode ≡ placed_mode access_ty place
stands_parts access_ty place (Unscaled rn simm9) (near, base, value) =
    ap₂ SignedOffset base value ∙ sym (first (is_offset9 place.offset) (is_scaled_offset access_ty place.offset) _ _ _ near)
stands_parts access_ty place (UnsignedOffset rn uimm12) (near, in_set, base, value, scale) =
    ap₂ (λ r t. ScaledOffset r (uimm12_value uimm12) t) base scale
    ∙ ap (λ z. ScaledOffset place.base (unsigned_abs z) access_ty) value
    ∙ sym (second (is_offset9 place.offset) (is_scaled_offset access_ty place.offset) _ _ _ near in_set)
stands_parts access_ty place (RegExtended rn rm extendop) (far, base, index, extend) =
    ap₂ (λ r i. Other (RegExtended r i extendop)) base index
    ∙ ap (λ op. Other (RegExtended place.base (integer_register 16) op)) extend
    ∙ sym (third (is_offset9 place.offset) (is_scaled_offset access_ty place.offset) _ _ _ far)
stands_parts access_ty place (RegReg rn rm) is = elim is [ ]
stands_parts access_ty place (RegScaled rn rm) is = elim is [ ]
stands_parts access_ty place (RegScaledExtended rn rm extendop) is = elim is [ ]
stands_parts access_ty place (Label label) is = elim is [ ]
stands_parts access_ty place (SPPreIndexed simm9) is = elim is [ ]
stands_parts access_ty place (SPPostIndexed simm9) is = elim is [ ]
stands_parts access_ty place (FPOffset off) is = elim is [ ]
stands_parts access_ty place (SPOffset off) is = elim is [ ]
stands_parts access_ty place (IncomingArg off) is = elim is [ ]
stands_parts access_ty place (SlotOffset off) is = elim is [ ]
stands_parts access_ty place (RegOffset rn off) is = elim is [ ]
stands_parts access_ty place (Const addr) is = elim is [ ]
