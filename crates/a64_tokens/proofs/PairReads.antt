-- A mode of a pair with the offset that the constructor gives at a scale.
use Rattle.std.proofs.Common.{◌≡◌, Option, Some, None, option_map, refl, sym, ap, subst, ◌∙◌}
use Rattle.a64_base.specs.declared.ir_type.IrType.{IrType}
use Rattle.a64_imms.specs.declared.offset.SImm7Scaled.{SImm7Scaled}
use Rattle.a64_inst.specs.declared.mode.PairAMode.{PairAMode}
use Rattle.a64_inst.specs.declared.mode.PairAMode.TheVariants as pair_modes
use Rattle.a64_tokens.specs.declared.pair_mode.WrittenPairMode.{WrittenPairMode}
use Rattle.a64_tokens.specs.declared.pair_mode.WrittenPairMode.TheVariants as written
use Rattle.a64_tokens.specs.PairModes.{pair_imm, with_offset, written_offset, written_pair, IsOffsetAt, IsPairAt}
use Rattle.a64_tokens.specs.Reads.{Reads}

imm_is : (w : WrittenPairMode) (imm : SImm7Scaled) → imm ≡ pair_imm (with_offset w imm)
imm_is (written.SignedOffset reg offset) imm = refl
imm_is (written.SPPreIndexed offset) imm = refl
imm_is (written.SPPostIndexed offset) imm = refl

written_is : (w : WrittenPairMode) (imm : SImm7Scaled) → written_offset w ≡ imm.value → w ≡ written_pair (with_offset w imm)
written_is (written.SignedOffset reg offset) imm e = ap (λ z. written.SignedOffset reg z) e
written_is (written.SPPreIndexed offset) imm e = ap (λ z. written.SPPreIndexed z) e
written_is (written.SPPostIndexed offset) imm e = ap (λ z. written.SPPostIndexed z) e

offset_is : (mode : PairAMode) → written_offset (written_pair mode) ≡ (pair_imm mode).value
offset_is (pair_modes.SignedOffset reg simm7) = refl
offset_is (pair_modes.SPPreIndexed simm7) = refl
offset_is (pair_modes.SPPostIndexed simm7) = refl

mode_is : (mode : PairAMode) → with_offset (written_pair mode) (pair_imm mode) ≡ mode
mode_is (pair_modes.SignedOffset reg simm7) = refl
mode_is (pair_modes.SPPreIndexed simm7) = refl
mode_is (pair_modes.SPPostIndexed simm7) = refl

module _ (w : WrittenPairMode) (scale : IrType) where
  abbrev pub ReadsOffset : Option SImm7Scaled → Type 0
  ReadsOffset r = Reads (IsOffsetAt scale) (λ imm. imm.value) (written_offset w) r

  imm_of : (r : Option SImm7Scaled) → ReadsOffset r → (mode : PairAMode) → IsPairAt scale mode → w ≡ written_pair mode → r ≡ Some (pair_imm mode)
  imm_of r h mode fits e = h.only (pair_imm mode) fits (ap written_offset e ∙ offset_is mode)

  pub no_pair : ReadsOffset None → Reads (IsPairAt scale) written_pair w None
  no_pair h = record { some = tt; only = λ mode fits e. let none = imm_of None h mode fits e in absurd cc }

  pub pair_read : (imm : SImm7Scaled) → ReadsOffset (Some imm) → Reads (IsPairAt scale) written_pair w (Some (with_offset w imm))
  pair_read imm h = record {
    some = (subst (λ (i : SImm7Scaled). IsOffsetAt scale i) (imm_is w imm) h.some.0, written_is w imm h.some.1);
    only = λ mode fits e.
        ap (λ (i : Option SImm7Scaled). option_map (with_offset w) i) (imm_of (Some imm) h mode fits e)
        ∙ ap (λ (v : WrittenPairMode). Some (with_offset v (pair_imm mode))) e
        ∙ ap (λ (m : PairAMode). Some m) (mode_is mode);
  }
