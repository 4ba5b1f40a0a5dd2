use Rattle.std.proofs.Common.{◌≡◌, ℕ, ℤ, ◌%◌, ◌≤◌, ap, ap₂, sym, refl, ◌∙◌, arith, FitsSigned, w64, to_z, of_z}
use Rattle.std.specs.Int.RustNames.{unsigned_abs}
use Rattle.std.proofs.lemmas.Int.{ints, to_z-of_z}
use Rattle.a64_base.specs.declared.ir_type.IrType.{IrType}
use Rattle.a64_imms.specs.Scales.{type_bytes, IsPairScale}
use Rattle.a64_imms.proofs.offset.SImm7Scaled.maybe_from_i64.Goals as goal
use Rattle.a64_imms.proofs.offset.SImm7Scaled.maybe_from_i64.Goals.{else-value-scale-via-then-value-scale+then-value-scale-2+else-unsigned_abs-from-eq0, else-value-scale-via-then-value-scale+else-value-scale-2, else-value-scale-via-else-value-scale}

small : (ty : IrType) → IsPairScale ty → type_bytes ty ≤ 16
small ty scale = grind arith

-- what is left of the offset, divided by the scale, as the code finds it
rest : (value : ℤ) (size bytes amount scale : ℕ) → FitsSigned w64 value → amount ≡ unsigned_abs (to_z w64 (of_z w64 value))
    → scale ≡ bytes → bytes ≡ size → unsigned_abs value % size ≡ amount % scale
rest value size bytes amount scale fits is scale_is bytes_is =
    ap₂ (λ a b. a % b) (sym (is ∙ ap unsigned_abs (to_z-of_z w64 value fits))) (sym (scale_is ∙ bytes_is))

pub returns-then-unsigned_abs-from-eq0 : goal.returns-then-unsigned_abs-from-eq0
returns-then-unsigned_abs-from-eq0 c =
    let few = small c.args.scale_ty c.requires in
    let same = rest c.args.value _ _ _ _ c.ranges.value c.unsigned_abs.ensures.value c.from.ensures c.bytes-bytes.ensures in (
      record {
        scale = c.requires;
        low = omega (arith, ints);
        high = omega (arith, ints);
        multiple = same ∙ c.if-unsigned_abs-from-eq0.true;
      },
      omega (arith, ints),
      refl,
    )

pub returns-else-value-scale : goal.returns-else-value-scale
returns-else-value-scale c = λ within.
    let few = small c.args.scale_ty c.requires in
    let low = within.low in
    let high = within.high in
    elim c.else-value-scale.branch [
      | else-value-scale-via-then-value-scale+then-value-scale-2+else-unsigned_abs-from-eq0 w ↦
          let same = rest c.args.value _ _ _ _ c.ranges.value w.unsigned_abs.ensures.value w.from.ensures c.bytes-bytes.ensures in
          w.if-unsigned_abs-from-eq0.false (sym same ∙ within.multiple)
      | else-value-scale-via-then-value-scale+else-value-scale-2 w ↦ omega (arith, ints)
      | else-value-scale-via-else-value-scale w ↦ omega (arith, ints)
    ]
