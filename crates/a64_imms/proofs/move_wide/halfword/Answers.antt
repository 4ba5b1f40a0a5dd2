use Rattle.std.proofs.Common.{◌≡◌, ℕ, ◌<◌, ◌*◌, ◌^◌, ◌/◌, ◌%◌, ap, sym, ◌∙◌, arith}
use Rattle.std.proofs.lemmas.Nat.{shl-shr}
use Rattle.a64_imms.proofs.move_wide.halfword.Goals as goal
use Rattle.a64_imms.proofs.move_wide.halfword.Goals.{else-bits-via-then-bits+else-bits-shift, else-bits-via-else-bits}

-- the only halfword is what is left of the value behind it
only : (value places bits : ℕ) → bits * 2 ^ places ≡ value → value / 2 ^ places ≡ bits
only value places bits e = ap (λ n. n / 2 ^ places) (sym e) ∙ shl-shr bits places

whole : (value places bits : ℕ) → value < 2 ^ 64 → bits * 2 ^ places ≡ value → (value / 2 ^ places * 2 ^ places) % 2 ^ 64 ≡ value
whole value places bits fits e =
    let moved : value / 2 ^ places * 2 ^ places ≡ value = ap (λ n. n * 2 ^ places) (only value places bits e) ∙ e in
    omega arith

pub returns-else-bits : goal.returns-else-bits
returns-else-bits c = λ bits fits e.
    let same = only c.args.value (16 * c.args.shift) bits e in
    elim c.else-bits.branch [
      | else-bits-via-then-bits+else-bits-shift w ↦ w.if-bits-shift.false (whole c.args.value (16 * c.args.shift) bits (omega arith) e)
      | else-bits-via-else-bits w ↦ omega arith
    ]
