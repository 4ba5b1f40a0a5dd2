use Rattle.std.proofs.Common.{◌≡◌, ℕ, ◌<◌, ◌-◌, ◌*◌, ◌/◌, ◌%◌, ◌^◌, Bool, true, false, if◌then◌else◌, sym, ap, ◌∙◌, arith}
use Rattle.std.proofs.lemmas.Nat.{pow_pos, one_shl, shr_high, mod_low}
use Rattle.a64_imms.proofs.asimd_mov.shifted.Goals as goal
use Rattle.a64_imms.proofs.asimd_mov.shifted.Goals.{else-imm-lt256-via-then-imm-lt256+else-number-shift, else-imm-lt256-via-else-imm-lt256}

behind_fits : (ones : Bool) (shift : ℕ) → (if ones then 2 ^ shift - 1 else 0) < 2 ^ shift
behind_fits true shift = omega (arith, pow_pos shift)
behind_fits false shift = pow_pos shift

pub returns-else-imm-lt256 : goal.returns-else-imm-lt256
returns-else-imm-lt256 c = λ (bits, fits, e).
    let shift = c.args.shift in
    let below = behind_fits c.args.ones shift in
    let high = ap (λ n. n / 2 ^ shift) (sym e) ∙ shr_high bits shift _ below in
    let low = ap (λ n. n % 2 ^ shift) (sym e) ∙ mod_low bits shift _ below in
    elim c.else-imm-lt256.branch [
      | else-imm-lt256-via-then-imm-lt256+else-number-shift w ↦
          let one : (1 * 2 ^ shift) % 2 ^ 32 ≡ 2 ^ shift = one_shl shift 32 (omega arith) in
          w.if-number-shift.false (ap (λ m. c.args.number % m) one ∙ low ∙ sym w.behind.ensures)
      | else-imm-lt256-via-else-imm-lt256 w ↦ omega arith
    ]
