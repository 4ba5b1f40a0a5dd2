use Rattle.std.proofs.Common.{◌≡◌, ℕ, ◌<◌, ◌*◌, ◌^◌}
use Rattle.a64_imms.proofs.move_wide.MoveWideConst.maybe_from_u64.Given as goal

-- no halfword so far holds the value alone
abbrev pub invariant-loop-shift : goal.invariant-loop-shift
invariant-loop-shift l = (shift : ℕ) → shift < l.shift → (bits : ℕ) → bits < 2 ^ 16 → bits * 2 ^ (16 * shift) ≡ l.value → ⊥
