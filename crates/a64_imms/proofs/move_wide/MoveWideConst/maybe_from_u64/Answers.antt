use Rattle.std.proofs.Common.{◌≡◌, ℕ, ◌*◌, ◌^◌, ◌<◌, ◌≤◌, inl, inr, sym, ap, ◌∙◌, arith}
use Rattle.std.proofs.lemmas.Bool.{cases_eq}
use Rattle.a64_imms.specs.declared.move_wide.MoveWideConst.{MoveWideConst}
use Rattle.a64_imms.specs.MoveWides.{HasWide}
use Rattle.a64_imms.proofs.Found.{wide_named, no_wide}
use Rattle.a64_imms.proofs.move_wide.MoveWideConst.maybe_from_u64.Goals as goal

-- what the first halfword that holds the value gives
first_has : (value shift : ℕ) (imm : MoveWideConst) → (imm.shift ≡ shift) × (imm.bits < 2 ^ 16) × (imm.bits * 2 ^ (16 * shift) ≡ value) → shift ≤ 3
    → ((k : ℕ) → k < shift → (bits : ℕ) → bits < 2 ^ 16 → bits * 2 ^ (16 * k) ≡ value → ⊥) → HasWide value imm
first_has value shift imm (place, fits, value_is) low none = record {
  lawful = record { bits_fit = fits; shift_fits = omega arith };
  value_is = ap (λ k. imm.bits * 2 ^ (16 * k)) place ∙ value_is;
  lowest = λ e. elim (cases_eq shift 0) [
    | inl first ↦ place ∙ first
    | inr later ↦ absurd (none 0 (omega arith) 0 (omega arith) (sym e))
  ];
}

pub returns-in-Some-clause-immediate : goal.returns-in-Some-clause-immediate
returns-in-Some-clause-immediate c =
    let low = c.loop-shift-test.true in
    sym (wide_named c.args.value c.in-Some.imm
    (first_has c.args.value c.loop-shift.shift c.in-Some.imm c.in-Some.ensures (omega arith) c.loop-shift.invariant))

pub returns-clause-immediate : goal.returns-clause-immediate
returns-clause-immediate c =
    sym (no_wide c.args.value (λ held. let (bits, shift, fits, low, e) = held in c.loop-shift.invariant shift (omega arith) bits fits e))
