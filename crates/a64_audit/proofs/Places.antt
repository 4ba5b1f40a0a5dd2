-- The places of code, one behind another.
use Rattle.std.proofs.Common.{◌≡◌, ℕ, ◌+◌, ◌*◌, ◌<◌, length, inl, inr, subst, arith}
use Rattle.std.proofs.lemmas.Bool.{cases_lt}
use Rattle.a64_audit.specs.Entries.{Contents}
use Rattle.a64_audit.specs.Verdicts.{AreFineBefore, AreGoodBefore, IsFine, IsFirstPlace, InData}

-- the next place is fine too, or in data
pub one_more : (file : Contents) (i : ℕ) → AreFineBefore file (4 * i) → ((InData file (4 * i) → ⊥) → IsFine file (4 * i)) → AreFineBefore file (4 * (i + 1))
one_more file i fine here before place less code = elim (cases_lt before (4 * i)) [
  | inl lower ↦ fine before place lower code
  | inr more ↦ (
      let whole = place.0 in
      let is : 4 * i ≡ before = omega arith in
      subst (λ (n : ℕ). IsFine file n) is (here (λ lies. code (subst (λ (n : ℕ). InData file n) is lies)))
      )
]

-- the first place that may be wrong
pub first_place : (file : Contents) (i : ℕ) → AreGoodBefore file (length file.ranges) → AreFineBefore file (4 * i) → i < length file.words → (InData file (4 * i) → ⊥) → IsFirstPlace file (4 * i)
first_place file i good fine inside code = record { good = good; fine = fine; is_place = (omega arith, omega arith); code = code }
