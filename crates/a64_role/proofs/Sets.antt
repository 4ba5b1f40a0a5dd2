-- Sets of registers, of which one has no register that the other lacks.
use Rattle.std.proofs.Common.{ℕ, ◌≡◌, ◌<◌, ◌≤◌, ◌+◌, ◌⊎◌, inl, inr, true, false, arith, sym, subst, ◌∙◌}
use Rattle.std.proofs.lemmas.Bool.{cases_lt, false≢true}
use Rattle.a64_base.specs.declared.reg.PReg.{PReg}
use Rattle.a64_base.specs.declared.reg.RegClass.{RegClass}
use Rattle.a64_base.specs.declared.reg.RegClass.TheVariants.{Int, Float}
use Rattle.a64_base.specs.declared.set.PRegSet.{PRegSet}
use Rattle.a64_base.specs.RegisterNumbers.{IsRegisterNumber}
use Rattle.a64_base.specs.Sets.{has, has_number}
use Rattle.a64_role.specs.Queries.{HasMore}

-- a register that one set has and the other lacks
pub more_by : (set other : PRegSet) (register : PReg) → IsRegisterNumber register.class register.number
    → has set register ≡ true → has other register ≡ false → HasMore set other
more_by set other register real member lacked = record { register = register; real = real; member = member; lacked = lacked }

-- one number more
pub held_more : (set other : PRegSet) (class : RegClass) (number : ℕ)
    → ((n : ℕ) → n < number → has_number set class n ≡ true → has_number other class n ≡ true)
    → (has_number set class number ≡ true → has_number other class number ≡ true)
    → (n : ℕ) → n < number + 1 → has_number set class n ≡ true → has_number other class n ≡ true
held_more set other class number before here n below member = elim (cases_lt n number) [
  | inl less ↦ before n less member
  | inr past ↦
      let same : n ≡ number = omega arith in
      subst (λ m. has_number other class m ≡ true) (sym same) (here (subst (λ m. has_number set class m ≡ true) same member))
]

-- one register that is in a set is in the other
no_more_at : (set other : PRegSet) (class : RegClass) (number : ℕ) → IsRegisterNumber class number
    → ((n : ℕ) → n < 32 → has_number set Int n ≡ true → has_number other Int n ≡ true)
    → ((n : ℕ) → n < 32 → has_number set Float n ≡ true → has_number other Float n ≡ true)
    → (has_number set Int 63 ≡ true → has_number other Int 63 ≡ true)
    → has_number set class number ≡ true → has_number other class number ≡ true
no_more_at set other Float number real integers floats stack member = floats number (grind (arith, real)) member
no_more_at set other Int number real integers floats stack member = elim (cases_lt number 32) [
  | inl less ↦ integers number less member
  | inr past ↦
      let same : number ≡ 63 = grind (arith, real, past) in
      subst (λ m. has_number other Int m ≡ true) (sym same) (stack (subst (λ m. has_number set Int m ≡ true) same member))
]

pub no_more : (set other : PRegSet)
    → ((n : ℕ) → n < 32 → has_number set Int n ≡ true → has_number other Int n ≡ true)
    → ((n : ℕ) → n < 32 → has_number set Float n ≡ true → has_number other Float n ≡ true)
    → (has_number set Int 63 ≡ true → has_number other Int 63 ≡ true)
    → HasMore set other → ⊥
no_more set other integers floats stack more =
    let held = no_more_at set other more.register.class more.register.number more.real integers floats stack more.member in
    false≢true (sym more.lacked ∙ held)
