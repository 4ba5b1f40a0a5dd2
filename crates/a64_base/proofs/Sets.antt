-- The registers of two sets together.
use Rattle.std.proofs.Common.{◌≡◌, ◌||◌, ◌==◌, if◌then◌else◌, ℕ, true, false, refl, bit_or}
use Rattle.a64_base.proofs.Bits.{joined_bits}
use Rattle.a64_base.specs.Bits.{has_bit}
use Rattle.a64_base.specs.Sets.{has_number}
use Rattle.a64_base.specs.declared.reg.RegClass.{RegClass}
use Rattle.a64_base.specs.declared.reg.RegClass.TheVariants.{Int, Float}
use Rattle.a64_base.specs.declared.set.PRegSet.{PRegSet}

abbrev pub joined : PRegSet → PRegSet → PRegSet
joined s t = record {
  integers = bit_or s.integers t.integers;
  stack = s.stack || t.stack;
  floats = bit_or s.floats t.floats;
}

pub has_joined : (s t : PRegSet) (class : RegClass) (n : ℕ)
    → has_number (joined s t) class n ≡ (has_number s class n || has_number t class n)
has_joined s t Float n = joined_bits s.floats t.floats n
has_joined s t Int n =
    elim (n == 63) as (λ b.
    (if b then (s.stack || t.stack) else has_bit (bit_or s.integers t.integers) n)
    ≡ ((if b then s.stack else has_bit s.integers n) || (if b then t.stack else has_bit t.integers n))) [
      | true ↦ refl
      | false ↦ joined_bits s.integers t.integers n
    ]
