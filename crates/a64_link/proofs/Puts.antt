-- What was put, by the kind of the relocation.
use Rattle.std.proofs.Common.{ℕ, ℤ, pos, negsuc, ◌≡◌, ◌+◌, ◌%◌, ◌/◌, ◌^◌, ◌-◌, ◌+ℤ◌, ◌≤ℤ◌, ◌<ℤ◌, of_z, w64, List, sym, subst, arith, Bool, true, false}
use Rattle.std.specs.Prelude.{MatchBool}
use Rattle.std.proofs.lemmas.Int.{ints}
use Rattle.a64_imms.specs.Offsets.{residue}
use Rattle.a64_link.specs.declared.unit.Unit.{Unit}
use Rattle.a64_link.specs.declared.unit.Symbol.{Symbol}
use Rattle.a64_link.specs.Units.{Relocation, is_call}
use Rattle.a64_link.specs.Layout.{is_far, start_of, goal_of}
use Rattle.a64_link.specs.Linking.{IsLed, IsFarPut, IsAddressPut, address_of, IsPutFor}

-- addresses modulo 2^64
pub address_is : (x : ℕ) (a z : ℤ) → z ≡ pos x +ℤ a → negsuc (2 ^ 63 - 1) ≤ℤ a → a <ℤ pos (2 ^ 63) → (x % 2 ^ 64 + of_z w64 a) % 2 ^ 64 ≡ residue (2 ^ 64) z
address_is x a (pos m) e low high = omega (arith, ints)
address_is x a (negsuc m) e low high = omega (arith, ints)

module _ (units : List Unit) (base : ℕ) (starts : List ℕ) (i : ℕ) (r : Relocation) (s : Symbol) (old new : List ℕ) where
  abbrev By : Bool → Bool → Type 0
  By b f =
      MatchBool b
      (MatchBool f (IsFarPut old new ((start_of starts i + r.0) / 4) (start_of starts i + r.0) (goal_of starts s)) (IsLed old new ((start_of starts i + r.0) / 4) (start_of starts i + r.0) (goal_of starts s)))
      (IsAddressPut old new ((start_of starts i + r.0) / 4) (address_of units base starts r s))

  pub as_address : is_call r.1 ≡ false → IsAddressPut old new ((start_of starts i + r.0) / 4) (address_of units base starts r s) → IsPutFor units base starts i r s old new
  as_address c h = subst (λ (b : Bool). By b (is_far units i r)) (sym c) h

  pub as_near : is_call r.1 ≡ true → is_far units i r ≡ false → IsLed old new ((start_of starts i + r.0) / 4) (start_of starts i + r.0) (goal_of starts s) → IsPutFor units base starts i r s old new
  as_near c f h = subst (λ (b : Bool). By b (is_far units i r)) (sym c) (subst (λ (b : Bool). By true b) (sym f) h)

  pub as_far : is_call r.1 ≡ true → is_far units i r ≡ true → IsFarPut old new ((start_of starts i + r.0) / 4) (start_of starts i + r.0) (goal_of starts s) → IsPutFor units base starts i r s old new
  as_far c f h = subst (λ (b : Bool). By b (is_far units i r)) (sym c) (subst (λ (b : Bool). By true b) (sym f) h)
