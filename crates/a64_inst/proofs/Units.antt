-- The unit of an offset is its quotient by the number of units.
use Rattle.std.proofs.Common.{ℕ, zero, suc, ◌≡◌, ◌<◌, ◌*◌, ◌/◌, ◌||◌, nat_eq, ap, sym, ◌∙◌, arith}
use Rattle.std.proofs.lemmas.Bool.{ne_eqb}
use Rattle.std.proofs.Math.Nat.{mul-div_cancel_left}

-- there are some units, where the offset is not 0
pub some_units : (count unit value : ℕ) → count * unit ≡ value → (value ≡ 0 → ⊥) → 0 < count
some_units zero unit value exact other = absurd (other (omega (arith, exact)))
some_units (suc count) unit value exact other = omega arith

unit_of : (count unit value : ℕ) → count * unit ≡ value → (value ≡ 0 → ⊥) → value / count ≡ unit
unit_of count unit value exact other =
    ap (λ n. n / count) (sym exact) ∙ mul-div_cancel_left unit (some_units count unit value exact other)

pub in_units : (count unit value bytes : ℕ) → count * unit ≡ value → (value ≡ 0 → ⊥)
    → nat_eq (value / count) bytes ≡ (nat_eq value 0 || nat_eq unit bytes)
in_units count unit value bytes exact other =
    ap (λ n. nat_eq n bytes) (unit_of count unit value exact other)
    ∙ ap (λ t. t || nat_eq unit bytes) (sym (ne_eqb value 0 other))
