-- What the decimal text of a number looks like.
use Rattle.std.proofs.Common.{◌-◌, ◌≡◌, ℕ, zero, suc, ◌+◌, ◌*◌, ◌^◌, ◌<◌, ◌≤◌, List, length, get_or, take, Some, None, refl, sym, ap, subst, arith}
use Rattle.std.specs.Fmt.{decimal}
use Rattle.std.specs.Str.Parse.{AllDigits, digits_value}
use Rattle.std.proofs.lemmas.Fmt.{decimal_is_IsNumeral, decimal_digit, first_decimal, length-decimal-le, decimal-digits_value}
use Rattle.std.proofs.lemmas.Str.Parse.{numerals_by_value, tells_digits, IsNumeralModel, digit_at, digits_value-take-le}
use Rattle.std.proofs.lemmas.Int.Digits.{digits_value_more, digits_more}
use Rattle.std.proofs.lemmas.Str.{digit_value_digit}
use Rattle.a64_tokens.specs.Reads.{Reads, IsU64}

-- digits without a needless 0 at the front, whose value is n
pub record IsCanonical (token : List ℕ) (n : ℕ) : Type 0 where
  pub nonempty : 0 < length token
  pub short : length token ≤ 20
  pub lead : get_or token 0 0 ≡ 48 → length token ≡ 1
  pub digits : AllDigits 10 token
  pub value : digits_value 10 token ≡ n

own : IsNumeralModel (AllDigits 10) (digits_value 10)
own = numerals_by_value (AllDigits 10) tells_digits

lead_of : (n : ℕ) → n < 2 ^ 64 → get_or (decimal n) 0 0 ≡ 48 → length (decimal n) ≡ 1
lead_of zero lt e = rw (decimal_digit 0 (omega arith)) refl
lead_of (suc n) lt e = absurd (omega (arith, first_decimal (suc n) (omega arith) lt))

canonical_decimal : (n : ℕ) → n < 2 ^ 64 → IsCanonical (decimal n) n
canonical_decimal n lt =
    let d = decimal_is_IsNumeral n lt in
    record { nonempty = d.0.0; short = length-decimal-le 20 n (omega arith) (omega arith) lt; lead = lead_of n lt; digits = d.0.1; value = d.1 }

pub canonical : (token : List ℕ) (n : ℕ) → n < 2 ^ 64 → token ≡ decimal n → IsCanonical token n
canonical token n lt e = subst (λ (w : List ℕ). IsCanonical w n) (sym e) (canonical_decimal n lt)

pub is_none : (token : List ℕ) → ((n : ℕ) → n < 2 ^ 64 → IsCanonical token n → ⊥) → Reads IsU64 decimal token None
is_none token h = record { some = tt; only = λ n lt e. absurd (h n lt (canonical token n lt e)) }

pub is_some : (token : List ℕ) → AllDigits 10 token → 0 < length token → (get_or token 0 0 ≡ 48 → length token ≡ 1) → digits_value 10 token < 2 ^ 64 → Reads IsU64 decimal token (Some (digits_value 10 token))
is_some token digits nonempty lead lt =
    record {
      some = (lt, sym (decimal-digits_value own token digits nonempty lead lt));
      only = λ n fits e. ap (λ (k : ℕ). Some k) (canonical token n fits e).value;
    }

-- one more digit
pub one_more : (token : List ℕ) (i value : ℕ) → i < length token → 48 ≤ get_or token i 0 → get_or token i 0 ≤ 57 → value ≡ digits_value 10 (take i token) → value * 10 + (get_or token i 0 - 48) ≡ digits_value 10 (take (i + 1) token)
one_more token i value lt low high e = omega (arith, digits_value_more 10 token i lt, digit_value_digit (get_or token i 0) (low, high))

pub digits_so_far : (token : List ℕ) (i : ℕ) → i < length token → 48 ≤ get_or token i 0 → get_or token i 0 ≤ 57 → AllDigits 10 (take i token) → AllDigits 10 (take (i + 1) token)
digits_so_far token i lt low high h = digits_more 10 token i lt h (omega (arith, digit_value_digit (get_or token i 0) (low, high)))

-- a byte that is no digit
pub other_byte : (token : List ℕ) (i : ℕ) → i < length token → (48 ≤ get_or token i 0 → get_or token i 0 ≤ 57 → ⊥) → Reads IsU64 decimal token None
other_byte token i lt h = is_none token (λ n fits c. let r = digit_at token i c.digits lt in h r.0 r.1)

-- a front whose value is too large
pub too_large : (token : List ℕ) (i : ℕ) → 2 ^ 64 ≤ digits_value 10 (take i token) → Reads IsU64 decimal token None
too_large token i h = is_none token (λ n fits c. omega (arith, digits_value-take-le 10 token i (omega arith), c.value))

-- a decimal begins with a digit
pub decimal_first : (token : List ℕ) (n : ℕ) → IsU64 n → token ≡ decimal n → (48 ≤ get_or token 0 0) × (get_or token 0 0 ≤ 57)
decimal_first token n lt e = let c = canonical token n lt e in digit_at token 0 c.digits c.nonempty
