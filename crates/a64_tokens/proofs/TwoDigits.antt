-- What the decimal text of a number below 100 looks like.
use Rattle.std.proofs.Common.{◌-◌, ◌≡◌, ℕ, ◌+◌, ◌*◌, ◌/◌, ◌%◌, ◌<◌, ◌≤◌, List, [], ◌∷◌, length, get_or, ◌⊎◌, inl, inr, Some, refl, sym, ap, ◌∙◌, arith}
use Rattle.std.specs.Fmt.{decimal}
use Rattle.std.proofs.lemmas.Fmt.{decimal_digit, decimal_step, decimal_injective}
use Rattle.std.proofs.lemmas.Slice.Eq.{text_from_reads}
use Rattle.a64_tokens.specs.Reads.{Reads, IsBelowHundred}

two : (n : ℕ) → 10 ≤ n → n < 100 → decimal n ≡ (48 + n / 10) ∷ (48 + n % 10) ∷ []
two n low high = rw (decimal_step n low (omega arith), decimal_digit (n / 10) (omega arith)) refl

is_some : (token : List ℕ) (n : ℕ) → n < 100 → token ≡ decimal n → Reads IsBelowHundred decimal token (Some n)
is_some token n lt e = record { some = (lt, e); only = λ m fits f. ap (λ (k : ℕ). Some k) (decimal_injective n m (omega arith) (omega arith) (sym e ∙ f)) }

-- one digit
pub one_digit : (token : List ℕ) → length token ≡ 1 → 48 ≤ get_or token 0 0 → get_or token 0 0 ≤ 57 → Reads IsBelowHundred decimal token (Some (get_or token 0 0 - 48))
one_digit token one low high =
    let n = get_or token 0 0 - 48 in
    is_some token n (omega arith) (rw (decimal_digit n (omega arith)) (text_from_reads token ((48 + n) ∷ []) (omega arith) (omega arith, tt)))

-- two digits, of which the first is not 0
pub two_digits : (token : List ℕ) → length token ≡ 2 → 49 ≤ get_or token 0 0 → get_or token 0 0 ≤ 57 → 48 ≤ get_or token 1 0 → get_or token 1 0 ≤ 57 → Reads IsBelowHundred decimal token (Some ((get_or token 0 0 - 48) * 10 + (get_or token 1 0 - 48)))
two_digits token pair low high least most =
    let n = (get_or token 0 0 - 48) * 10 + (get_or token 1 0 - 48) in
    is_some token n (omega arith) (rw (two n (omega arith) (omega arith)) (text_from_reads token ((48 + n / 10) ∷ (48 + n % 10) ∷ []) (omega arith) (omega arith, (omega arith, tt))))

one_is : (token : List ℕ) (n : ℕ) → n < 10 → token ≡ decimal n → (length token ≡ 1) × (get_or token 0 0 ≡ 48 + n)
one_is token n lt e = rw (e, decimal_digit n lt) (refl, refl)

two_is : (token : List ℕ) (n : ℕ) → 10 ≤ n → n < 100 → token ≡ decimal n → (length token ≡ 2) × (get_or token 0 0 ≡ 48 + n / 10) × (get_or token 1 0 ≡ 48 + n % 10)
two_is token n low high e = rw (e, two n low high) (refl, refl, refl)

-- the bytes of a token of one digit, or of two
abbrev Has : List ℕ → Type 0
Has token = ((length token ≡ 1) × (48 ≤ get_or token 0 0) × (get_or token 0 0 ≤ 57))
    ⊎ ((length token ≡ 2) × (49 ≤ get_or token 0 0) × (get_or token 0 0 ≤ 57) × (48 ≤ get_or token 1 0) × (get_or token 1 0 ≤ 57))

has : (token : List ℕ) (n : ℕ) → n < 100 → token ≡ decimal n → ((n < 10) ⊎ (10 ≤ n)) → Has token
has token n lt e (inl less) = let h = one_is token n less e in inl (h.0, omega (arith, h.1), omega (arith, h.1))
has token n lt e (inr more) = let h = two_is token n more lt e in inr (h.0, omega (arith, h.1), omega (arith, h.1), omega (arith, h.2), omega (arith, h.2))

-- no other token is a decimal below 100
pub has_digits : (token : List ℕ) (n : ℕ) → IsBelowHundred n → token ≡ decimal n → Has token
has_digits token n lt e = has token n lt e (grind arith)
