-- The texts of constants, by how many digits they have.
use Rattle.std.proofs.Common.{◌≡◌, ℕ, ◌*◌, ◌⊎◌, inl, inr, Bool, true, false, ◌||◌, nat_eq, List, [], ◌∷◌, length, Option, Some, None, refl, sym, ap, ◌∙◌, arith}
use Rattle.std.proofs.lemmas.Bool.{eqb-true, false≢true}
use Rattle.a64_buffer.specs.Constants.{IsConstant}
use Rattle.a64_tokens.specs.Hex.{hex_text, AreBytes}
use Rattle.a64_tokens.specs.Reads.{Reads}
use Rattle.a64_text.specs.Constants.{has_digits, HasHex}

hex_length : (bytes : List ℕ) → length (hex_text bytes) ≡ 2 * length bytes
hex_length [] = refl
hex_length (byte ∷ bytes) = omega (arith, hex_length bytes)

one_of : (a b c : Bool) → (a || b || c) ≡ true → (a ≡ true) ⊎ (b ≡ true) ⊎ (c ≡ true)
one_of true b c e = inl refl
one_of false true c e = inr (inl refl)
one_of false false c e = inr (inr e)

digit_counts : (n : ℕ) → has_digits n ≡ true → (n ≡ 8) ⊎ (n ≡ 16) ⊎ (n ≡ 32)
digit_counts n e = elim (one_of (nat_eq n 8) (nat_eq n 16) (nat_eq n 32) e) [
  | inl is ↦ inl (eqb-true n 8 is)
  | inr others ↦ elim others [ inl is ↦ inr (inl (eqb-true n 16 is)) | inr is ↦ inr (inr (eqb-true n 32 is)) ]
]

digit_test : (n : ℕ) → (n ≡ 8) ⊎ (n ≡ 16) ⊎ (n ≡ 32) → has_digits n ≡ true
digit_test n (inl is) = ap has_digits is
digit_test n (inr (inl is)) = ap has_digits is
digit_test n (inr (inr is)) = ap has_digits is

module _ (token : List ℕ) where
  halved : (bytes : List ℕ) → token ≡ hex_text bytes → length token ≡ 2 * length bytes
  halved bytes e = ap (λ (t : List ℕ). length t) e ∙ hex_length bytes

  sized : (length token ≡ 8) ⊎ (length token ≡ 16) ⊎ (length token ≡ 32) → (bytes : List ℕ) → token ≡ hex_text bytes → IsConstant bytes
  sized (inl n) bytes e = inl (omega (arith, n, halved bytes e))
  sized (inr (inl n)) bytes e = inr (inl (omega (arith, n, halved bytes e)))
  sized (inr (inr n)) bytes e = inr (inr (omega (arith, n, halved bytes e)))

  digits : (bytes : List ℕ) → IsConstant bytes → token ≡ hex_text bytes → (length token ≡ 8) ⊎ (length token ≡ 16) ⊎ (length token ≡ 32)
  digits bytes (inl n) e = inl (omega (arith, n, halved bytes e))
  digits bytes (inr (inl n)) e = inr (inl (omega (arith, n, halved bytes e)))
  digits bytes (inr (inr n)) e = inr (inr (omega (arith, n, halved bytes e)))

  pub constant_read : has_digits (length token) ≡ true → (r : Option (List ℕ)) → Reads AreBytes hex_text token r → Reads HasHex hex_text token r
  constant_read has None h = record { some = tt; only = λ bytes own e. h.only bytes own.1 e }
  constant_read has (Some xs) h = record { some = ((sized (digit_counts (length token) has) xs h.some.1, h.some.0), h.some.1); only = λ bytes own e. h.only bytes own.1 e }

  pub no_constant : has_digits (length token) ≡ false → Reads HasHex hex_text token None
  no_constant other = record { some = tt; only = λ bytes own e. absurd (false≢true (sym other ∙ digit_test (length token) (digits bytes own.0 e))) }
