-- Bytes that stand in no decimal.
use Rattle.std.specs.Prelude.{ℕ, ◌<◌, ◌⊎◌, List, [], ◌∷◌, refl}
use Rattle.std.proofs.Common.{arith, inl, inr}
use Rattle.std.specs.Fmt.{decimal}
use Rattle.std.specs.Str.Parse.{AllDigits}
use Rattle.std.proofs.lemmas.Fmt.{decimal_is_IsNumeral}
use Rattle.std.proofs.lemmas.Str.Parse.{digit_from_value}
use Rattle.std.proofs.lemmas.Bool.{ne_eqb}
use Rattle.a64_tokens.specs.Fields.{HasNo}
use Rattle.a64_tokens.specs.Reads.{IsU64}

-- a byte before the digits, or behind them
abbrev pub IsNoDigit : ℕ → Type 0
IsNoDigit byte = (byte < 48) ⊎ (57 < byte)

digits_apart : (byte : ℕ) (digits : List ℕ) → IsNoDigit byte → AllDigits 10 digits
    → HasNo byte digits
digits_apart byte [] other h = refl
digits_apart byte (d ∷ digits) (inl before) h =
    let value = digit_from_value d h.0 in
    rw (ne_eqb d byte (λ e. omega arith), digits_apart byte digits (inl before) h.1) refl
digits_apart byte (d ∷ digits) (inr behind) h =
    let value = digit_from_value d h.0 in
    rw (ne_eqb d byte (λ e. omega arith), digits_apart byte digits (inr behind) h.1) refl

-- such a byte stands in no decimal
pub decimal_apart : (byte n : ℕ) → IsNoDigit byte → IsU64 n → HasNo byte (decimal n)
decimal_apart byte n other fits =
    digits_apart byte (decimal n) other (decimal_is_IsNumeral n (omega arith)).0.1
