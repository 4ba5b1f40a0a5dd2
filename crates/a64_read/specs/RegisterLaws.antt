-- Bytes that stand between fields, of which no text of a register has one.
use Rattle.std.specs.Prelude.{ℕ, ℤ, pos, negsuc, suc, ◌==◌, ◌<◌, ◌^◌, ◌⊎◌, ◌++◌, if◌then◌else◌}
use Rattle.std.specs.Prelude.{Bool, true, false, codes, List, ◌∷◌, ◌≡◌, refl}
use Rattle.std.proofs.Common.{arith, lit<, inl, inr, sym, subst}
use Rattle.std.specs.Fmt.{decimal, signed_decimal}
use Rattle.std.proofs.lemmas.Int.{ints}
use Rattle.std.proofs.lemmas.List.Folds.{list_any-append}
use Rattle.a64_base.specs.RegisterNumbers.{IsRegisterNumber}
use Rattle.a64_base.specs.declared.ir_type.IrType.{IrType}
use Rattle.a64_base.specs.declared.ir_type.IrType.TheVariants.{I8}
use Rattle.a64_base.specs.declared.reg.Reg.{Reg}
use Rattle.a64_base.specs.declared.reg.RegKind.TheVariants.{Real, Virtual}
use Rattle.a64_base.specs.declared.reg.RegClass.{RegClass}
use Rattle.a64_base.specs.declared.reg.RegClass.TheVariants.{Int, Float}
use Rattle.a64_tokens.specs.DigitLaws.{decimal_apart, IsNoDigit}
use Rattle.a64_tokens.specs.Fields.{HasNo, integer_text, real_text, virtual_text, reg_text, IsReg}
use Rattle.a64_tokens.specs.Reads.{IsU32, IsI64}
use Rattle.a64_tokens.specs.Types.{type_text}

-- the bytes that stand between fields: a space, a comma and an equals sign
abbrev pub IsBetween : ℕ → Type 0
IsBetween c = (c ≡ 32) ⊎ ((c ≡ 44) ⊎ (c ≡ 61))

abbrev pub space : IsBetween 32
space = inl refl

abbrev pub comma : IsBetween 44
comma = inr (inl refl)

abbrev pub equals : IsBetween 61
equals = inr (inr refl)

-- what holds at each of them
pub at_each : (P : ℕ → Type 0) → P 32 → P 44 → P 61 → (c : ℕ) → IsBetween c → P c
at_each P one two three c (inl e) = subst P (sym e) one
at_each P one two three c (inr (inl e)) = subst P (sym e) two
at_each P one two three c (inr (inr e)) = subst P (sym e) three

-- a text behind a byte that is another
pub behind : (b : ℕ) (xs : List ℕ) → (b == 32) ≡ false → (b == 44) ≡ false → (b == 61) ≡ false
    → (c : ℕ) → IsBetween c → HasNo c xs → HasNo c (b ∷ xs)
behind b xs one two three c is h = rw (at_each (λ c. (b == c) ≡ false) one two three c is, h) refl

pub append_apart : (c : ℕ) (xs ys : List ℕ) → HasNo c xs → HasNo c ys → HasNo c (xs ++ ys)
append_apart c xs ys hx hy = rw (list_any-append (λ b. b == c) xs ys, hx) hy

-- the numbers of registers are small
number_fits : (class : RegClass) (n : ℕ) → IsRegisterNumber class n → n < 64
number_fits Int n fits = grind (arith, fits)
number_fits Float n fits = grind (arith, fits)

module _ (c : ℕ) (is : IsBetween c) where
  pub digits : (n : ℕ) → n < 2 ^ 64 → HasNo c (decimal n)
  digits n fits =
      decimal_apart c n (at_each IsNoDigit (inl (lit< tt)) (inl (lit< tt)) (inr (lit< tt)) c is)
      fits

  integer_apart : (n : ℕ) → IsRegisterNumber Int n → HasNo c (integer_text n)
  integer_apart n fits = go (n == 31) (n == 63)
    where
      go : (zero sp : Bool)
          → HasNo c (if zero then codes "xzr" else if sp then codes "sp"
          else (codes "x" ++ decimal n))
      go true sp = at_each (λ c. HasNo c (codes "xzr")) refl refl refl c is
      go false true = at_each (λ c. HasNo c (codes "sp")) refl refl refl c is
      go false false =
          behind 120 (decimal n) refl refl refl c is
          (digits n (omega (arith, number_fits Int n fits)))

  pub real_apart : (class : RegClass) (n : ℕ) → IsRegisterNumber class n
      → HasNo c (real_text class n)
  real_apart Int n fits = integer_apart n fits
  real_apart Float n fits =
      behind 118 (decimal n) refl refl refl c is
      (digits n (omega (arith, number_fits Float n fits)))

  virtual_apart : (class : RegClass) (n : ℕ) → IsU32 n → HasNo c (virtual_text class n)
  virtual_apart Int n fits =
      behind 37 (105
      ∷ decimal n) refl refl refl c is
      (behind 105 (decimal n) refl refl refl c is (digits n (omega (arith, fits))))
  virtual_apart Float n fits =
      behind 37 (102
      ∷ decimal n) refl refl refl c is
      (behind 102 (decimal n) refl refl refl c is (digits n (omega (arith, fits))))

  pub reg_apart : (reg : Reg) → IsReg reg → HasNo c (reg_text reg)
  reg_apart (Real p) fits = real_apart p.class p.number fits
  reg_apart (Virtual index class) fits = virtual_apart class index fits

  -- nor has one of a number, or of a type
  pub signed_apart : (z : ℤ) → IsI64 z → HasNo c (signed_decimal z)
  signed_apart (pos n) fits = digits n (omega (arith, ints, fits))
  signed_apart (negsuc n) fits =
      behind 45 (decimal (suc n)) refl refl refl c is (digits (suc n) (omega (arith, ints, fits)))

  pub type_apart : (x : IrType) → HasNo c (type_text x)
  type_apart I8 = at_each (λ c. HasNo c (type_text I8)) refl refl refl c is
  type_apart x = at_each (λ c. HasNo c (type_text x)) refl refl refl c is
