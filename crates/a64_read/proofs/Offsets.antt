-- Offsets are numbers of 64 bits.
use Rattle.std.specs.Prelude.{ℕ, ℤ, List, None}
use Rattle.std.proofs.Common.{arith}
use Rattle.std.specs.Fmt.{signed_decimal}
use Rattle.std.proofs.lemmas.Int.{ints}
use Rattle.a64_imms.specs.declared.offset.SImm9.{SImm9}
use Rattle.a64_tokens.specs.Fields.{IsSImm9}
use Rattle.a64_tokens.specs.Reads.{Reads, IsI64}

pub offset9_fits : (imm : SImm9) → IsSImm9 imm → IsI64 imm.value
offset9_fits imm fits = omega (arith, ints, fits.low, fits.high)

-- what is read of the value that a token is
module _ {X : Type 0} (fits : X → Type 0) (value : X → ℤ) (range : (x : X) → fits x → IsI64 (value x)) (token : List ℕ) where
  pub no_value : Reads IsI64 signed_decimal token None → Reads fits (λ x. signed_decimal (value x)) token None
  no_value h = record { some = tt; only = λ x is e. let none = h.only (value x) (range x is) e in absurd cc }
