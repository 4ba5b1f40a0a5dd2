-- A wide immediate is two numbers with a comma between.
use Rattle.std.proofs.Common.{◌≡◌, ℕ, ◌*◌, List, [], ◌∷◌, eqb, Option, Some, None, refl, sym, ap, ◌∙◌, arith}
use Rattle.std.specs.List.{slice_split, join_with_byte}
use Rattle.a64_imms.specs.declared.move_wide.MoveWideConst.{MoveWideConst}
use Rattle.a64_tokens.specs.declared.value.Kind.{Kind}
use Rattle.a64_tokens.specs.declared.value.Kind.TheVariants as kinds
use Rattle.a64_tokens.specs.declared.value.Value.{Value}
use Rattle.a64_tokens.specs.declared.value.Value.TheVariants as values
use Rattle.a64_read.specs.At.{u32_at}
use Rattle.a64_tokens.specs.Fields.{IsWide, wide_text}
use Rattle.a64_read.specs.Parts.{IsPart}
use Rattle.a64_tokens.specs.Reads.{Reads}
use Rattle.a64_read.specs.RegisterLaws.{comma}
use Rattle.a64_read.specs.Rows.{AreFields, texts}
use Rattle.a64_read.specs.Same.{at_their_places}
use Rattle.a64_read.proofs.Joined.{joined_only}
use Rattle.a64_tokens.proofs.Splits.{joined_some}
use Rattle.a64_read.proofs.Between.{part_value_apart}

abbrev two : List Kind
two = kinds.U32 ∷ kinds.U32 ∷ []

abbrev numbers : ℕ → ℕ → List Value
numbers m n = values.U32 m ∷ values.U32 n ∷ []

abbrev pub IsPair : List ℕ → Option (List Value) → Type 0
IsPair token r = Reads (AreFields IsPart two) texts (slice_split (λ b. eqb b 44) token) r

abbrev wide : ℕ → ℕ → MoveWideConst
wide bits shift = record { bits = bits; shift = shift }

same_wide : (a b : MoveWideConst) → a.bits ≡ b.bits → a.shift ≡ b.shift → a ≡ b
same_wide a b e f = ap (λ (n : ℕ). wide n a.shift) e ∙ ap (λ (n : ℕ). wide b.bits n) f

-- a token that is a wide immediate is its pair of numbers
pair_of : (token : List ℕ) (r : Option (List Value)) → IsPair token r → (w : MoveWideConst) → IsWide w → token ≡ wide_text w → r ≡ Some (numbers w.bits (16 * w.shift))
pair_of token r h w fits e = joined_only 44 IsPart (part_value_apart 44 comma) two token r h (values.U32 w.bits) (values.U32 (16 * w.shift) ∷ []) (refl, (omega (arith, fits.0), (omega (arith, fits.1), tt))) e

pub no_pair : (token : List ℕ) → IsPair token None → Reads IsWide wide_text token None
no_pair token h = record { some = tt; only = λ w fits e. let none = pair_of token None h w fits e in absurd cc }

module _ (token : List ℕ) (pair : List Value) (h : IsPair token (Some pair)) (bits place : ℕ) (bits_are : bits ≡ u32_at pair 0) (place_is : place ≡ u32_at pair 1) where
  its_numbers : (w : MoveWideConst) → IsWide w → token ≡ wide_text w → (bits ≡ w.bits) × (place ≡ 16 * w.shift)
  its_numbers w fits e =
      let found = pair_of token (Some pair) h w fits e in
      let same : pair ≡ numbers w.bits (16 * w.shift) = cc in
      (bits_are ∙ ap (λ (t : List Value). u32_at t 0) same, place_is ∙ ap (λ (t : List Value). u32_at t 1) same)

  pub no_wide : ((w : MoveWideConst) → IsWide w → bits ≡ w.bits → place ≡ 16 * w.shift → ⊥) → Reads IsWide wide_text token None
  no_wide none = record { some = tt; only = λ w fits e. let same = its_numbers w fits e in absurd (none w fits same.0 same.1) }

  pub is_wide : (made : MoveWideConst) → IsWide made → made.bits ≡ bits → 16 * made.shift ≡ place → Reads IsWide wide_text token (Some made)
  is_wide made fits e f = record {
    some = (fits, joined_some 44 token (texts pair) h.some.1 ∙ ap (λ (t : List Value). join_with_byte 44 (texts t)) (sym (at_their_places two pair h.some.0.0)) ∙ rw (e ∙ bits_are, f ∙ place_is) refl);
    only = λ w fits' is. let same = its_numbers w fits' is in ap (λ (x : MoveWideConst). Some x) (same_wide made w (e ∙ same.0) (omega (arith, f, same.1)));
  }
