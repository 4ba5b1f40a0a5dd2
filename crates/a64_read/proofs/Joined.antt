-- Fields that are joined by a byte.
use Rattle.std.proofs.Common.{◌≡◌, ℕ, List, [], ◌∷◌, eqb, Option, Some, ap, ◌∙◌}
use Rattle.std.specs.List.{AllByRecursion, slice_split, join_with_byte}
use Rattle.a64_tokens.specs.declared.value.Kind.{Kind}
use Rattle.a64_tokens.specs.declared.value.Value.{Value}
use Rattle.a64_tokens.specs.Fields.{HasNo}
use Rattle.a64_tokens.specs.Reads.{Reads}
use Rattle.a64_read.specs.Rows.{AreFields, texts}
use Rattle.a64_read.specs.Values.{value_text}
use Rattle.a64_tokens.specs.SplitLaws.{split-join}

-- no text of such a field has the byte
module _ (c : ℕ) (fits : Value → Type 0) (plain : (v : Value) → fits v → HasNo c (value_text v)) where
  pub all_plain : (vs : List Value) → AllByRecursion fits vs → AllByRecursion (HasNo c) (texts vs)
  all_plain [] h = tt
  all_plain (v ∷ vs) h = (plain v h.0, all_plain vs h.1)

  -- what is read of their texts, joined, is them
  pub joined_only : (kinds : List Kind) (token : List ℕ) (r : Option (List Value)) → Reads (AreFields fits kinds) texts (slice_split (λ b. eqb b c) token) r → (v : Value) (vs : List Value) → AreFields fits kinds (v ∷ vs) → token ≡ join_with_byte c (texts (v ∷ vs)) → r ≡ Some (v ∷ vs)
  joined_only kinds token r h v vs are e = h.only (v ∷ vs) are (ap (λ (t : List ℕ). slice_split (λ b. eqb b c) t) e ∙ split-join c (value_text v) (texts vs) (all_plain (v ∷ vs) are.1))
