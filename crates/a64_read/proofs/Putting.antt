-- What was read and, where it is a field, stored was put.
use Rattle.std.proofs.Common.{◌≡◌, ℕ, List, Bool, true, false, Option, Some, None}
use Rattle.std.specs.Prelude.{MatchOption}
use Rattle.a64_tokens.specs.declared.value.Kind.{Kind}
use Rattle.a64_tokens.specs.declared.value.Value.{Value}
use Rattle.a64_read.specs.Parts.{IsPart}
use Rattle.a64_tokens.specs.Reads.{Reads}
use Rattle.a64_read.specs.ReadsParts.{ReadsPart}
use Rattle.a64_read.specs.Rows.{IsPut}
use Rattle.a64_read.specs.Values.{kind_of, value_text, IsOf, ReadsKind}
use Rattle.a64_read.proofs.KindsRead.{kind_read}
use Rattle.a64_read.proofs.PartsRead.{part_read}

module _ (token : List ℕ) (old new : Value) where
  -- the value is new, where there is one
  abbrev IsStored : Option Value → Bool → Type 0
  IsStored value result = MatchOption value ((result ≡ false) × (new ≡ old)) (λ v. (result ≡ true) × (new ≡ v))

  stored_put : (fits : Value → Type 0) (value : Option Value) (result : Bool) → Reads fits value_text token value → IsStored value result → IsPut fits token old new result
  stored_put fits None result h p = rw p.0 (p.1, h)
  stored_put fits (Some v) result h p = rw p.0 (rw p.1 h)

  pub kind_put : (kind : Kind) (value : Option Value) (result : Bool) → ReadsKind kind token value → IsStored value result → IsPut (IsOf kind) token old new result
  kind_put kind value result h p = stored_put (IsOf kind) value result (kind_read kind token value h) p

  pub part_put : (kind : Kind) (value : Option Value) (result : Bool) → ReadsPart kind token value → IsStored value result → IsPut (λ v. (kind_of v ≡ kind) × IsPart v) token old new result
  part_put kind value result h p = stored_put (λ v. (kind_of v ≡ kind) × IsPart v) value result (part_read kind token value h) p
