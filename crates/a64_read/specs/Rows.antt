-- Fields in a row, and what else texts are joined of.
use Rattle.std.specs.Prelude.{ℕ, ◌≡◌, Bool, true, false, List, map, Some, None}
use Rattle.std.specs.List.{AllByRecursion}
use Rattle.a64_tokens.specs.declared.value.Kind.{Kind}
use Rattle.a64_tokens.specs.declared.value.Value.{Value}
use Rattle.a64_tokens.specs.Reads.{Reads}
use Rattle.a64_read.specs.Values.{kind_of, value_text}

-- fields of these kinds
abbrev pub AreFields : (Value → Type 0) → List Kind → List Value → Type 0
AreFields fits kinds values = (map kind_of values ≡ kinds) × AllByRecursion fits values

abbrev pub texts : List Value → List (List ℕ)
texts values = map value_text values

-- the new value is the field that the token is; or, at false, the token is no such field, and the
-- value is the old one. `fits` says which fields are asked for
abbrev pub IsPut : (Value → Type 0) → List ℕ → Value → Value → Bool → Type 0
IsPut fits token old new true = Reads fits value_text token (Some new)
IsPut fits token old new false = (new ≡ old) × Reads fits value_text token None
