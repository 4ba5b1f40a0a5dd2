-- What reading a field that may stand with commas between answers.
use Rattle.std.specs.Prelude.{ℕ, List, ◌≡◌, Bool, true, false, Option, None}
use Rattle.a64_tokens.specs.declared.value.Kind.{Kind}
use Rattle.a64_tokens.specs.declared.value.Value.{Value}
use Rattle.a64_read.specs.Parts.{is_part}
use Rattle.a64_read.specs.Values.{ReadsKind}

-- of a kind of such fields what it is, and of another kind nothing
abbrev pub ReadsWhere : Bool → Kind → List ℕ → Option Value → Type 0
ReadsWhere true kind token result = ReadsKind kind token result
ReadsWhere false kind token result = result ≡ None

abbrev pub ReadsPart : Kind → List ℕ → Option Value → Type 0
ReadsPart kind token result = ReadsWhere (is_part kind) kind token result
