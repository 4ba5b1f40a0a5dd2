-- A text has a token.
use Rattle.std.specs.Prelude.{ℕ, ◌==◌, ◌<◌, List, length}
use Rattle.std.specs.List.{slice_split}
use Rattle.std.proofs.Common.{arith}
use Rattle.std.proofs.lemmas.List.Splits.{length-slice_split}

pub some_token : (separator : ℕ) (text : List ℕ)
    → 0 < length (slice_split (λ b. b == separator) text)
some_token separator text = omega (arith, length-slice_split (λ b. b == separator) text)
