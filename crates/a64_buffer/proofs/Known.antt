-- Constants that are there have their bytes.
use Rattle.std.proofs.Common.{ℕ, List, Option, None, Some, IfSome}
use Rattle.std.specs.Prelude.{IsSome, IsSomeAnd}
use Rattle.std.proofs.lemmas.Bool.{false≢true}
use Rattle.a64_buffer.specs.Constants.{IsConstant}

pub known_of : (o : Option (List ℕ)) → IsSome o → IfSome o IsConstant → IsSomeAnd o IsConstant
known_of None has is = absurd (false≢true has)
known_of (Some content) has is = is
