-- What stands in islands and in the pool of finished code, and for whom.
use Rattle.std.specs.Prelude.{ℕ, ◌≡◌, ◌≢◌, ◌⊎◌, ◌+◌, ◌*◌, ◌<◌, ◌≤◌, true, false, List, All, Any}
use Rattle.std.specs.Prelude.{Contains, length, slice_index, Some, IfSome, IsSome}
use Rattle.std.specs.List.{AllPairs, flat_map}
use Rattle.std.specs.Ordering.{nat_cmp}
use Rattle.std.specs.FinMap.{FinMap}
use Rattle.a64_buffer.specs.declared.site.Use.{Use}
use Rattle.a64_buffer.specs.declared.site.Target.{Target}
use Rattle.a64_words.specs.Word.{outside, word_at}
use Rattle.a64_buffer.specs.Kinds.{Kinds}
use Rattle.a64_buffer.specs.Buffer.{goal_of, is_within}
use Rattle.a64_buffer.specs.Chain.{constant_of}
use Rattle.a64_buffer.specs.Classes.{class, wants}
use Rattle.a64_buffer.specs.Pieces.{ComesBefore, StopsAtPiece, StopsWith, pieces, piece_words}
use Rattle.a64_buffer.specs.Pieces.{piece_sites}

-- over the code's bytes
module _ {K : Type 0} (r : Kinds K) (bytes : List ℕ) where
  -- a word stands at a place as it was put, but for what a use may change that stands there
  pub record StandsAs (sites : List (ℕ × Target × K)) (place word : ℕ) : Type 0 where
    pub free : All (λ s. s.0 ≢ place) sites → word_at bytes place ≡ word
    pub used :
        All (λ s. s.0 ≡ place
        → outside (r.mask s.2) (word_at bytes place) ≡ outside (r.mask s.2) word) sites

  -- and over the bytes of the constants
  module _ (constants : FinMap nat_cmp (List ℕ)) where
    -- the words of a piece stand where it begins, one behind another
    abbrev pub HasPiece : ℕ × Use K → Type 0
    HasPiece piece =
        (i : ℕ) → i < length (piece_words r constants piece)
        → StandsAs (piece_sites r constants piece) (piece.0 + 4 * i)
        (slice_index (piece_words r constants piece) i)

    -- between two places stand the pieces of some of the uses, which stop at them, in the order of
    -- islands, and nothing else: each is of a use that stands before the end, and whose label was
    -- not bound within its reach; each constant has one copy, for the first of its loads that stop
    -- from the begin on; and what may want something and stops there, but not at its label's place,
    -- does so by one of these pieces
    pub record HoldsArea (uses : List (Use K)) (bound labels : FinMap nat_cmp ℕ)
        (begin from to : ℕ) : Type 0 where
      pub served : List (Use K)
      pub among : All (λ u. Contains uses u) served
      pub wanting : All (λ u. wants (class r u) ≡ true) served
      pub placed : All (λ u. u.offset < to) served
      pub far_off :
          All (λ u. IfSome (goal_of bound u.target)
          (λ place. is_within r u.kind u.offset place ≡ false)) served
      pub in_order : AllPairs (ComesBefore r) served
      pub first' :
          All (λ u. IsSome (constant_of u.target) → All (λ v. v.target ≡ u.target
          → IfSome v.stop (λ stop. begin ≤ stop → u.offset ≤ v.offset)) uses) served
      pub stops : All (StopsAtPiece r constants) (pieces r constants from served)
      pub fills : All HasPiece (pieces r constants from served)
      pub ends :
          from + 4 * length (flat_map (piece_words r constants) (pieces r constants from served))
          ≡ to
      pub answered :
          All (λ u. wants (class r u) ≡ true → IfSome u.stop (λ stop. begin ≤ stop → stop < to
          → (goal_of labels u.target ≡ Some stop) ⊎ Any (StopsWith u) served)) uses
