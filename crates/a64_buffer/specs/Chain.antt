-- The uses of each label, and the open loads of each constant, in chains.
use Rattle.std.specs.Prelude.{ℕ, ◌≡◌, ◌≢◌, ◌-◌, ◌<◌, ◌≤◌, if◌then◌else◌, List, map, length}
use Rattle.std.specs.Prelude.{slice_index, slice_index_or, Option, None, Some, is_none, MatchOption}
use Rattle.std.specs.Ordering.{nat_cmp}
use Rattle.std.specs.FinMap.{FinMap, get, contains_key, insert}
use Rattle.a64_buffer.specs.declared.site.Target.{Target}
use Rattle.a64_buffer.specs.declared.site.Target.TheVariants.{Label, Constant, Trap, IslandEnd}
use Rattle.a64_buffer.specs.declared.site.Use.{Use}
use Rattle.a64_buffer.specs.Kinds.{Kinds}
use Rattle.a64_buffer.specs.Buffer.{label_of, reached}

-- the use, which stops at a place where it has no stop and reaches it
abbrev pub with_stop : {K : Type 0} → Kinds K → ℕ → Use K → Use K
with_stop r place u = record u {
  stop = if is_none u.stop then reached r u.kind u.offset place else u.stop;
}

-- the numbers of the labels of uses, for each use
abbrev pub labels_of : {K : Type 0} → List (Use K) → List (Option ℕ)
labels_of uses = map (λ u. label_of u.target) uses

-- the number of the constant that a target is, where it is one
abbrev pub constant_of : Target → Option ℕ
constant_of (Label label) = None
constant_of (Constant constant) = Some constant.0
constant_of (Trap code) = None
constant_of IslandEnd = None

-- the number of the constant for a copy of which a use waits, where it waits for one
abbrev pub load_of : {K : Type 0} → Use K → Option ℕ
load_of u = if is_none u.stop then constant_of u.target else None

-- the numbers of the constants for which uses wait, for each use
abbrev pub loads_of : {K : Type 0} → List (Use K) → List (Option ℕ)
loads_of uses = map (λ u. load_of u) uses

-- no use from one index up to another is of the number
abbrev pub NoneBetween : List (Option ℕ) → ℕ → ℕ → ℕ → Type 0
NoneBetween labels label from to =
    (j : ℕ) → from ≤ j → j < to → slice_index_or labels j None ≢ Some label

-- one more than the index of the last use of a number among the first so many, or 0
pub record IsLast (labels : List (Option ℕ)) (label to last : ℕ) : Type 0 where
  pub within : last ≤ to
  pub none : NoneBetween labels label last to
  pub here : 0 < last → slice_index_or labels (last - 1) None ≡ Some label

-- each use of a number knows the one before it of its number, and the heads know the last of each:
-- the numbers are those of labels, or those of constants for a copy of which uses wait
pub record IsChained (labels : List (Option ℕ)) (earlier : List ℕ) (heads : FinMap nat_cmp ℕ) :
    Type 0 where
  pub same_length : length earlier ≡ length labels
  pub links : (k label : ℕ) → k < length labels → slice_index_or labels k None ≡ Some label
      → IsLast labels label k (slice_index earlier k)
  pub last : (label : ℕ)
      → MatchOption (get heads label) (IsLast labels label (length labels) 0)
      (λ h. IsLast labels label (length labels) h)

-- heads once no use of a number is left
abbrev pub emptied : ℕ → FinMap nat_cmp ℕ → FinMap nat_cmp ℕ
emptied number heads = if contains_key heads number then insert heads number 0 else heads

-- the uses of each label are in chains, and so are those that wait for a copy of each constant: no
-- use is in two of them, so that one list has the links of all
pub record AreChained {K : Type 0} (uses : List (Use K)) (earlier : List ℕ)
    (heads loads : FinMap nat_cmp ℕ) : Type 0 where
  pub labels : IsChained (labels_of uses) earlier heads
  pub constants : IsChained (loads_of uses) earlier loads
