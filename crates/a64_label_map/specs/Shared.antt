-- A map from numbers as a table and a tree.
use Rattle.std.specs.Prelude.{ℕ, suc, ◌≡◌, ◌+◌, ◌*◌, ◌^◌, ◌<◌, ◌≤◌, List, [], ◌∷◌, ◌++◌, length}
use Rattle.std.specs.Prelude.{Option, None, Some}
use Rattle.std.specs.Ordering.{nat_cmp}
use Rattle.std.specs.FinMap.{FinMap, from_entries, get, len}
use Rattle.std.specs.BTreeMap as tree
use Rattle.std.specs.BTreeMap.{BTreeMap}

-- the entries of a table of which the first number is given
abbrev pub numbered : {X : Type 0} → ℕ → List (Option X) → List (ℕ × X)
numbered first [] = []
numbered first (None ∷ values) = numbered (suc first) values
numbered first (Some x ∷ values) = (first, x) ∷ numbered (suc first) values

-- the map that a table and a tree are
abbrev pub whole : {X : Type 0} → List (Option X) → BTreeMap ℕ X → FinMap nat_cmp X
whole table others = from_entries (numbered 0 table ++ others.entries)

-- the tree has no number of the table, and so each number stands in one of them
pub record AreShared {X : Type 0} (table : List (Option X)) (others : BTreeMap ℕ X) : Type 0 where
  pub short : length table ≤ 2 ^ 32
  pub apart : (number : ℕ) → number < length table → tree.get nat_cmp others number ≡ None

-- and the table is not much longer than the map, and the numbers that are expected besides. Each
-- number has 32 bits, so there are 2 ^ 32 of them at most
pub record IsBalanced {X : Type 0} (table : List (Option X)) (others : BTreeMap ℕ X)
    (count expected : ℕ) : Type 0 where
  pub shared : AreShared table others
  pub counted : count ≤ len (whole table others)
  pub within : (number : ℕ) → 2 ^ 32 ≤ number → get (whole table others) number ≡ None
  pub few : length table ≤ 2 * (count + expected + 64)
