-- Marks at bytes, and the ranges of the bytes that are marked.
use Rattle.std.specs.Prelude.{ℕ, ◌≡◌, ◌⊎◌, ◌+◌, ◌<◌, ◌≤◌, Bool, true, false, List, All, AllPairs}
use Rattle.std.specs.Prelude.{Any, length, slice_index_or}
use Rattle.a64_data.specs.declared.range.DataRange.{DataRange}

-- a byte is one of so many from a place on
pub record InBytes (place size k : ℕ) : Type 0 where
  pub from : place ≤ k
  pub before : k < place + size

-- there is a mark at a byte
abbrev pub IsMarked : List Bool → ℕ → Type 0
IsMarked marks k = slice_index_or marks k false ≡ true

-- the bytes with a property are marked besides those that were, and no others
pub record Marks (P : ℕ → Type 0) (old new : List Bool) : Type 0 where
  pub same_length : length new ≡ length old
  pub kept : (k : ℕ) → IsMarked old k → IsMarked new k
  pub marked : (k : ℕ) → k < length old → P k → IsMarked new k
  pub only : (k : ℕ) → IsMarked new k → IsMarked old k ⊎ P k

-- a byte lies in a range
abbrev pub InRange : ℕ → DataRange → Type 0
InRange k range = (range.begin ≤ k) × (k < range.end)

-- a range is not empty
abbrev pub HasBytes : DataRange → Type 0
HasBytes range = range.begin < range.end

-- a range ends before another begins, with a byte between them at least
abbrev pub EndsBefore : DataRange → DataRange → Type 0
EndsBefore range later = range.end < later.begin

-- ranges ascend, are apart, are not empty, and have the marked bytes, and no others
pub record AreRangesOf (marks : List Bool) (ranges : List DataRange) : Type 0 where
  pub apart : AllPairs EndsBefore ranges
  pub not_empty : All HasBytes ranges
  pub listed : (k : ℕ) → IsMarked marks k → Any (InRange k) ranges
  pub only : (k : ℕ) → Any (InRange k) ranges → IsMarked marks k
