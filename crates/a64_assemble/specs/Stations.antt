-- How elements stand in a buffer that may write islands.
use Rattle.std.specs.Prelude.{ℕ, ◌≡◌, ◌⊎◌, ◌+◌, ◌≤◌, ◌<◌, true, List, [], ◌∷◌, ◌++◌, All, Contains}
use Rattle.std.specs.Prelude.{length, slice_index, slice_index_or, Some}
use Rattle.std.specs.Ordering.{nat_cmp}
use Rattle.std.specs.FinMap.{FinMap, get}
use Rattle.a64_assemble.specs.Elements.{Element, Binding, size_in, hosts, element_at}

module _ (xs : List Element) where
  -- the labels that the first elements bind, at these places
  pub record HasLabels (count : ℕ) (places : List ℕ) (labels : FinMap nat_cmp ℕ) : Type 0 where
    pub bound : (i label : ℕ) → i < count → element_at xs i ≡ Binding label
        → get labels label ≡ Some (slice_index places i)
    pub only : (label place : ℕ) → get labels label ≡ Some place
        → (i : ℕ) × (i < count) × (element_at xs i ≡ Binding label) × (slice_index places i ≡ place)

  module _ (stations : List ℕ) where
    -- the end of element i: its place plus four bytes for each cell
    abbrev pub end_of_element : ℕ → ℕ
    end_of_element i = slice_index stations i + size_in (element_at xs i)

    -- an island stands behind element i, behind which one may stand, and is as long as a jump at
    -- least
    pub record IsIslandBehind (i : ℕ) (island : ℕ × ℕ) : Type 0 where
      pub begins : island.0 ≡ end_of_element i
      pub ends : island.1 ≡ slice_index stations (i + 1)
      pub long : island.0 + 4 ≤ island.1
      pub hosted : hosts (element_at xs i) ≡ true

    -- the next element, or the pool, stands at the end of element i, or behind a listed island
    -- there
    abbrev pub IsFollowedIn : List (ℕ × ℕ) → ℕ → Type 0
    IsFollowedIn islands i =
        (slice_index stations (i + 1) ≡ end_of_element i)
        ⊎ (Contains islands (end_of_element i, slice_index stations (i + 1))
        × IsIslandBehind i (end_of_element i, slice_index stations (i + 1)))

    -- an island stands behind exactly one of the first elements
    pub record StandsOnceIn (count : ℕ) (island : ℕ × ℕ) : Type 0 where
      pub after : ℕ
      pub within : after < count
      pub stands : IsIslandBehind after island
      pub once : (i : ℕ) → i < count → IsIslandBehind i island → i ≡ after

  -- the first elements stand in order, with islands between them, in code that ends there
  pub record IsLaid (count : ℕ) (places : List ℕ) (islands : List (ℕ × ℕ)) (end : ℕ) : Type 0 where
    pub each_placed : length places ≡ count
    pub first : slice_index (places ++ end ∷ []) 0 ≡ 0
    pub next : (i : ℕ) → i < count → IsFollowedIn (places ++ end ∷ []) islands i
    pub once : All (StandsOnceIn (places ++ end ∷ []) count) islands
    pub apart : (i j : ℕ) (d : ℕ × ℕ) → i < j → j < length islands
        → (slice_index_or islands i d).1 ≤ (slice_index_or islands j d).0
    pub below : All (λ island. island.1 ≤ end) islands
    pub rising : (i : ℕ) → i ≤ count → slice_index (places ++ end ∷ []) i ≤ end
