-- What is true as elements are put into a buffer that writes islands, one after another.
use Rattle.std.specs.Prelude.{ℕ, ◌≡◌, ◌⊎◌, ◌+◌, ◌*◌, ◌≤◌, ◌<◌, ◌^◌, Bool, true, List, [], ◌∷◌, ◌++◌}
use Rattle.std.specs.Prelude.{All, Contains, map, take, drop, length, slice_index, Some, IfSome}
use Rattle.a64_buffer.specs.declared.force.ForceVeneers.{ForceVeneers}
use Rattle.a64_buffer.specs.declared.force.ForceVeneers.TheVariants.{Yes}
use Rattle.a64_buffer.specs.declared.site.Use.{Use}
use Rattle.a64_buffer.specs.Buffer.{Buffer, end_of, label_of}
use Rattle.a64_buffer.specs.Classes.{owed, owed_to, Fits}
use Rattle.a64_label_use.specs.declared.label_use.LabelUse.{LabelUse}
use Rattle.a64_cells.specs.declared.site.Site.{Site}
use Rattle.a64_label_use.specs.LabelUses.{label_kinds}
use Rattle.a64_cells.specs.Cells.{sites_of}
use Rattle.a64_emit.specs.Layout.{standing}
use Rattle.a64_emit.specs.Emission.{site_of, IsPut}
use Rattle.a64_emit.specs.Reach.{is_near}
use Rattle.a64_assemble.specs.Elements.{Element, cells_in, size_in, IsCompact, AreBoundOnce}
use Rattle.a64_assemble.specs.Elements.{growths_in, whole_in, room_of, is_asking, element_at}
use Rattle.a64_assemble.specs.Stations.{HasLabels, IsLaid}
use Rattle.a64_assemble.specs.LooseUses.{alive, loose_in, IsBehind, AreSpread}
use Rattle.a64_assemble.specs.OpenUses.{WasAsked, WasLeft, IsQuietElement, UseIsQuiet}

-- what is asked of elements
pub record AreGood (xs : List Element) : Type 0 where
  pub compact : All IsCompact xs
  pub once : AreBoundOnce xs
  pub short : whole_in xs < 2 ^ 31

-- nothing can want an island
abbrev pub AreQuiet : ForceVeneers → List Element → Type 0
AreQuiet force xs = All (IsQuietElement force (whole_in xs)) xs

module _ (force : ForceVeneers) (xs : List Element) where
  -- an element at which an island is asked for has one, or no use was open there
  abbrev pub IsForcedAt : List ℕ → Buffer LabelUse → ℕ → Type 0
  IsForcedAt stations b i =
      (slice_index stations i + 4 ≤ slice_index stations (i + 1)) ⊎ WasLeft xs stations b i

  -- the first elements were put, at these places: what follows has room, and the code is short;
  -- they are laid, their labels bound, their cells stand; and islands stand where they were asked
  -- for, and were forced
  pub record HasPut (count : ℕ) (places : List ℕ) (b : Buffer LabelUse) : Type 0 where
    pub room : Fits label_kinds b (room_of (drop count xs))
    pub bounded : end_of b + owed label_kinds b ≤ growths_in (take count xs)
    pub laid : IsLaid xs count places b.islands (end_of b)
    pub labels : HasLabels xs count places b.labels
    pub cells : All (IsPut b) (standing (map cells_in (take count xs)) places)
    pub asked : All (WasAsked force xs count (places ++ end_of b ∷ []) b) b.islands
    pub quiet : AreQuiet force xs → (b.islands ≡ []) × All (UseIsQuiet force (whole_in xs)) b.uses
    pub forced : force ≡ Yes → (i : ℕ) → i < count → is_asking (element_at xs i) ≡ true
        → IsForcedAt (places ++ end_of b ∷ []) b i

-- some element uses the label of a number
pub record IsUsedIn (xs : List Element) (label : ℕ) : Type 0 where
  pub element : ℕ
  pub within : element < length xs
  pub site : Site
  pub stands : Contains (sites_of (cells_in (element_at xs element))) site
  pub label_is : label_of site.target ≡ Some label

-- a use is that of one of the first elements, in which it stands
pub record StandsIn (xs : List Element) (count : ℕ) (stations : List ℕ) (u : Use LabelUse) : Type 0
  where
    pub element : ℕ
    pub within : element < count
    pub stands : Contains (sites_of (cells_in (element_at xs element))) (site_of u).1
    pub low : slice_index stations element ≤ u.offset
    pub high : u.offset < slice_index stations element + size_in (element_at xs element)

-- the uses of labels are those of elements; those that need their label near stand in their
-- elements; and what is owed, and how far places come apart, are sums over the elements
pub record HasDistances (xs : List Element) (count : ℕ) (places : List ℕ) (b : Buffer LabelUse) :
    Type 0 where
  pub used : All (λ u. IfSome (label_of u.target) (IsUsedIn xs)) b.uses
  pub near : All (λ u. is_near (site_of u).1 ≡ true
      → StandsIn xs count (places ++ end_of b ∷ []) u) b.uses
  pub live : (test : ℕ → Bool) → owed_to label_kinds test b ≤ 28 * alive test (take count xs)
  pub behind : (i : ℕ) → i ≤ count → IsBehind xs count (places ++ end_of b ∷ []) b i
  pub grows : (i : ℕ) → i ≤ count
      → end_of b + owed label_kinds b
      ≤ slice_index (places ++ end_of b
      ∷ []) i + growths_in (drop i (take count xs)) + 28 * loose_in (take i xs)
  pub spread : (i j : ℕ) → i ≤ j → j ≤ count → AreSpread xs (places ++ end_of b ∷ []) i j
