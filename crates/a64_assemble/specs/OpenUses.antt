-- Which uses are open at a place of a finished buffer, and why islands were asked for.
use Rattle.std.specs.Prelude.{ℕ, ◌≡◌, ◌⊎◌, ◌+◌, ◌-◌, ◌*◌, ◌^◌, ◌<◌, Bool, true, false, not, ◌&&◌}
use Rattle.std.specs.Prelude.{nat_eq, nat_le, nat_lt, List, take, drop, All, length, slice_index}
use Rattle.std.specs.Prelude.{slice_index_or, count_by, Option, None, Some, IsSome}
use Rattle.std.specs.Ordering.{nat_cmp}
use Rattle.std.specs.FinMap.{FinMap, get}
use Rattle.a64_buffer.specs.declared.class.Class.TheVariants.{Far}
use Rattle.a64_buffer.specs.declared.force.ForceVeneers.{ForceVeneers}
use Rattle.a64_buffer.specs.declared.force.ForceVeneers.TheVariants.{No, Yes}
use Rattle.a64_buffer.specs.declared.site.Use.{Use}
use Rattle.a64_buffer.specs.Buffer.{Buffer, end_of, label_of}
use Rattle.a64_buffer.specs.Classes.{level_of, wants, class, range_of, is_open, Fits}
use Rattle.a64_buffer.specs.Later.{IsLater}
use Rattle.a64_buffer.specs.Sound.{IsWhole}
use Rattle.a64_buffer.specs.Islands.{HasIsland}
use Rattle.a64_label_use.specs.declared.label_use.LabelUse.{LabelUse}
use Rattle.a64_label_use.specs.LabelUses.{label_kinds}
use Rattle.a64_cells.specs.Cells.{sites_of}
use Rattle.a64_cells.specs.declared.site.Site.{Site}
use Rattle.a64_emit.specs.Contents.{site_class}
use Rattle.a64_assemble.specs.Elements.{Element, cells_in, is_asking, falls_in, is_bound_by, ahead}
use Rattle.a64_assemble.specs.Elements.{element_at}
use Rattle.a64_assemble.specs.Stations.{IsIslandBehind}

-- a stop is at a place or behind it
abbrev pub stops_from : ℕ → Option ℕ → Bool
stops_from a None = false
stops_from a (Some stop) = nat_le a stop

-- a stop is at the place
abbrev pub is_place : Option ℕ → Option ℕ → Bool
is_place None stop = false
is_place (Some place) None = false
is_place (Some place) (Some stop) = nat_eq place stop

-- a use stops at its label, which element k or one before it binds
abbrev pub stops_at_label : List Element → FinMap nat_cmp ℕ → ℕ → Option ℕ → Option ℕ → Bool
stops_at_label xs labels k None stop = false
stops_at_label xs labels k (Some label) stop =
    is_place (get labels label) stop && is_bound_by (take (k + 1) xs) label

-- how far ahead a use reaches that may want something of an island
abbrev pub reach_of : Use LabelUse → ℕ
reach_of u = range_of label_kinds (level_of (class label_kinds u))

module _ (xs : List Element) (final : Buffer LabelUse) where
  -- a use that stands before b is open at the end a of element k: it does not stop before a, unless
  -- it stops at its label's place, and that label is bound by then
  abbrev pub is_open_in : ℕ → ℕ → ℕ → Use LabelUse → Bool
  is_open_in k a b u =
      nat_lt u.offset b && wants (class label_kinds u) && stops_from a u.stop
      && not (stops_at_label xs final.labels k (label_of u.target) u.stop)

  abbrev pub is_open_at : ℕ → ℕ → Use LabelUse → Bool
  is_open_at k a u = is_open_in k a a u

  -- how many uses are open there
  abbrev pub open_at : ℕ → ℕ → ℕ
  open_at k a = count_by (is_open_at k a) final.uses

  -- some use is open there
  pub record SomeOpenAt (k a : ℕ) : Type 0 where
    pub index : ℕ
    pub within : index < length final.uses
    pub open' : (d : Use LabelUse) → is_open_at k a (slice_index_or final.uses index d) ≡ true

  -- one of the uses that stand before b and are open at a, and passes a test, reaches less than
  -- what the worst island needs, and the space behind it
  pub record Needs (k a b space : ℕ) (passes : Use LabelUse → Type 0) : Type 0 where
    pub index : ℕ
    pub within : index < length final.uses
    pub open' : (d : Use LabelUse) → is_open_in k a b (slice_index_or final.uses index d) ≡ true
    pub passed : (d : Use LabelUse) → passes (slice_index_or final.uses index d)
    pub late :
        (d : Use LabelUse)
        → (slice_index_or final.uses index d).offset + reach_of (slice_index_or final.uses index d)
        < a + 4 + 28 * count_by (is_open_in k a b) final.uses + space

  -- a use that is open at an island, or is a veneer in it, stops in the island
  abbrev pub StopsIn : ℕ → ℕ × ℕ → Use LabelUse → Type 0
  StopsIn k island u =
      is_open_in k island.0 island.1 u ≡ true
      → (stop : ℕ) × (u.stop ≡ Some stop) × (stop < island.1)

  -- it stops at its end or behind it
  abbrev pub StopsBehind : ℕ → ℕ × ℕ → Use LabelUse → Type 0
  StopsBehind k island u =
      is_open_in k island.0 island.1 u ≡ true → stops_from island.1 u.stop ≡ true

  -- whatever is open there and is not of the longest range stops in the island; of the others,
  -- veneers in the island included, none does, and islands are not forced, or all do, and that is
  -- needed, or islands are forced
  pub record Holds (force : ForceVeneers) (k space : ℕ) (island : ℕ × ℕ) : Type 0 where
    pub near : All (λ u. (class label_kinds u ≡ Far → ⊥) → StopsIn k island u) final.uses
    pub far : (All (λ u. class label_kinds u ≡ Far → StopsBehind k island u) final.uses
        × (force ≡ No))
        ⊎ (All (λ u. class label_kinds u ≡ Far → StopsIn k island u) final.uses
        × (Needs k island.0 island.1 space (λ u. class label_kinds u ≡ Far) ⊎ (force ≡ Yes)))

  -- an island is needed where it stands, or forced where one is asked for and some use is open
  pub record IsCaused (force : ForceVeneers) (stations : List ℕ) (island : ℕ × ℕ) : Type 0 where
    pub after : ℕ
    pub within : after < length xs
    pub stands : IsIslandBehind xs stations after island
    pub space : ℕ
    pub space_is : ahead (element_at xs after) (drop (after + 1) xs) ≡ Some space
    pub cause :
        Needs after island.0 island.0 space (λ u. Unit {0})
        ⊎ ((is_asking (element_at xs after) ≡ true) × (force ≡ Yes) × SomeOpenAt after island.0)
    pub holds : Holds force after space island

-- why an island was asked for, told from the buffer at that moment
abbrev pub Cause : ForceVeneers → Element → List Element → Buffer LabelUse → Type 0
Cause force x rest b =
    ((space : ℕ) × (ahead x rest ≡ Some space) × (Fits label_kinds b space → ⊥))
    ⊎ ((is_asking x ≡ true) × (force ≡ Yes) × (Fits label_kinds b (2 ^ 32 - 1) → ⊥))

-- an island was asked for behind one of the first elements
pub record WasAsked (force : ForceVeneers) (xs : List Element) (count : ℕ) (stations : List ℕ)
    (now : Buffer LabelUse) (island : ℕ × ℕ) : Type 0 where
  pub after : ℕ
  pub within : after < count
  pub stands : IsIslandBehind xs stations after island
  pub moment : Buffer LabelUse
  pub at : end_of moment ≡ island.0
  pub whole : IsWhole label_kinds moment
  pub cause : Cause force (element_at xs after) (drop (after + 1) xs) moment
  pub bound : (n : ℕ) → is_bound_by (take (after + 1) xs) n ≡ true → IsSome (get moment.labels n)
  pub only :
      (label place : ℕ) → get moment.labels label ≡ Some place
      → is_bound_by (take (after + 1) xs) label ≡ true
  pub distance : ℕ
  pub distance_is : ahead (element_at xs after) (drop (after + 1) xs) ≡ Some distance
  pub written : Buffer LabelUse
  pub ends : end_of written ≡ island.1
  pub has : HasIsland label_kinds distance force (falls_in (element_at xs after)) moment written
  pub since : IsLater written now

-- no island was written at one of the first elements, where one is asked for, and no use was open
-- there
pub record WasLeft (xs : List Element) (stations : List ℕ) (now : Buffer LabelUse) (i : ℕ) : Type 0
  where
    pub moment : Buffer LabelUse
    pub at : end_of moment ≡ slice_index stations i
    pub whole : IsWhole label_kinds moment
    pub closed : All (λ u. is_open label_kinds u ≡ false) moment.uses
    pub bound :
        (label place : ℕ) → get moment.labels label ≡ Some place
        → is_bound_by (take (i + 1) xs) label ≡ true
    pub later : IsLater moment now

-- a use may want nothing of an island, or none is forced and so much code is shorter than its range
abbrev pub SiteIsQuiet : ForceVeneers → ℕ → Site → Type 0
SiteIsQuiet force size s =
    wants (site_class s) ≡ true
    → (force ≡ No) × (size < range_of label_kinds (level_of (site_class s)))

abbrev pub IsQuietElement : ForceVeneers → ℕ → Element → Type 0
IsQuietElement force size x = All (SiteIsQuiet force size) (sites_of (cells_in x))

abbrev pub UseIsQuiet : ForceVeneers → ℕ → Use LabelUse → Type 0
UseIsQuiet force size u =
    wants (class label_kinds u) ≡ true → (force ≡ No) × (size < reach_of u)
