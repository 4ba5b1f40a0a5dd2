-- What items are to the layout of code, and what they add to it.
use Rattle.std.specs.Prelude.{ℕ, ◌≡◌, ◌+◌, ◌*◌, ◌<◌, ◌≤◌, Bool, true, false, nat_eq, List, [], ◌∷◌}
use Rattle.std.specs.Prelude.{length, map, drop, sum_by, slice_index_or, Option, None, Some}
use Rattle.std.specs.List.{list_any}
use Rattle.std.specs.Option.{unwrap_or}
use Rattle.a64_inst.specs.declared.emission.EmitFlags.{EmitFlags}
use Rattle.a64_inst.specs.declared.frame.FrameLayout.{FrameLayout}
use Rattle.a64_inst.specs.declared.item.Item.{Item}
use Rattle.a64_inst.specs.declared.item.Item.TheVariants.{Bind, Emit}
use Rattle.a64_cells.specs.Shapes.{Cell}
use Rattle.a64_cells.specs.Cells.{kept_cells}
use Rattle.a64_emit.specs.Bounds.{ranges_in, size_of, charge_of, asked}
use Rattle.a64_emit.specs.Falls.{inst_falls}
use Rattle.a64_emit.specs.Rooms.{AreCompact}

-- an item binds the label of a number, or has words, behind which execution may go on or not, or is
-- a place at which an island may stand without words before it, and asks for so much space
pub data Element : Type 0 where
  Binding : ℕ → Element
  Words : Bool → List Cell → Element
  Asking : ℕ → Element

module _ (frame : FrameLayout) (flags : EmitFlags) where
  abbrev pub element_of : Item → Element
  element_of (Bind label) = Binding label.0
  element_of (Emit inst kept) =
      elim (asked (Emit inst kept)) [
        | None ↦ Words (inst_falls inst) (kept_cells frame flags inst kept)
        | Some space ↦ Asking space
      ]

  abbrev pub elements_of : List Item → List Element
  elements_of items = map element_of items

-- ---- one of them

abbrev pub cells_in : Element → List Cell
cells_in (Binding label) = []
cells_in (Words goes_on cells) = cells
cells_in (Asking space) = []

-- four bytes for each cell
abbrev pub size_in : Element → ℕ
size_in x = 4 * length (cells_in x)

-- what islands may add to the code because of it
abbrev pub charge_in : Element → ℕ
charge_in (Binding label) = 0
charge_in (Words goes_on cells) = charge_of cells
charge_in (Asking space) = 4

-- the space that it asks for
abbrev pub space_in : Element → ℕ
space_in (Binding label) = 0
space_in (Words goes_on cells) = 0
space_in (Asking space) = space

abbrev pub growth_in : Element → ℕ
growth_in x = size_in x + charge_in x

abbrev pub some_cells : List Cell → Bool
some_cells [] = false
some_cells (c ∷ cs) = true

-- an island may stand behind words, and where it is asked for
abbrev pub hosts : Element → Bool
hosts (Binding label) = false
hosts (Words goes_on cells) = some_cells cells
hosts (Asking space) = true

abbrev pub is_asking : Element → Bool
is_asking (Binding label) = false
is_asking (Words goes_on cells) = false
is_asking (Asking space) = true

-- execution may go on behind it, so that an island there begins with a jump
abbrev pub falls_in : Element → Bool
falls_in (Binding label) = true
falls_in (Words goes_on cells) = goes_on
falls_in (Asking space) = true

-- it binds the label of a number
abbrev pub binds_number : ℕ → Element → Bool
binds_number number (Binding label) = nat_eq label number
binds_number number (Words goes_on cells) = false
binds_number number (Asking space) = false

-- its uses reach over all of its words, and over what its uses may want of an island
abbrev pub IsCompact : Element → Type 0
IsCompact x = AreCompact (cells_in x)

-- ---- lists of them

abbrev pub element_at : List Element → ℕ → Element
element_at xs i = slice_index_or xs i (Asking 0)

-- the bytes of their own words
abbrev pub sizes_in : List Element → ℕ
sizes_in xs = sum_by size_in xs

-- sizes and charges
abbrev pub growths_in : List Element → ℕ
growths_in xs = sum_by growth_in xs

-- the most that they can become: sizes, charges and asked spaces
abbrev pub whole_in : List Element → ℕ
whole_in xs = sum_by (λ x. growth_in x + space_in x) xs

-- one of them binds the label of a number
abbrev pub is_bound_by : List Element → ℕ → Bool
is_bound_by xs number = list_any (binds_number number) xs

-- no label is bound twice
abbrev pub AreBoundOnce : List Element → Type 0
AreBoundOnce xs =
    (i j label : ℕ) → i < length xs → j < length xs → element_at xs i ≡ Binding label
    → element_at xs j ≡ Binding label → i ≡ j

-- ---- what islands make room for

-- a number, and so much more
abbrev pub add_more : ℕ → Option ℕ → Option ℕ
add_more more None = None
add_more more (Some n) = Some (n + more)

-- the size of cells, and 28 for each use of them that may want something of an island
abbrev pub words_room : List Cell → Option ℕ → Option ℕ
words_room [] rest = rest
words_room (c ∷ cs) rest = Some (size_of (c ∷ cs) + 28 * length (ranges_in (c ∷ cs)))

-- what the next words may move open uses ahead by: their size, 28 for each use of them that may
-- want something of an island, and four for each place before them at which an island is asked for
abbrev pub next_room : List Element → Option ℕ
next_room [] = None
next_room (Binding label ∷ xs) = next_room xs
next_room (Words goes_on cells ∷ xs) = words_room cells (next_room xs)
next_room (Asking space ∷ xs) = add_more 4 (next_room xs)

-- the same, and nothing where no words follow
abbrev pub room_of : List Element → ℕ
room_of xs = unwrap_or (next_room xs) 0

-- a number bounds it wherever one begins: behind no element do the next words need more
abbrev pub BoundsRooms : ℕ → List Element → Type 0
BoundsRooms widest xs = (k : ℕ) → room_of (drop k xs) ≤ widest

-- what an island behind an element, in front of the rest, makes room for: the space that it asks
-- for, or what the next words need
abbrev pub ahead : Element → List Element → Option ℕ
ahead (Binding label) rest = next_room rest
ahead (Words goes_on cells) rest = next_room rest
ahead (Asking space) rest = Some space
