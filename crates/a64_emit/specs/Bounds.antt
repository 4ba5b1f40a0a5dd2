-- How long code can become, and how far its uses reach: sums over the items.
use Rattle.std.specs.Prelude.{ℕ, ◌≡◌, ◌+◌, ◌-◌, ◌*◌, ◌^◌, if◌then◌else◌, List, [], ◌∷◌, length}
use Rattle.std.specs.Prelude.{min, sum_by, Option, None, Some}
use Rattle.std.specs.List.{filter_map}
use Rattle.std.specs.Option.{option_map_or, unwrap_or}
use Rattle.a64_inst.specs.declared.emission.EmitFlags.{EmitFlags}
use Rattle.a64_inst.specs.declared.frame.FrameLayout.{FrameLayout}
use Rattle.a64_inst.specs.declared.inst.Inst.{Inst}
use Rattle.a64_inst.specs.declared.inst.Inst.TheVariants as insts
use Rattle.a64_inst.specs.declared.item.Item.{Item}
use Rattle.a64_inst.specs.declared.item.Item.TheVariants.{Bind, Emit}
use Rattle.a64_buffer.specs.declared.site.Target.TheVariants.{Label, Constant, Trap, IslandEnd}
use Rattle.a64_cells.specs.declared.site.Site.{Site}
use Rattle.a64_label_use.specs.LabelUses.{forward_range, has_veneer}
use Rattle.a64_cells.specs.Shapes.{Cell}
use Rattle.a64_cells.specs.Cells.{sites_of, cells_of, all_cells}

-- the forward range of a use that may want something of an island: a use of a label, of a kind that
-- supports a veneer, or of a constant or a trap
abbrev pub veneer_range : Site → Option ℕ
veneer_range site = elim site.target [
  | Label label ↦ if has_veneer site.kind then Some (forward_range site.kind) else None
  | Constant constant ↦ Some (forward_range site.kind)
  | Trap code ↦ Some (forward_range site.kind)
  | IslandEnd ↦ None
]

-- the ranges of the uses of cells that may want veneers
abbrev pub ranges_in : List Cell → List ℕ
ranges_in cells = filter_map veneer_range (sites_of cells)

-- four bytes for each cell
abbrev pub size_of : List Cell → ℕ
size_of cells = 4 * length cells

-- four bytes where there are cells, and 28 for each use that may want a veneer
abbrev pub charge_of : List Cell → ℕ
charge_of [] = 0
charge_of (c ∷ cs) = 4 + 28 * length (ranges_in (c ∷ cs))

-- the lesser of two numbers, of which either may be missing
abbrev pub lesser : Option ℕ → Option ℕ → Option ℕ
lesser None b = b
lesser (Some a) b = Some (option_map_or (min a) b a)

-- the least of some numbers
abbrev pub least : List ℕ → Option ℕ
least [] = None
least (x ∷ xs) = lesser (Some x) (least xs)

-- the space that an instruction asks for, where it is a place for an island
abbrev pub asked_of : Inst → Option ℕ
asked_of (insts.EmitIsland needed_space) = Some needed_space
asked_of _ = None

-- the space that an item asks for
abbrev pub asked : Item → Option ℕ
asked (Bind label) = None
asked (Emit inst map) = asked_of inst

module _ (frame : FrameLayout) (flags : EmitFlags) where
  -- the bytes of an item's own words
  abbrev pub item_size : Item → ℕ
  item_size item = size_of (cells_of frame flags item)

  -- what islands may add to the code because of an item
  abbrev pub item_charge : Item → ℕ
  item_charge item =
      elim (asked item) [ None ↦ charge_of (cells_of frame flags item) | Some space ↦ 4 ]

  -- the most that an item adds to the code
  abbrev pub growth_of : Item → ℕ
  growth_of item = item_size item + (item_charge item + unwrap_or (asked item) 0)

  -- the sum of sizes, charges and asked spaces
  abbrev pub whole : List Item → ℕ
  whole items = sum_by growth_of items

  -- the shortest forward range of all uses that may want veneers
  abbrev pub shortest : List Item → Option ℕ
  shortest items = least (ranges_in (all_cells frame flags items))

-- a number, or the greatest of 64 bits where it is greater
abbrev pub saturated : ℕ → ℕ
saturated n = min n (2 ^ 64 - 1)

-- what cells add to the sums, up to the greatest number of 64 bits, and the shortest range of their
-- uses
pub record AreExtent (cells : List Cell) (size charge : ℕ) (range : Option ℕ) : Type 0 where
  pub size_is : size ≡ saturated (size_of cells)
  pub charge_is : charge ≡ saturated (charge_of cells)
  pub range_is : range ≡ least (ranges_in cells)

-- what an item adds to the sums, up to the greatest number of 64 bits, and its shortest range
pub record IsExtent (frame : FrameLayout) (flags : EmitFlags) (item : Item) (size charge : ℕ)
    (range : Option ℕ) : Type 0 where
  pub size_is : size ≡ saturated (item_size frame flags item)
  pub charge_is : charge ≡ saturated (item_charge frame flags item + unwrap_or (asked item) 0)
  pub range_is : range ≡ least (ranges_in (cells_of frame flags item))
