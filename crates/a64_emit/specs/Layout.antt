-- Where the items of finished code stand.
use Rattle.std.specs.Prelude.{ℕ, ℤ, ◌≡◌, ◌≢◌, ◌⊎◌, ◌↔◌, ◌+◌, ◌*◌, ◌%◌, ◌<◌, ◌≤◌, List, [], ◌∷◌}
use Rattle.std.specs.Prelude.{◌++◌, All, Contains, true, map, length, if◌then◌else◌, slice_index}
use Rattle.std.specs.Prelude.{slice_index_or, slice_get, Option, None, Some, IsSome, option_map}
use Rattle.std.specs.Prelude.{option_and_then}
use Rattle.std.specs.List.{filter_map}
use Rattle.std.specs.List.Sorted.{IsStrictlyIncreasing}
use Rattle.a64_base.specs.declared.entity.ExternalName.{ExternalName}
use Rattle.a64_base.specs.declared.entity.Reloc.{Reloc}
use Rattle.a64_base.specs.declared.entity.TrapCode.{TrapCode}
use Rattle.a64_base.specs.declared.entity.UserStackMap.{UserStackMap}
use Rattle.a64_buffer.specs.Buffer.{Records}
use Rattle.a64_base.specs.declared.entity.MachLabel.{MachLabel}
use Rattle.a64_inst.specs.declared.emission.EmitFlags.{EmitFlags}
use Rattle.a64_inst.specs.declared.frame.FrameLayout.{FrameLayout}
use Rattle.a64_words.specs.Word.{outside, word_at}
use Rattle.a64_inst.specs.declared.item.Item.{Item}
use Rattle.a64_inst.specs.declared.item.Item.TheVariants.{Bind}
use Rattle.a64_emit.specs.declared.code.Code.{Code}
use Rattle.a64_label_use.specs.LabelUses.{mask_for}
use Rattle.a64_cells.specs.declared.site.Site.{Site}
use Rattle.a64_cells.specs.Shapes.{Relocation, Cell}
use Rattle.a64_cells.specs.Cells.{cell_word, cells_of}
use Rattle.a64_emit.specs.Falls.{falls_at}
use Rattle.a64_emit.specs.Leads.{JumpsTo}
use Rattle.a64_emit.specs.Bounds.{asked}

-- cells that stand one behind another from a place on, each with its own place
abbrev pub placed : ℕ → List Cell → List (ℕ × Cell)
placed place [] = []
placed place (c ∷ cs) = (place, c) ∷ placed (place + 4) cs

-- the cells of all items, each with its place
abbrev pub standing : List (List Cell) → List ℕ → List (ℕ × Cell)
standing (cs ∷ css) (place ∷ places) = placed place cs ++ standing css places
standing _ _ = []

-- the trap that is recorded at a cell's place, where there is one
abbrev pub trap_at : ℕ × Cell → Option (ℕ × TrapCode)
trap_at s = option_map (λ code. (s.0, code)) s.1.marks.trap

-- the traps of cells at their places
abbrev pub traps_in : List (ℕ × Cell) → List (ℕ × TrapCode)
traps_in cells = filter_map trap_at cells

-- the relocation that is recorded at a cell's place, where there is one
abbrev pub reloc_at : ℕ × Cell → Option (ℕ × Reloc × ExternalName × ℤ)
reloc_at s = option_map (λ (reloc : Relocation). (s.0, reloc.0, reloc.1, reloc.2)) s.1.marks.reloc

-- the relocations of cells at their places
abbrev pub relocs_in : List (ℕ × Cell) → List (ℕ × Reloc × ExternalName × ℤ)
relocs_in cells = filter_map reloc_at cells

-- the place behind a cell, where a call returns to it
abbrev pub call_at : ℕ × Cell → Option ℕ
call_at s = if s.1.marks.call then Some (s.0 + 4) else None

-- the calls of cells at their places
abbrev pub calls_in : List (ℕ × Cell) → List ℕ
calls_in cells = filter_map call_at cells

-- the place behind the words of a call that may be changed later, of which a cell is the first, and
-- how many bytes they have
abbrev pub patchable_at : ℕ × Cell → Option (ℕ × ℕ)
patchable_at s = option_map (λ len. (s.0 + len, len)) s.1.marks.patchable

-- such calls of cells at their places
abbrev pub patchable_in : List (ℕ × Cell) → List (ℕ × ℕ)
patchable_in cells = filter_map patchable_at cells

-- the place behind a cell, and the map of the stack that is recorded there, where there is one
abbrev pub map_at : ℕ × Cell → Option (ℕ × UserStackMap)
map_at s = option_map (λ map. (s.0 + 4, map)) s.1.marks.map

-- the maps of cells at their places
abbrev pub maps_in : List (ℕ × Cell) → List (ℕ × UserStackMap)
maps_in cells = filter_map map_at cells

-- what cells at their places record beside traps
abbrev pub records_in : List (ℕ × Cell) → Records
records_in cells = record {
  relocs = relocs_in cells;
  calls = calls_in cells;
  patchable = patchable_in cells;
  maps = maps_in cells;
}

-- records, and others behind them
abbrev pub more_records : Records → Records → Records
more_records rs more = record {
  relocs = rs.relocs ++ more.relocs;
  calls = rs.calls ++ more.calls;
  patchable = rs.patchable ++ more.patchable;
  maps = rs.maps ++ more.maps;
}

-- the bits of a cell's word that its use may change
abbrev pub site_mask : Option Site → ℕ
site_mask None = 0
site_mask (Some site) = mask_for site.kind

-- at a cell's place stands its word, in all bits outside of the field of its use
abbrev pub Stands : List ℕ → ℕ × Cell → Type 0
Stands bytes s =
    outside (site_mask s.1.site) (word_at bytes s.0) ≡ outside (site_mask s.1.site) (cell_word s.1)

-- a `Bind` item of the label stands at the place
abbrev pub IsBoundAt : List Item → List ℕ → MachLabel → ℕ → Type 0
IsBoundAt items places label place =
    (i : ℕ) × (slice_get items i ≡ Some (Bind label)) × (slice_get places i ≡ Some place)

module _ (frame : FrameLayout) (flags : EmitFlags) (items : List Item) (code : Code) where
  -- the cells of each item
  abbrev pub item_cells : List (List Cell)
  item_cells = map (cells_of frame flags) items

  -- the places of the items, and of the pool behind the last one
  abbrev pub stations : List ℕ
  stations = code.places.items ++ code.pool ∷ []

  -- the end of item i: its place plus four bytes for each cell
  abbrev pub end_of_item : ℕ → ℕ
  end_of_item i = slice_index stations i + 4 * length (slice_index_or item_cells i [])

  -- a listed island stands behind item i, which has words or is a place for an island. Where the
  -- item falls, as a place for an island does, the island begins with a jump to its end
  pub record IsIslandAfter (i : ℕ) (island : ℕ × ℕ) : Type 0 where
    pub listed : Contains code.islands.items island
    pub long : island.0 + 4 ≤ island.1
    pub begins : island.0 ≡ end_of_item i
    pub ends : island.1 ≡ slice_index stations (i + 1)
    pub has_words : (slice_index_or item_cells i [] ≢ [])
        ⊎ IsSome (option_and_then asked (slice_get items i))
    pub jumped : falls_at items i ≡ true → JumpsTo code island.0 island.1

  -- the next item, or the pool, stands at the end of item i, or behind an island there
  abbrev pub IsFollowed : ℕ → Type 0
  IsFollowed i =
      (slice_index stations (i + 1) ≡ end_of_item i)
      ⊎ IsIslandAfter i (end_of_item i, slice_index stations (i + 1))

  -- an island stands after exactly one item
  pub record StandsOnce (island : ℕ × ℕ) : Type 0 where
    pub after : ℕ
    pub within : after < length items
    pub stands : IsIslandAfter after island
    pub once : (i : ℕ) → i < length items → IsIslandAfter i island → i ≡ after

  -- the items stand at their places, in order, with only islands between them that no item runs
  -- into, and one pool behind them
  pub record Laid : Type 0 where
    pub count : length code.places.items ≡ length items
    pub first : slice_index stations 0 ≡ 0
    pub next : (i : ℕ) → i < length items → IsFollowed i
    pub islands : All StandsOnce code.islands.items
    pub islands_ordered : IsStrictlyIncreasing (map (λ island. island.0) code.islands.items)
    pub cells : All (Stands code.bytes.items) (standing item_cells code.places.items)
    pub labels_ordered : IsStrictlyIncreasing (map (λ e. e.0.0) code.labels.items)
    pub labels : (label : MachLabel) (place : ℕ) → Contains code.labels.items (label, place)
        ↔ IsBoundAt items code.places.items label place
    pub whole_words : length code.bytes.items % 4 ≡ 0
    pub pool : code.pool ≤ length code.bytes.items
