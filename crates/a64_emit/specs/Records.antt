-- What is recorded of finished code.
use Rattle.std.specs.Prelude.{ℕ, ℤ, ◌≡◌, ◌⊎◌, ◌↔◌, ◌+◌, List, [], ◌∷◌, ◌++◌, Contains, map, length}
use Rattle.std.specs.Prelude.{slice_get, Some}
use Rattle.std.specs.List.Sorted.{IsStrictlyIncreasing}
use Rattle.a64_base.specs.declared.entity.Reloc.{Reloc}
use Rattle.a64_base.specs.declared.entity.ExternalName.{ExternalName}
use Rattle.a64_base.specs.declared.entity.TrapCode.{TrapCode}
use Rattle.a64_base.specs.declared.entity.UserStackMap.{UserStackMap}
use Rattle.a64_inst.specs.declared.emission.EmitFlags.{EmitFlags}
use Rattle.a64_inst.specs.declared.frame.FrameLayout.{FrameLayout}
use Rattle.a64_inst.specs.declared.item.Item.{Item}
use Rattle.a64_buffer.specs.declared.site.Target.TheVariants.{Trap}
use Rattle.a64_buffer.specs.Buffer.{Records}
use Rattle.a64_buffer.specs.ByPlace.{AreRecordedByPlace}
use Rattle.a64_emit.specs.declared.code.Code.{Code}
use Rattle.a64_label_use.specs.declared.label_use.LabelUse.{LabelUse}
use Rattle.a64_cells.specs.Shapes.{Cell}
use Rattle.a64_cells.specs.Cells.{cell_word, cells_of}
use Rattle.a64_emit.specs.Leads.{StopsAt}
use Rattle.a64_emit.specs.Layout.{placed, standing, relocs_in, calls_in, patchable_in, maps_in}
use Rattle.a64_emit.specs.Layout.{traps_in}

-- the records of an item, by their offsets from the item's place; those of deferred traps are where
-- these stop
module _ (frame : FrameLayout) (flags : EmitFlags) where
  abbrev pub relocs_of : Item → List (ℕ × Reloc × ExternalName × ℤ)
  relocs_of item = relocs_in (placed 0 (cells_of frame flags item))

  abbrev pub traps_of : Item → List (ℕ × TrapCode)
  traps_of item = traps_in (placed 0 (cells_of frame flags item))

  abbrev pub calls_of : Item → List ℕ
  calls_of item = calls_in (placed 0 (cells_of frame flags item))

  abbrev pub patchable_of : Item → List (ℕ × ℕ)
  patchable_of item = patchable_in (placed 0 (cells_of frame flags item))

  abbrev pub maps_of : Item → List (ℕ × UserStackMap)
  maps_of item = maps_in (placed 0 (cells_of frame flags item))

-- a record at its place in the code, for an item that stands at a place
abbrev pub reloc_from : ℕ → ℕ × Reloc × ExternalName × ℤ → ℕ × Reloc × ExternalName × ℤ
reloc_from place r = (place + r.0, r.1, r.2, r.3)

abbrev pub number_from : ℕ → ℕ × ℕ → ℕ × ℕ
number_from place r = (place + r.0, r.1)

abbrev pub map_from : ℕ → ℕ × UserStackMap → ℕ × UserStackMap
map_from place r = (place + r.0, r.1)

-- the records of all items, each at its place
abbrev pub all_from : {R : Type 0} → (ℕ → R → R) → (Item → List R) → List ℕ → List Item → List R
all_from moved records (place ∷ places) (item ∷ items) =
    map (moved place) (records item) ++ all_from moved records places items
all_from moved records _ _ = []

-- what is recorded of finished code beside traps
abbrev pub records_with : Code → Records
records_with code = record {
  relocs = code.relocs.items;
  calls = code.calls.items;
  patchable = code.patchable.items;
  maps = code.maps.items;
}

module _ (frame : FrameLayout) (flags : EmitFlags) (items : List Item) where
  -- an item has a trap at this place of the code
  pub record IsTrapOf (places : List ℕ) (place : ℕ) (code : TrapCode) : Type 0 where
    pub index : ℕ
    pub item : Item
    pub start : ℕ
    pub offset : ℕ
    pub item_is : slice_get items index ≡ Some item
    pub start_is : slice_get places index ≡ Some start
    pub listed : Contains (traps_of frame flags item) (offset, code)
    pub place_is : place ≡ start + offset

  -- the use of a cell is a deferred trap, which stops at this place of the code
  pub record IsDeferredTrap (code : Code) (place : ℕ) (trap : TrapCode) : Type 0 where
    pub from : ℕ
    pub cell : Cell
    pub kind : LabelUse
    pub stands :
        Contains (standing (map (cells_of frame flags) items) code.places.items) (from, cell)
    pub site_is : cell.site ≡ Some (record { kind = kind; target = Trap trap })
    pub stops : StopsAt code kind (cell_word cell) from place

  -- the code has the records of its items, and no others, by place: a deferred trap has its own at
  -- its trap word
  pub record HasRecords (code : Code) : Type 0 where
    pub by_place : AreRecordedByPlace (length code.bytes.items) code.traps.items (records_with code)
    pub relocs :
        code.relocs.items ≡ all_from reloc_from (relocs_of frame flags) code.places.items items
    pub traps_ordered : IsStrictlyIncreasing (map (λ t. t.0) code.traps.items)
    pub traps :
        (place : ℕ) (trap : TrapCode)
        → Contains code.traps.items (place, trap)
        ↔ (IsTrapOf code.places.items place trap ⊎ IsDeferredTrap code place trap)
    pub calls : code.calls.items ≡ all_from ◌+◌ (calls_of frame flags) code.places.items items
    pub patchable :
        code.patchable.items
        ≡ all_from number_from (patchable_of frame flags) code.places.items items
    pub maps : code.maps.items ≡ all_from map_from (maps_of frame flags) code.places.items items
