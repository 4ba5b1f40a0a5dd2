-- Which words of items are data.
use Rattle.std.specs.Prelude.{ℕ, zero, suc, ◌≡◌, ◌+◌, ◌*◌, Bool, true, false, is_none, List, []}
use Rattle.std.specs.Prelude.{◌∷◌, All, AllPairs, Any, ◌↔◌, ◌<◌, slice_get, Some}
use Rattle.a64_inst.specs.declared.emission.EmitFlags.{EmitFlags}
use Rattle.a64_inst.specs.declared.frame.FrameLayout.{FrameLayout}
use Rattle.a64_inst.specs.declared.item.Item.{Item}
use Rattle.a64_cells.specs.Shapes.{Cell, FormOf, Data}
use Rattle.a64_cells.specs.Cells.{cells_of}
use Rattle.a64_data.specs.declared.range.DataRange.{DataRange}
use Rattle.a64_data.specs.Marks.{InBytes, InRange, HasBytes, EndsBefore}

-- a word of an item is data: no form of a row, and no trap word, at which a trap is recorded
abbrev pub is_data : Cell → Bool
is_data cell = elim cell.body [ FormOf form ↦ false | Data word ↦ is_none cell.marks.trap ]

-- so is the word with this index
abbrev pub is_data_at : List Cell → ℕ → Bool
is_data_at [] n = false
is_data_at (c ∷ cs) zero = is_data c
is_data_at (c ∷ cs) (suc n) = is_data_at cs n

-- a byte is one of a word that is data, of words that stand from a place on
pub record InData (cells : List Cell) (place k : ℕ) : Type 0 where
  pub index : ℕ
  pub data_is : is_data_at cells index ≡ true
  pub lies : InBytes (place + 4 * index) 4 k

-- a byte is one of a word of an item that is data, where the items stand at these places
pub record IsItemData (frame : FrameLayout) (flags : EmitFlags) (items : List Item)
    (places : List ℕ) (k : ℕ) : Type 0 where
  pub index : ℕ
  pub item : Item
  pub place : ℕ
  pub item_is : slice_get items index ≡ Some item
  pub place_is : slice_get places index ≡ Some place
  pub lies : InData (cells_of frame flags item) place k

-- ranges ascend, are apart and not empty, and have the bytes of so many with a property, and no
-- others
pub record AreRangesWith (P : ℕ → Type 0) (size : ℕ) (ranges : List DataRange) : Type 0 where
  pub apart : AllPairs EndsBefore ranges
  pub not_empty : All HasBytes ranges
  pub bytes : (k : ℕ) → k < size → Any (InRange k) ranges ↔ P k
  pub within : (k : ℕ) → Any (InRange k) ranges → k < size
