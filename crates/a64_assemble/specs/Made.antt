-- What is made of items, as they are put into a buffer one after another, and as that is finished.
use Rattle.std.specs.Prelude.{ℕ, ◌≡◌, ◌<◌, List, All, length, slice_index}
use Rattle.std.specs.Ordering.{nat_cmp}
use Rattle.std.specs.FinMap.{FinMap}
use Rattle.a64_inst.specs.declared.emission.EmitFlags.{EmitFlags}
use Rattle.a64_inst.specs.declared.frame.FrameLayout.{FrameLayout}
use Rattle.a64_inst.specs.declared.item.Item.{Item}
use Rattle.a64_buffer.specs.declared.finish.Finished.{Finished}
use Rattle.a64_buffer.specs.declared.force.ForceVeneers.{ForceVeneers}
use Rattle.a64_buffer.specs.Buffer.{Buffer, IsBound}
use Rattle.a64_buffer.specs.Constants.{AreConstants}
use Rattle.a64_buffer.specs.Finished.{IsFinished}
use Rattle.a64_buffer.specs.Sound.{IsWhole}
use Rattle.a64_emit.specs.declared.code.Code.{Code}
use Rattle.a64_label_use.specs.declared.label_use.LabelUse.{LabelUse}
use Rattle.a64_label_use.specs.LabelUses.{label_kinds}
use Rattle.a64_assemble.specs.Elements.{Element, elements_of}
use Rattle.a64_assemble.specs.Progress.{HasPut, HasDistances}
use Rattle.a64_assemble.specs.Owners.{AreOwned}
use Rattle.a64_assemble.specs.CellRecords.{AreRecorded}

-- the first elements were put, and nothing but them
pub record HasPutFirst (force : ForceVeneers) (xs : List Element) (count : ℕ) (places : List ℕ)
    (b : Buffer LabelUse) : Type 0 where
  pub whole : IsWhole label_kinds b
  pub put : HasPut force xs count places b
  pub distances : HasDistances xs count places b
  pub owned : AreOwned xs count places b
  pub recorded : AreRecorded xs count places b

-- all elements were
abbrev pub HasPutAll : ForceVeneers → List Element → List ℕ → Buffer LabelUse → Type 0
HasPutAll force xs places b = HasPutFirst force xs (length xs) places b

-- code has what a finished buffer has
pub record IsHandedOut (finished : Finished) (code : Code) : Type 0 where
  pub bytes : code.bytes.items ≡ finished.bytes.items
  pub labels : code.labels.items ≡ finished.labels.items
  pub islands : code.islands.items ≡ finished.islands.items
  pub pool : code.pool ≡ finished.pool
  pub relocs : code.relocs.items ≡ finished.relocs.items
  pub traps : code.traps.items ≡ finished.traps.items
  pub calls : code.calls.items ≡ finished.calls.items
  pub patchable : code.patchable.items ≡ finished.patchable.items
  pub maps : code.maps.items ≡ finished.maps.items

-- code of items: all of them were put into a buffer, which was finished
pub record IsMadeOf (frame : FrameLayout) (flags : EmitFlags) (constants : FinMap nat_cmp (List ℕ))
    (force : ForceVeneers) (items : List Item) (code : Code) : Type 0 where
  pub buffer : Buffer LabelUse
  pub finished : Finished
  pub constants_are : buffer.constants ≡ constants
  pub sized : AreConstants buffer.constants
  pub put : HasPutAll force (elements_of frame flags items) code.places.items buffer
  pub bound : All (IsBound buffer.labels) buffer.uses
  pub is_finished : IsFinished label_kinds buffer finished
  pub handed_out : IsHandedOut finished code
  pub small : (k : ℕ) → slice_index code.bytes.items k < 256
