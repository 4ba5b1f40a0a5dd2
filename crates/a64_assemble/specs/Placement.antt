-- Where islands stand in finished code, and what stops in them, told from its bytes.
use Rattle.std.specs.Prelude.{ℕ, ◌≡◌, ◌≢◌, ◌⊎◌, ◌+◌, ◌*◌, ◌<◌, ◌≤◌, true, List, All, Contains, map}
use Rattle.std.specs.Prelude.{drop, length, slice_get, Some, IsSome}
use Rattle.std.specs.List.{AllPairs}
use Rattle.a64_base.specs.declared.entity.MachLabel.{MachLabel}
use Rattle.a64_inst.specs.declared.emission.EmitFlags.{EmitFlags}
use Rattle.a64_inst.specs.declared.frame.FrameLayout.{FrameLayout}
use Rattle.a64_inst.specs.declared.item.Item.{Item}
use Rattle.a64_inst.specs.declared.item.Item.TheVariants.{Bind}
use Rattle.a64_buffer.specs.declared.class.Class.TheVariants.{Far}
use Rattle.a64_buffer.specs.declared.force.ForceVeneers.{ForceVeneers}
use Rattle.a64_buffer.specs.declared.force.ForceVeneers.TheVariants.{No, Yes}
use Rattle.a64_buffer.specs.declared.site.Target.{Target}
use Rattle.a64_buffer.specs.declared.site.Target.TheVariants.{Label, Constant, Trap, IslandEnd}
use Rattle.a64_buffer.specs.Areas.{InArea}
use Rattle.a64_buffer.specs.Buffer.{label_of}
use Rattle.a64_buffer.specs.Classes.{wants}
use Rattle.a64_words.specs.Word.{outside, word_at}
use Rattle.a64_emit.specs.declared.code.Code.{Code}
use Rattle.a64_label_use.specs.declared.label_use.LabelUse.{LabelUse}
use Rattle.a64_label_use.specs.declared.label_use.LabelUse.TheVariants as uses
use Rattle.a64_cells.specs.declared.site.Site.{Site}
use Rattle.a64_label_use.specs.LabelUses.{mask_for, forward_range}
use Rattle.a64_cells.specs.Shapes.{Cell}
use Rattle.a64_cells.specs.Cells.{cells_of}
use Rattle.a64_emit.specs.Bounds.{whole}
use Rattle.a64_emit.specs.Falls.{falls_at}
use Rattle.a64_emit.specs.Layout.{standing, IsIslandAfter}
use Rattle.a64_emit.specs.Contents.{site_class, IsCellUse}
use Rattle.a64_emit.specs.Leads.{areas, StopsAt}
use Rattle.a64_assemble.specs.Elements.{elements_of, is_asking, ahead, element_at}

module _ (frame : FrameLayout) (flags : EmitFlags) (items : List Item) (code : Code) where
  -- the cells of the items, at their places
  abbrev pub standing_cells : List (ℕ × Cell)
  standing_cells = standing (map (cells_of frame flags) items) code.places.items

  -- where a use that may want something of an island stops; no kind of such a use adds
  abbrev pub UseStopsAt : ℕ → LabelUse → ℕ → Type 0
  UseStopsAt place kind stop = StopsAt code kind 0 place stop

  -- the label of a use stands at a place
  abbrev pub IsLabelAt : ℕ × Site → ℕ → Type 0
  IsLabelAt u place = elim u.1.target [
    | Label label ↦ Contains code.labels.items (label, place)
    | Constant constant ↦ ⊥
    | Trap trap ↦ ⊥
    | IslandEnd ↦ ⊥
  ]

  -- a veneer word, with its label as target: a jump word of an area at which a branch of 14 or 19
  -- bits to that label stops, where the label does not stand, and which is not the first word of an
  -- island behind an item that falls
  pub record IsVeneerWord (place : ℕ) (target : Target) : Type 0 where
    pub area : InArea (areas code) place 4
    pub word : outside (mask_for uses.Branch26) (word_at code.bytes.items place) ≡ 0x14000000
    pub labelled : IsSome (label_of target)
    pub user : ℕ
    pub kind : LabelUse
    pub short : (kind ≡ uses.Branch14) ⊎ (kind ≡ uses.Branch19)
    pub use' : IsCellUse standing_cells (user, record { kind = kind; target = target })
    pub stops : UseStopsAt user kind place
    pub not_over :
        (island : ℕ × ℕ) (k : ℕ) → IsIslandAfter frame flags items code k island
        → falls_at items k ≡ true
        → place ≢ island.0
    pub away : IsLabelAt (user, record { kind = kind; target = target }) place → ⊥

  -- a use that may want something of an island: a cell's, or a veneer word
  pub record IsWanting (place : ℕ) (site : Site) : Type 0 where
    pub wanting : wants (site_class site) ≡ true
    pub is : IsCellUse standing_cells (place, site)
        ⊎ ((site.kind ≡ uses.Branch26) × IsVeneerWord place site.target)

  -- a use that stands before b is open at the end a of item k: it does not stop before a, unless it
  -- stops at its label's place, which item k or one before it binds
  pub record IsOpenIn (k a b : ℕ) (use' : ℕ × Site) : Type 0 where
    pub is : IsWanting use'.0 use'.1
    pub before : use'.0 < b
    pub stop : ℕ
    pub stops : UseStopsAt use'.0 use'.1.kind stop
    pub from : a ≤ stop
    pub away : (label : MachLabel) (i : ℕ) → use'.1.target ≡ Label label → i ≤ k
        → slice_get items i ≡ Some (Bind label) → slice_get code.places.items i ≡ Some stop → ⊥

  -- one of the uses that are open there, and passes a test, reaches less than an island with all of
  -- them might need, and so much space behind it
  pub record Need (k a b space : ℕ) (passes : Site → Type 0) : Type 0 where
    pub opens : List (ℕ × Site)
    pub apart : AllPairs (λ u v. u.0 ≢ v.0) opens
    pub each : All (IsOpenIn k a b) opens
    pub late : ℕ × Site
    pub among : Contains opens late
    pub passed : passes late.1
    pub short : late.0 + forward_range late.1.kind < a + 4 + 28 * length opens + space

  -- a use of the longest range
  abbrev pub IsFar : Site → Type 0
  IsFar site = site_class site ≡ Far

  -- whatever is open at an island, and is not of the longest range, stops in it
  abbrev pub TakesNear : ℕ → ℕ × ℕ → Type 0
  TakesNear k island =
      (use' : ℕ × Site) (open' : IsOpenIn k island.0 island.0 use') → (IsFar use'.1 → ⊥)
      → open'.stop < island.1

  -- all open uses of the longest range stop in it, its own veneer words included
  abbrev pub TakesFar : ℕ → ℕ × ℕ → Type 0
  TakesFar k island =
      (use' : ℕ × Site) (open' : IsOpenIn k island.0 island.1 use') → IsFar use'.1
      → open'.stop < island.1

  -- none of them does
  abbrev pub LeavesFar : ℕ → ℕ × ℕ → Type 0
  LeavesFar k island =
      (use' : ℕ × Site) (open' : IsOpenIn k island.0 island.1 use') → IsFar use'.1
      → island.1 ≤ open'.stop

  -- an island stands behind item k: because it was needed there, or forced where one is asked for
  -- and a use is open; it takes what is near, and what is far where that is needed, or islands are
  -- forced
  pub record IsIslandByNeed (force : ForceVeneers) (island : ℕ × ℕ) : Type 0 where
    pub after : ℕ
    pub within : after < length items
    pub stands : IsIslandAfter frame flags items code after island
    pub space : ℕ
    pub space_is : ahead (element_at (elements_of frame flags items) after)
        (drop (after + 1) (elements_of frame flags items)) ≡ Some space
    pub cause : Need after island.0 island.0 space (λ site. Unit {0})
        ⊎ ((is_asking (element_at (elements_of frame flags items) after) ≡ true) × (force ≡ Yes)
        × ((place : ℕ) × (site : Site) × IsOpenIn after island.0 island.0 (place, site)))
    pub near : TakesNear after island
    pub far : (LeavesFar after island × (force ≡ No))
        ⊎ (TakesFar after island × (Need after island.0 island.1 space IsFar ⊎ (force ≡ Yes)))

  -- where islands are forced, one stands behind each item that asks for one and at which a use is
  -- open
  abbrev pub AreForced : Type 0
  AreForced =
      (k place : ℕ) → k < length items
      → is_asking (element_at (elements_of frame flags items) k) ≡ true
      → slice_get code.places.items k ≡ Some place
      → ((use' : ℕ × Site) × IsOpenIn k place place use')
      → (end : ℕ) × IsIslandAfter frame flags items code k (place, end)

  -- the code is at most the sizes, the charges and the asked spaces long
  abbrev pub IsShort : Type 0
  IsShort = length code.bytes.items ≤ whole frame flags items
