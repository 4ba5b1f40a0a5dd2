-- What the islands and the pool of finished code hold, told from its bytes.
use Rattle.std.specs.Prelude.{ℕ, ◌≡◌, ◌⊎◌, ◌+◌, ◌<◌, ◌≤◌, false, List, All, Any, Contains, length}
use Rattle.std.specs.Prelude.{slice_get, Some, IsSome}
use Rattle.std.specs.List.{AllPairs}
use Rattle.std.specs.Ordering.{nat_cmp}
use Rattle.std.specs.FinMap.{FinMap}
use Rattle.a64_inst.specs.declared.emission.EmitFlags.{EmitFlags}
use Rattle.a64_inst.specs.declared.frame.FrameLayout.{FrameLayout}
use Rattle.a64_inst.specs.declared.item.Item.{Item}
use Rattle.a64_inst.specs.declared.item.Item.TheVariants.{Bind}
use Rattle.a64_buffer.specs.declared.site.Target.TheVariants.{Label, Constant, Trap, IslandEnd}
use Rattle.a64_buffer.specs.Buffer.{is_within}
use Rattle.a64_buffer.specs.Chain.{constant_of}
use Rattle.a64_buffer.specs.Pieces.{front_size}
use Rattle.a64_emit.specs.declared.code.Code.{Code}
use Rattle.a64_cells.specs.declared.site.Site.{Site}
use Rattle.a64_label_use.specs.LabelUses.{label_kinds}
use Rattle.a64_emit.specs.Falls.{falls_at}
use Rattle.a64_emit.specs.Layout.{IsIslandAfter}
use Rattle.a64_emit.specs.Contents.{ComesBefore, IsCellUse, Fills, IsFarOff}
use Rattle.a64_assemble.specs.Placement.{standing_cells, UseStopsAt, IsLabelAt, IsWanting, IsOpenIn}

module _ (frame : FrameLayout) (flags : EmitFlags) (items : List Item)
    (constants : FinMap nat_cmp (List ℕ)) (code : Code) where
  -- no use of the same constant that stops at a place or behind it stands before a use
  abbrev pub IsFirstFrom : ℕ → ℕ × Site → Type 0
  IsFirstFrom begin u =
      IsSome (constant_of u.1.target) → (v : ℕ × Site)
      → IsCellUse (standing_cells frame flags items code) v → v.1.target ≡ u.1.target
      → (stop : ℕ) → begin ≤ stop → UseStopsAt frame flags items code v.0 v.1.kind stop → u.0 ≤ v.0

  -- a use of a label is served behind item k where its label is out of its range, or bound by a
  -- later item
  abbrev pub IsLateOrFar : ℕ → ℕ × Site → Type 0
  IsLateOrFar k u = elim u.1.target [
    | Label label ↦ (goal : ℕ) × Contains code.labels.items (label, goal)
        × ((is_within label_kinds u.1.kind u.0 goal ≡ false)
        ⊎ ((i : ℕ) × (k < i) × (slice_get items i ≡ Some (Bind label))))
    | Constant constant ↦ Unit {0}
    | Trap trap ↦ Unit {0}
    | IslandEnd ↦ ⊥
  ]

  -- what may want something of an island stops between two places, and not where its label stands
  pub record StopsBetween (begin to : ℕ) (u : ℕ × Site) (stop : ℕ) : Type 0 where
    pub is : IsWanting frame flags items code u.0 u.1
    pub stops : UseStopsAt frame flags items code u.0 u.1.kind stop
    pub from : begin ≤ stop
    pub before : stop < to
    pub away : IsLabelAt frame flags items code u stop → ⊥

  -- a use that stops at a place does so by the piece of one: by its own, or by the copy of its
  -- constant
  abbrev pub StopsBy : ℕ → ℕ × Site → ℕ × Site → Type 0
  StopsBy stop u v =
      (v ≡ u)
      ⊎ (IsSome (constant_of u.1.target)
      × (v.1.target ≡ u.1.target)
      × UseStopsAt frame flags items code v.0 v.1.kind stop)

  -- from one place to another stands what some uses wait for, and nothing else, in the order of
  -- islands: each constant once, for its first use that stops behind the begin, and veneers, of
  -- cells' uses and of veneer words, only where they may be given; and whatever stops there, from
  -- the begin on, does so by one of these pieces
  pub record HoldsPieces (begin from to : ℕ) (MayServe : ℕ × Site → Type 0) : Type 0 where
    pub served : List (ℕ × Site)
    pub uses_are : All (λ u. IsWanting frame flags items code u.0 u.1) served
    pub in_order : AllPairs ComesBefore served
    pub first : All (IsFirstFrom begin) served
    pub may_serve : All MayServe served
    pub fills : Fills constants code from served to
    pub answered :
        (u : ℕ × Site) (stop : ℕ) → StopsBetween begin to u stop → Any (StopsBy stop u) served

  -- an island stands behind an item, and holds pieces, behind its jump where the item falls, and
  -- else from its first byte on, for uses that are open there
  pub record IsFilledIsland (island : ℕ × ℕ) : Type 0 where
    pub after : ℕ
    pub within : after < length items
    pub stands : IsIslandAfter frame flags items code after island
    pub holds :
        HoldsPieces island.0 (island.0 + front_size (falls_at items after)) island.1
        (λ u. IsOpenIn frame flags items code after island.0 island.1 u × IsLateOrFar after u)

  -- the pool holds pieces, and a veneer only for a use that is out of reach of its label
  abbrev pub IsFilledPool : Type 0
  IsFilledPool = HoldsPieces code.pool code.pool (length code.bytes.items) (IsFarOff constants code)
