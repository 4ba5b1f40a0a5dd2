-- How far apart a use and its label may come: sums over the items between them, and over what may
-- still wait for an island there.
use Rattle.std.specs.Prelude.{ℕ, ◌+◌, ◌-◌, ◌*◌, ◌^◌, ◌==◌, ◌&&◌, Bool, true, false, not}
use Rattle.std.specs.Prelude.{if◌then◌else◌, nat_lt, min, max, List, [], ◌∷◌, take, drop, sum_by}
use Rattle.std.specs.Prelude.{count_by, Option, None, Some, is_some, option_map, option_and_then}
use Rattle.std.specs.List.{list_any, position_from}
use Rattle.std.specs.Option.{option_map_or, option_or}
use Rattle.a64_base.specs.declared.entity.MachLabel.{MachLabel}
use Rattle.a64_inst.specs.declared.emission.EmitFlags.{EmitFlags}
use Rattle.a64_inst.specs.declared.frame.FrameLayout.{FrameLayout}
use Rattle.a64_inst.specs.declared.item.Item.{Item}
use Rattle.a64_inst.specs.declared.item.Item.TheVariants.{Bind, Emit}
use Rattle.a64_buffer.specs.declared.force.ForceVeneers.{ForceVeneers}
use Rattle.a64_buffer.specs.declared.force.ForceVeneers.TheVariants.{No, Yes}
use Rattle.a64_buffer.specs.declared.site.Target.TheVariants.{Label, Constant, Trap, IslandEnd}
use Rattle.a64_emit.specs.declared.error.EmitError.{EmitError}
use Rattle.a64_emit.specs.declared.error.EmitError.TheVariants.{OutOfReach}
use Rattle.a64_label_use.specs.declared.label_use.LabelUse.{LabelUse}
use Rattle.a64_label_use.specs.declared.label_use.LabelUse.TheVariants as uses
use Rattle.a64_cells.specs.declared.site.Site.{Site}
use Rattle.a64_label_use.specs.LabelUses.{has_veneer}
use Rattle.a64_cells.specs.Cells.{cells_of, all_cells, sites_of}
use Rattle.a64_emit.specs.Bounds.{item_size, item_charge, whole, shortest}

-- an item binds the label
abbrev pub binds : MachLabel → Item → Bool
binds label (Bind bound) = bound.0 == label.0
binds label (Emit inst map) = false

-- the index of the item that binds a label
abbrev pub binding_index : List Item → MachLabel → Option ℕ
binding_index items label = position_from (binds label) 0 items

-- the items from one to a later one, both counted
abbrev pub span : List Item → ℕ → ℕ → List Item
span items from to = drop from (take (to + 1) items)

abbrev pub is_unforced : ForceVeneers → Bool
is_unforced No = true
is_unforced Yes = false

-- a kind that can have no veneer, with a range that code may outgrow
abbrev pub needs_near : LabelUse → Bool
needs_near uses.Branch14 = false
needs_near uses.Branch19 = false
needs_near uses.Branch26 = false
needs_near uses.Ldr19 = true
needs_near uses.Adr21 = true
needs_near uses.PCRel32 = false

-- the label that a use of such a kind leads to
abbrev pub near_label : Site → Option MachLabel
near_label site = elim site.target [
  | Label label ↦ if needs_near site.kind then Some label else None
  | Constant constant ↦ None
  | Trap code ↦ None
  | IslandEnd ↦ None
]

-- it is such a use
abbrev pub is_near : Site → Bool
is_near site = is_some (near_label site)

-- the first answer that there is
abbrev pub first_some : {X Y : Type 0} → (X → Option Y) → List X → Option Y
first_some f [] = None
first_some f (x ∷ xs) = option_or (f x) (first_some f xs)

-- a use may want something of an island: a branch to a label that passes a test, and, where they
-- count, a load of a constant or a deferred trap
abbrev pub may_want : (MachLabel → Bool) → Bool → Site → Bool
may_want passes others site = elim site.target [
  | Label label ↦ has_veneer site.kind && passes label
  | Constant constant ↦ others
  | Trap code ↦ others
  | IslandEnd ↦ false
]

module _ (frame : FrameLayout) (flags : EmitFlags) where
  -- the bytes of the items' own words
  abbrev pub sizes : List Item → ℕ
  sizes items = sum_by (item_size frame flags) items

  -- what islands may add to the code because of the items
  abbrev pub charges : List Item → ℕ
  charges items = sum_by (item_charge frame flags) items

  -- nothing can want an island: there is no branch to a label, no load of a constant and no
  -- deferred trap; or islands are not forced, and the whole is below the range of each of these
  abbrev pub is_quiet : ForceVeneers → List Item → Bool
  is_quiet force items =
      option_map_or (λ range. is_unforced force
      && nat_lt (whole frame flags items) range) (shortest frame flags items) true

  -- a use may still want something of an island behind some items that stand between: a branch,
  -- unless one of them binds its label; a load of a constant or a deferred trap, unless they have
  -- 2^20 bytes
  abbrev pub is_loose : List Item → Site → Bool
  is_loose between =
      may_want (λ label. not (list_any (binds label) between)) (nat_lt (sizes between) (2 ^ 20))

  -- how many uses of items may still want something behind the last of them
  abbrev pub loose : List Item → ℕ
  loose [] = 0
  loose (item ∷ later) =
      count_by (is_loose later) (sites_of (cells_of frame flags item)) + loose later

  module _ (force : ForceVeneers) (items : List Item) where
    -- what islands may add between the first and the last of the items from one to a later one
    abbrev pub slack : ℕ → ℕ → ℕ
    slack from to =
        if is_quiet force items then 0
        else charges (span items from to) + 28 * loose (take from items)

    -- how far the start of an item and the end of another may come apart, in whichever order they
    -- stand
    abbrev pub reach : ℕ → ℕ → ℕ
    reach i j = sizes (span items (min i j) (max i j)) + slack (min i j) (max i j)

    -- the label may come too far from the item with this index
    abbrev pub is_far : ℕ → MachLabel → Bool
    is_far i label =
        option_map_or (λ j. nat_lt (2 ^ 20 - 1) (reach i j)) (binding_index items label) false

    -- the label of a use of the item with this index, where the use may be too far from it
    abbrev pub far_label : ℕ → Site → Option MachLabel
    far_label i site =
        option_and_then (λ label. if is_far i label then Some label else None) (near_label site)

    -- the first such label of some of the items, the first of which has this index
    abbrev pub first_far_from : ℕ → List Item → Option MachLabel
    first_far_from n [] = None
    first_far_from n (item ∷ later) =
        option_or (first_some (far_label n) (sites_of (cells_of frame flags item)))
        (first_far_from (n + 1) later)

    -- the first use that can have no veneer and may be too far from its label
    abbrev pub out_of_reach : Option EmitError
    out_of_reach = option_map OutOfReach (first_far_from 0 items)

  -- some use of the items needs its label near
  abbrev pub has_near : List Item → Bool
  has_near items = list_any is_near (sites_of (all_cells frame flags items))
