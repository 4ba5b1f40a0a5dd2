-- Why a list of items is refused.
use Rattle.std.specs.Prelude.{ℕ, ◌≡◌, ◌+◌, ◌^◌, Bool, not, ◌&&◌, ◌==◌, nat_le, if◌then◌else◌, List}
use Rattle.std.specs.Prelude.{[], ◌∷◌, ◌++◌, find, map, Option, None, Some, is_none, option_map}
use Rattle.std.specs.List.{filter_map, list_any}
use Rattle.std.specs.Ordering.{nat_cmp}
use Rattle.std.specs.FinMap.{FinMap, contains_key}
use Rattle.a64_base.specs.declared.entity.MachLabel.{MachLabel}
use Rattle.a64_inst.specs.declared.emission.EmitFlags.{EmitFlags}
use Rattle.a64_inst.specs.declared.frame.FrameLayout.{FrameLayout}
use Rattle.a64_inst.specs.declared.fault.OwnFault.{OwnFault}
use Rattle.a64_inst.specs.declared.fault.OwnFault.TheVariants as own
use Rattle.a64_operand.specs.declared.virtuals.VirtualRegisters.TheVariants.{Refused}
use Rattle.a64_inst.specs.declared.inst.Inst.{Inst}
use Rattle.a64_inst.specs.Faults.{can_restore, inst_fault}
use Rattle.a64_buffer.specs.declared.force.ForceVeneers.{ForceVeneers}
use Rattle.a64_buffer.specs.declared.site.Target.TheVariants.{Label, Constant, Trap, IslandEnd}
use Rattle.a64_inst.specs.declared.item.Item.{Item}
use Rattle.a64_inst.specs.declared.item.Item.TheVariants.{Bind, Emit}
use Rattle.a64_emit.specs.declared.error.EmitError.{EmitError}
use Rattle.a64_emit.specs.declared.error.EmitError.TheVariants.{BadOperand, BadMode}
use Rattle.a64_emit.specs.declared.error.EmitError.TheVariants.{ScratchConflict, UnknownConstant}
use Rattle.a64_emit.specs.declared.error.EmitError.TheVariants.{LabelBoundTwice, UnboundLabel}
use Rattle.a64_emit.specs.declared.error.EmitError.TheVariants.{TooLarge}
use Rattle.a64_cells.specs.declared.site.Site.{Site}
use Rattle.a64_cells.specs.Cells.{sites_of, all_cells, inst_cells, is_lone_cells}
use Rattle.a64_emit.specs.Bounds.{whole}
use Rattle.a64_emit.specs.Reach.{out_of_reach}

-- the first fault, where there is one, else the second
abbrev pub or_else : Option EmitError → Option EmitError → Option EmitError
or_else None later = later
or_else (Some fault) later = Some fault

-- the refusal because of a fault of the item with this number
abbrev pub own_error : ℕ → OwnFault → EmitError
own_error i own.BadOperand = BadOperand i
own_error i own.BadMode = BadMode i
own_error i own.ScratchConflict = ScratchConflict i
own_error i own.UnknownConstant = UnknownConstant i

module _ (frame : FrameLayout) (flags : EmitFlags) (constants : FinMap nat_cmp (List ℕ)) where
  -- the fault of an item by itself
  abbrev pub item_fault : Item → Option OwnFault
  item_fault (Bind label) = None
  item_fault (Emit inst map) = inst_fault frame flags constants Refused inst

  -- the first fault of an item by itself, where the first item has this number
  abbrev pub own_fault_from : ℕ → List Item → Option EmitError
  own_fault_from n [] = None
  own_fault_from n (item ∷ items) =
      or_else (option_map (own_error n) (item_fault item)) (own_fault_from (n + 1) items)

  abbrev pub own_fault : List Item → Option EmitError
  own_fault items = own_fault_from 0 items

  -- the frame can restore an instruction exactly where it has no fault by itself, and is one word,
  -- which is no use and no call
  abbrev pub RestoresExactly : Type 0
  RestoresExactly =
      (inst : Inst) → can_restore frame flags Refused inst
      ≡ (is_none (inst_fault frame flags constants Refused inst)
      && is_lone_cells (inst_cells frame flags inst))

-- the label that an item binds
abbrev pub binding_of : Item → Option MachLabel
binding_of (Bind label) = Some label
binding_of (Emit inst map) = None

-- the labels that items bind, in order
abbrev pub bindings : List Item → List MachLabel
bindings items = filter_map binding_of items

-- the label that a use leads to, where it leads to one
abbrev pub used_label : Site → Option MachLabel
used_label site =
    elim site.target [
      | Label label ↦ Some label
      | Constant constant ↦ None
      | Trap code ↦ None
      | IslandEnd ↦ None
    ]

-- a label is one of these
abbrev pub is_among : List MachLabel → MachLabel → Bool
is_among labels label = list_any (λ (l : MachLabel). l.0 == label.0) labels

-- the first of some labels that stands among those before it, or among `before`
abbrev pub first_repeat : List MachLabel → List MachLabel → Option MachLabel
first_repeat before [] = None
first_repeat before (l ∷ ls) =
    if is_among before l then Some l else first_repeat (before ++ l ∷ []) ls

-- the map has the numbers of these labels
abbrev pub HasLabels : {X : Type 0} → FinMap nat_cmp X → List MachLabel → Type 0
HasLabels map labels = (label : MachLabel) → contains_key map label.0 ≡ is_among labels label

-- the first of some labels that is not among these
abbrev pub first_missing : List MachLabel → List MachLabel → Option MachLabel
first_missing bound labels = find (λ label. not (is_among bound label)) labels

-- the first second binding of a label
abbrev pub second_binding : List Item → Option EmitError
second_binding items = option_map LabelBoundTwice (first_repeat [] (bindings items))

module _ (frame : FrameLayout) (flags : EmitFlags) (items : List Item) where
  -- the labels that the items use, by item and cell
  abbrev pub used_labels : List MachLabel
  used_labels = filter_map used_label (sites_of (all_cells frame flags items))

  -- the first use of a label that no item binds
  abbrev pub unbound_use : Option EmitError
  unbound_use = option_map UnboundLabel (first_missing (bindings items) used_labels)

  -- the code could not be addressed
  abbrev pub too_large : Option EmitError
  too_large = if nat_le (2 ^ 31) (whole frame flags items) then Some TooLarge else None

-- the first fault that applies
abbrev pub fault_of : FrameLayout → EmitFlags → FinMap nat_cmp (List ℕ) → ForceVeneers → List Item
    → Option EmitError
fault_of frame flags constants force items =
    or_else (own_fault frame flags constants items)
    (or_else (second_binding items)
    (or_else (unbound_use frame flags items)
    (or_else (too_large frame flags items) (out_of_reach frame flags force items))))
