-- What a look at an item finds.
use Rattle.std.specs.Prelude.{ℕ, ◌≡◌, List, None, Some}
use Rattle.std.specs.Ordering.{nat_cmp}
use Rattle.std.specs.FinMap.{FinMap}
use Rattle.a64_inst.specs.declared.emission.EmitFlags.{EmitFlags}
use Rattle.a64_inst.specs.declared.frame.FrameLayout.{FrameLayout}
use Rattle.a64_inst.specs.declared.item.Item.{Item}
use Rattle.a64_emit.specs.declared.extent.Light.{Light}
use Rattle.a64_emit.specs.Bounds.{asked, growth_of}
use Rattle.a64_cells.specs.Cells.{cells_of}
use Rattle.a64_emit.specs.Faults.{item_fault}
use Rattle.a64_emit.specs.Lights.{IsLight}
use Rattle.a64_assemble.specs.declared.look.Look.{Look}
use Rattle.a64_assemble.specs.declared.look.Look.TheVariants as looks

-- what an item adds that has no use
abbrev pub bare : ℕ → Light
bare growth = record { growth = growth; first = None; second = None; range = None }

-- the item is right by itself, is no place for an island, and adds this
pub record IsRightAnd (frame : FrameLayout) (flags : EmitFlags)
    (constants : FinMap nat_cmp (List ℕ)) (item : Item) (light : Light) : Type 0 where
  pub right : item_fault frame flags constants item ≡ None
  pub place : asked item ≡ None
  pub adds : IsLight (cells_of frame flags item) (growth_of frame flags item) light

-- what was found of an item
abbrev pub IsLook : FrameLayout → EmitFlags → FinMap nat_cmp (List ℕ) → Item → Look → Type 0
IsLook frame flags constants item (looks.Fault fault) =
    item_fault frame flags constants item ≡ Some fault
IsLook frame flags constants item looks.Binding = IsRightAnd frame flags constants item (bare 0)
IsLook frame flags constants item (looks.Bare growth) =
    IsRightAnd frame flags constants item (bare growth)
IsLook frame flags constants item (looks.Light light) = IsRightAnd frame flags constants item light
IsLook frame flags constants item looks.Right = item_fault frame flags constants item ≡ None

-- a look found what is light
abbrev pub IsBareOrLight : Light → Look → Type 0
IsBareOrLight light (looks.Fault fault) = ⊥
IsBareOrLight light looks.Binding = ⊥
IsBareOrLight light (looks.Bare growth) = light ≡ bare growth
IsBareOrLight light (looks.Light other) = light ≡ other
IsBareOrLight light looks.Right = ⊥
