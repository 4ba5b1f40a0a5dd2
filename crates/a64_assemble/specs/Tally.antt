-- What is counted of items, one after another, to say how far apart a use and its label may come.
use Rattle.std.specs.Prelude.{ℕ, ◌≡◌, ◌+◌, ◌≤◌, ◌<◌, ◌^◌, Bool, true, false, not, ◌&&◌, nat_eq}
use Rattle.std.specs.Prelude.{if◌then◌else◌, List, [], ◌∷◌, length, take, count_by, sum_by}
use Rattle.std.specs.Prelude.{slice_index_or, Option, None, Some}
use Rattle.std.specs.Ordering.{nat_cmp}
use Rattle.std.specs.FinMap.{FinMap, get}
use Rattle.std.specs.List.{list_any}
use Rattle.std.specs.Option.{unwrap_or}
use Rattle.a64_base.specs.declared.entity.MachLabel.{MachLabel}
use Rattle.a64_buffer.specs.declared.site.Target.TheVariants.{Label, Constant, Trap, IslandEnd}
use Rattle.a64_inst.specs.declared.emission.EmitFlags.{EmitFlags}
use Rattle.a64_inst.specs.declared.frame.FrameLayout.{FrameLayout}
use Rattle.a64_inst.specs.declared.item.Item.{Item}
use Rattle.a64_cells.specs.declared.site.Site.{Site}
use Rattle.a64_label_use.specs.LabelUses.{has_veneer}
use Rattle.a64_cells.specs.Cells.{cells_of, sites_of}
use Rattle.a64_emit.specs.Bounds.{whole}
use Rattle.a64_emit.specs.Reach.{binds, binding_index, may_want, sizes, charges}
use Rattle.a64_assemble.specs.LooseUses.{is_load}
use Rattle.a64_assemble.specs.declared.marks.Mark.{Mark}

-- the label of a branch that may want a veneer
abbrev pub branch_label : Site → Option MachLabel
branch_label site = elim site.target [
  | Label label ↦ if has_veneer site.kind then Some label else None
  | Constant constant ↦ None
  | Trap code ↦ None
  | IslandEnd ↦ None
]

-- a branch to a label that passes a test, unless one of the items between binds the label
abbrev pub is_alive : (ℕ → Bool) → List Item → Site → Bool
is_alive test between =
    may_want (λ label. test label.0 && not (list_any (binds label) between)) false

abbrev pub every : ℕ → Bool
every n = true

abbrev pub same : ℕ → ℕ → Bool
same n m = nat_eq n m

-- how many branches of uses are to labels that pass a test
abbrev pub branches : (ℕ → Bool) → List Site → ℕ
branches test sites = count_by (is_alive test []) sites

-- how many loads of constants and deferred traps there are
abbrev pub waiting : List Site → ℕ
waiting sites = count_by is_load sites

-- the count of a label
abbrev pub count_of : FinMap nat_cmp ℕ → ℕ → ℕ
count_of counts n = unwrap_or (get counts n) 0

-- the sums over so many of the first items
abbrev pub no_mark : Mark
no_mark = record { size = 0; growth = 0; loads = 0; branches = 0 }

abbrev pub mark_at : List Mark → ℕ → Mark
mark_at marks i = slice_index_or marks i no_mark

module _ (frame : FrameLayout) (flags : EmitFlags) where
  -- how many branches of items are to labels that pass a test and that no item behind them binds
  abbrev pub alive : (ℕ → Bool) → List Item → ℕ
  alive test [] = 0
  alive test (x ∷ xs) =
      count_by (is_alive test xs) (sites_of (cells_of frame flags x)) + alive test xs

  -- how many loads of constants and deferred traps items have
  abbrev pub loads : List Item → ℕ
  loads items = sum_by (λ x. waiting (sites_of (cells_of frame flags x))) items

  -- the branches of items to labels that no later one of them binds are counted by their labels
  abbrev pub IsTally : List Item → FinMap nat_cmp ℕ → Type 0
  IsTally items counts = (n : ℕ) → count_of counts n ≡ alive (same n) items

  -- the sums of items
  pub record IsMark (items : List Item) (mark : Mark) : Type 0 where
    pub size_is : mark.size ≡ sizes frame flags items
    pub growth_is : mark.growth ≡ sizes frame flags items + charges frame flags items
    pub loads_is : mark.loads ≡ loads items
    pub branches_is : mark.branches ≡ alive every items

  -- the sums of the first items, for each number of them
  pub record AreMarks (items : List Item) (marks : List Mark) : Type 0 where
    pub count : length marks ≡ length items + 1
    pub each : (i : ℕ) → i ≤ length items → IsMark (take i items) (mark_at marks i)

-- the index of the item that binds a label, for each label
abbrev pub HasBindings : List Item → FinMap nat_cmp ℕ → Type 0
HasBindings items indices = (label : MachLabel) → get indices label.0 ≡ binding_index items label

-- each label has an index of an item that the sums are over
abbrev pub AreWithin : FinMap nat_cmp ℕ → List Mark → Type 0
AreWithin indices marks =
    (label : MachLabel) (i : ℕ) → get indices label.0 ≡ Some i → i + 1 < length marks

-- no sum falls
pub record AreRising (marks : List Mark) : Type 0 where
  pub sizes : (i j : ℕ) → i ≤ j → j < length marks → (mark_at marks i).size ≤ (mark_at marks j).size
  pub growths : (i j : ℕ) → i ≤ j → j < length marks
      → (mark_at marks i).growth ≤ (mark_at marks j).growth
  pub loads : (i j : ℕ) → i ≤ j → j < length marks
      → (mark_at marks i).loads ≤ (mark_at marks j).loads

-- the first of the items before another behind which those before that one have less than 2^20
-- bytes
pub record IsFirstWaiting (marks : List Mark) (index first : ℕ) : Type 0 where
  pub within : first ≤ index
  pub near : first < index → (mark_at marks index).size < (mark_at marks (first + 1)).size + 2 ^ 20
  pub far : 0 < first → (mark_at marks first).size + 2 ^ 20 ≤ (mark_at marks index).size

-- sums of the first of some items, for each number of them, whose code can be addressed
pub record AreSums (marks : List Mark) : Type 0 where
  pub frame : FrameLayout
  pub flags : EmitFlags
  pub items : List Item
  pub are : AreMarks frame flags items marks
  pub short : whole frame flags items < 2 ^ 31
