-- What elements that stand before a place may still want of islands behind it.
use Rattle.std.specs.Prelude.{ℕ, ◌≡◌, ◌+◌, ◌*◌, ◌-◌, ◌^◌, ◌≤◌, ◌<◌, Bool, true, false, not, ◌&&◌}
use Rattle.std.specs.Prelude.{nat_le, nat_lt, is_none, if◌then◌else◌, List, [], ◌∷◌, take, drop}
use Rattle.std.specs.Prelude.{length, min, max, Contains, count_by, sum_by, slice_index, Some}
use Rattle.a64_buffer.specs.declared.site.Target.TheVariants.{Label, Constant, Trap, IslandEnd}
use Rattle.a64_buffer.specs.declared.site.Use.{Use}
use Rattle.a64_buffer.specs.Buffer.{Buffer, end_of, label_of}
use Rattle.a64_buffer.specs.Classes.{third, cost, weigh, is_open}
use Rattle.a64_label_use.specs.declared.label_use.LabelUse.{LabelUse}
use Rattle.a64_cells.specs.declared.site.Site.{Site}
use Rattle.a64_label_use.specs.LabelUses.{label_kinds}
use Rattle.a64_cells.specs.Cells.{sites_of}
use Rattle.a64_assemble.specs.Elements.{Element, Binding, cells_in, charge_in, sizes_in, growths_in}
use Rattle.a64_assemble.specs.Elements.{is_bound_by, element_at}
use Rattle.a64_emit.specs.Reach.{is_near, may_want}

-- a branch to a label that passes a test, which no later element binds
abbrev pub is_alive : (ℕ → Bool) → List Element → Site → Bool
is_alive test later = may_want (λ label. test label.0 && not (is_bound_by later label.0)) false

-- how many branches of elements are to labels that pass a test and that no element behind them
-- binds
abbrev pub alive : (ℕ → Bool) → List Element → ℕ
alive test [] = 0
alive test (x ∷ xs) = count_by (is_alive test xs) (sites_of (cells_in x)) + alive test xs

-- a load of a constant, or a branch to a deferred trap
abbrev pub is_load : Site → Bool
is_load site = elim site.target [
  | Label label ↦ false
  | Constant constant ↦ true
  | Trap code ↦ true
  | IslandEnd ↦ false
]

abbrev pub loads_in : Element → ℕ
loads_in x = count_by is_load (sites_of (cells_in x))

abbrev pub loads : List Element → ℕ
loads xs = sum_by loads_in xs

-- how many of them are of elements behind which the others have less than 2^20 bytes
abbrev pub loose_loads : List Element → ℕ
loose_loads [] = 0
loose_loads (x ∷ xs) = (if nat_lt (sizes_in xs) (2 ^ 20) then loads_in x else 0) + loose_loads xs

-- how many uses of elements may still want something of an island behind the last of them
abbrev pub loose_in : List Element → ℕ
loose_in xs = alive (λ label. true) xs + loose_loads xs

-- what islands may add to the code because of elements
abbrev pub charges_in : List Element → ℕ
charges_in xs = sum_by charge_in xs

-- how far the start of an element and the end of a later one may come apart; nothing wants an
-- island in quiet input
abbrev pub reach_between : Bool → List Element → ℕ → ℕ → ℕ
reach_between quiet xs from to =
    sizes_in (drop from (take (to + 1) xs))
    + (if quiet then 0
    else charges_in (drop from (take (to + 1) xs)) + 28 * loose_in (take from xs))

-- all labels that elements use are bound by elements
abbrev pub AreAllBound : List Element → Type 0
AreAllBound xs =
    (i label : ℕ) (s : Site) → i < length xs → Contains (sites_of (cells_in (element_at xs i))) s
    → label_of s.target ≡ Some label → (j : ℕ) × (j < length xs) × (element_at xs j ≡ Binding label)

-- each use that needs its label near has it in reach
abbrev pub AreAllNear : Bool → List Element → Type 0
AreAllNear quiet xs =
    (i j label : ℕ) (s : Site) → i < length xs → j < length xs
    → Contains (sites_of (cells_in (element_at xs i))) s → is_near s ≡ true
    → label_of s.target ≡ Some label → element_at xs j ≡ Binding label
    → reach_between quiet xs (min i j) (max i j) ≤ 2 ^ 20 - 1

-- ---- what of it a buffer knows

-- a waiting load of a constant, or branch to a trap
abbrev pub is_waiting : Use LabelUse → Bool
is_waiting u = is_open label_kinds u && is_none (label_of u.target)

-- what those from a place on may add to the code
abbrev pub waiting_cost : ℕ → Use LabelUse → ℕ
waiting_cost from u =
    if is_waiting u && nat_le from u.offset then weigh label_kinds (cost third) u else 0

abbrev pub waiting_from : ℕ → List (Use LabelUse) → ℕ
waiting_from from uses = sum_by (waiting_cost from) uses

-- what is known of the code from the place of one of the first elements on
pub record IsBehind (xs : List Element) (count : ℕ) (stations : List ℕ) (b : Buffer LabelUse)
    (i : ℕ) : Type 0 where
  pub sizes : slice_index stations i + sizes_in (drop i (take count xs)) ≤ end_of b
  pub waiting : waiting_from (slice_index stations i) b.uses ≤ 28 * loads (drop i (take count xs))

-- two of the first places are at least the sizes apart, and at most the sizes, the charges, and
-- what was owed
pub record AreSpread (xs : List Element) (stations : List ℕ) (i j : ℕ) : Type 0 where
  pub least : slice_index stations i + sizes_in (drop i (take j xs)) ≤ slice_index stations j
  pub most : slice_index stations j
      ≤ slice_index stations i + growths_in (drop i (take j xs)) + 28 * loose_in (take i xs)
