-- Where units stand.
use Rattle.std.specs.Prelude.{ℕ, zero, suc, ◌≡◌, ◌+◌, ◌*◌, ◌<◌, ◌≤◌, ◌^◌, ◌&&◌, nat_lt}
use Rattle.std.specs.Prelude.{if◌then◌else◌, Bool, false, List, [], ◌∷◌, length, take, get_or}
use Rattle.std.specs.Prelude.{Option, None, Some}
use Rattle.std.specs.List.{count_by, Contains}
use Rattle.std.specs.Ordering.{nat_cmp}
use Rattle.std.specs.FinMap.{FinMap, get}
use Rattle.a64_base.specs.declared.entity.ExternalName.{ExternalName}
use Rattle.a64_link.specs.declared.unit.Unit.{Unit}
use Rattle.a64_link.specs.declared.unit.Symbol.{Symbol}
use Rattle.a64_link.specs.Units.{Relocation, is_call, size, round_up, rooms, span, near, symbol_of}

-- the sums of the first rooms, of none, of one, and so on; all together are below 2^31
pub record AreSums (units : List Unit) (sums : List ℕ) : Type 0 where
  pub count : length sums ≡ suc (length units)
  pub sum : (k : ℕ) → k ≤ length units → get_or sums k 0 ≡ rooms (take k units)
  pub small : rooms units < 2 ^ 31

-- the unit of this number
pub record IsUnit (units : List Unit) (i : ℕ) (unit : Unit) : Type 0 where
  pub within : i < length units
  pub is : (d : Unit) → get_or units i d ≡ unit

-- the unit of this number defines a symbol, at a place of its own
pub record Defines (units : List Unit) (i : ℕ) (name : ExternalName) (place : ℕ) : Type 0 where
  pub unit : Unit
  pub is : IsUnit units i unit
  pub defines : Contains unit.defines.items (name, place)

-- the map tells where symbols are defined
abbrev pub AreSymbols : List Unit → FinMap nat_cmp Symbol → Type 0
AreSymbols units symbols = (name : ExternalName) → get symbols name.0 ≡ symbol_of units name

-- where the unit of this number starts
abbrev pub start_of : List ℕ → ℕ → ℕ
start_of starts i = get_or starts i 0

-- where a symbol stands
abbrev pub goal_of : List ℕ → Symbol → ℕ
goal_of starts s = start_of starts s.unit + s.place

module _ (units : List Unit) where
  -- a symbol stands far from the unit of this number
  abbrev pub stands_far : ℕ → Option Symbol → Bool
  stands_far i None = false
  stands_far i (Some symbol) = nat_lt near (span units i symbol.unit)

  -- a call of the unit of this number has a thunk
  abbrev pub is_far : ℕ → Relocation → Bool
  is_far i r = is_call r.1 && stands_far i (symbol_of units r.2)

  -- the thunk of a call: they stand behind the words of its unit, in the order of the relocations
  abbrev pub thunk_of : List ℕ → ℕ → Unit → ℕ → ℕ
  thunk_of starts i unit k =
      start_of starts i + size unit + 20 * count_by (is_far i) (take k unit.relocs.items)

  -- where a call leads
  abbrev pub stop_of : List ℕ → ℕ → Unit → ℕ → Relocation → Symbol → ℕ
  stop_of starts i unit k r s = if is_far i r then thunk_of starts i unit k else goal_of starts s

  -- how many bytes the unit of this number takes with its thunks
  abbrev pub extent : ℕ → Unit → ℕ
  extent i unit = size unit + 20 * count_by (is_far i) unit.relocs.items

  abbrev pub extents_from : ℕ → List Unit → List ℕ
  extents_from i [] = []
  extents_from i (unit ∷ more) = extent i unit ∷ extents_from (suc i) more

  -- where the unit before the one of this number ends, by the places of units
  abbrev pub end_before : List ℕ → ℕ → ℕ
  end_before starts zero = 0
  end_before starts (suc i) = get_or starts i 0 + get_or (extents_from 0 units) i 0

  -- each unit starts at the next multiple of 16 behind the one before it, the first at 0
  pub record AreStarts (starts : List ℕ) : Type 0 where
    pub count : length starts ≡ length units
    pub start : (i : ℕ) → i < length units → get_or starts i 0 ≡ round_up (end_before starts i)
