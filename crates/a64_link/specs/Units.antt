-- Units, what they define and ask for, and how much room they take.
use Rattle.std.specs.Prelude.{ℕ, ℤ, suc, ◌+◌, ◌*◌, ◌/◌, ◌-◌, ◌^◌, nat_eq, min, max, Bool, true}
use Rattle.std.specs.Prelude.{false, List, [], ◌∷◌, ◌++◌, length, slice_range, Option}
use Rattle.std.specs.List.{sum_by, count_by}
use Rattle.std.specs.Map.{lookup}
use Rattle.a64_base.specs.declared.entity.Reloc.{Reloc}
use Rattle.a64_base.specs.declared.entity.Reloc.TheVariants as relocs
use Rattle.a64_base.specs.declared.entity.ExternalName.{ExternalName}
use Rattle.a64_link.specs.declared.unit.Unit.{Unit}
use Rattle.a64_link.specs.declared.unit.Symbol.{Symbol}

-- a symbol, and its place in the unit that defines it
abbrev pub Definition : Type 0
Definition = ExternalName × ℕ

-- a place, a kind, a symbol, and a number more
abbrev pub Relocation : Type 0
Relocation = ℕ × Reloc × ExternalName × ℤ

abbrev pub is_call : Reloc → Bool
is_call relocs.Arm64Call = true
is_call _ = false

-- how many words a unit has
abbrev pub word_count : Unit → ℕ
word_count unit = length unit.words.items

-- how many bytes
abbrev pub size : Unit → ℕ
size unit = 4 * length unit.words.items

-- the next multiple of 16
abbrev pub round_up : ℕ → ℕ
round_up n = (n + 15) / 16 * 16

-- the bytes that a unit can take, with a thunk for each call
abbrev pub room : Unit → ℕ
room unit = round_up (size unit + 20 * count_by (λ (r : Relocation). is_call r.1) unit.relocs.items)

abbrev pub rooms : List Unit → ℕ
rooms units = sum_by room units

-- the room of the units from the one to the other, both counted, in whichever order they stand
abbrev pub span : List Unit → ℕ → ℕ → ℕ
span units i j = rooms (slice_range units (min i j) (suc (max i j)))

-- the longest span over which a branch surely reaches
abbrev pub near : ℕ
near = 2 ^ 27 - 1

-- ---- symbols

-- what the unit of this number defines, by the symbols' numbers
abbrev pub defined_in : ℕ → List Definition → List (ℕ × Symbol)
defined_in i [] = []
defined_in i (d ∷ ds) = (d.0.0, record { unit = i; place = d.1 }) ∷ defined_in i ds

abbrev pub defined_from : ℕ → List Unit → List (ℕ × Symbol)
defined_from i [] = []
defined_from i (unit ∷ units) = defined_in i unit.defines.items ++ defined_from (suc i) units

-- all that units define
abbrev pub defined : List Unit → List (ℕ × Symbol)
defined units = defined_from 0 units

-- where a symbol is defined
abbrev pub symbol_of : List Unit → ExternalName → Option Symbol
symbol_of units name = lookup (nat_eq name.0) (defined units)
