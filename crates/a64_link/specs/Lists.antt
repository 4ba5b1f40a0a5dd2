-- Symbols of a map, as they are listed.
use Rattle.std.specs.Prelude.{ℕ, ◌<◌, ◌^◌, List, length}
use Rattle.a64_base.specs.declared.entity.ExternalName.{ExternalName}
use Rattle.a64_link.specs.declared.unit.Symbol.{Symbol}
use Rattle.a64_link.specs.Layout.{goal_of}

-- the symbol's unit has a start, and its place fits
pub record MayStand (starts : List ℕ) (s : Symbol) : Type 0 where
  pub within : s.unit < length starts
  pub small : goal_of starts s < 2 ^ 31

-- a number, and where it is defined, as a symbol with its place
abbrev pub placed_by : List ℕ → ℕ × Symbol → ExternalName × ℕ
placed_by starts e = (record { 0 = e.0 }, goal_of starts e.1)
