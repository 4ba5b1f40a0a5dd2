-- A map of what units define, as it grows.
use Rattle.std.specs.Prelude.{ℕ, ◌≡◌, nat_eq, List, [], ◌∷◌, None, Some}
use Rattle.std.specs.FinMap.{FinMap, get, contains_key}
use Rattle.std.specs.List.{list_any}
use Rattle.std.specs.Map.{lookup}
use Rattle.std.specs.Option.{option_or}
use Rattle.std.specs.Ordering.{nat_cmp}
use Rattle.a64_link.specs.declared.error.LinkError.{LinkError}
use Rattle.a64_link.specs.declared.unit.Symbol.{Symbol}
use Rattle.a64_link.specs.Units.{Definition, defined_in}
use Rattle.a64_link.specs.Faults.{repeated_in}

-- the map has these numbers
abbrev pub HasNames : FinMap nat_cmp Symbol → List ℕ → Type 0
HasNames map names = (n : ℕ) → contains_key map n ≡ list_any (nat_eq n) names

-- the numbers of definitions, put in front of others one by one
abbrev pub names_onto : List ℕ → List Definition → List ℕ
names_onto before [] = before
names_onto before (d ∷ ds) = names_onto (d.0.0 ∷ before) ds

-- what a unit defines was added: none of it was there
pub record HasAdded (i : ℕ) (ds : List Definition) (old new : FinMap nat_cmp Symbol) : Type 0 where
  pub gets : (n : ℕ) → get new n ≡ option_or (get old n) (lookup (nat_eq n) (defined_in i ds))
  pub names : (before : List ℕ) → HasNames old before → HasNames new (names_onto before ds)
  pub once : (before : List ℕ) → HasNames old before → repeated_in before ds ≡ None

-- a definition repeats one that was there, or one before it
abbrev pub Repeats : FinMap nat_cmp Symbol → List Definition → LinkError → Type 0
Repeats old ds error = (before : List ℕ) → HasNames old before → repeated_in before ds ≡ Some error
