-- The names of where functions leave results, and what they make of their fields.
use Rattle.std.specs.Prelude.{List, length, map, ◌≡◌, ◌≤◌, ◌<◌, Option, Some, IfSome, refl}
use Rattle.std.proofs.Common.{lit≤, lit<, sym, ap, ◌∙◌}
use Rattle.std.specs.List.{AllByRecursion}
use Rattle.a64_inst.specs.declared.call.RetLocation.{RetLocation}
use Rattle.a64_inst.specs.declared.call.RetLocation.TheVariants as locations
use Rattle.a64_read.specs.declared.location_name.TheConstants.{LOCATION_HOMES, LOCATIONS}
use Rattle.a64_read.specs.declared.location_name.LocationName.{LocationName}
use Rattle.a64_read.specs.declared.location_name.LocationName.TheVariants as location_names
use Rattle.a64_tokens.specs.declared.value.Value.{Value}
use Rattle.a64_read.specs.LocationMakes.{location_of, MakesLocation}
use Rattle.a64_read.specs.Locations.{location_name_text, location_kinds, location_name_of}
use Rattle.a64_read.specs.Locations.{location_fields, IsOwnLocation}
use Rattle.a64_tokens.specs.Fields.{HasNo}
use Rattle.a64_tokens.specs.Hash.{look_up}
use Rattle.a64_read.specs.Same.{at_their_places}
use Rattle.a64_read.specs.Values.{kind_of, IsValue}

pub location_found : (x : LocationName)
    → look_up LOCATION_HOMES (λ _. map (λ row. row.2) LOCATIONS) (location_name_text x) ≡ Some x
location_found location_names.Reg = refl
location_found _ = refl

pub few_location_kinds : (name : LocationName) → length (location_kinds name) ≤ 4
few_location_kinds location_names.Reg = lit≤ tt
few_location_kinds _ = lit≤ tt

pub location_apart : (name : LocationName) → HasNo 40 (location_name_text name)
location_apart location_names.Reg = refl
location_apart _ = refl

pub some_location_field : (location : RetLocation) → 0 < length (location_fields location)
some_location_field (locations.Reg preg ty) = lit< tt
some_location_field _ = lit< tt

made : (P : RetLocation → Type 0) (r : Option RetLocation) (location : RetLocation)
    → r ≡ Some location → P location → IfSome r P
made P r location is h = rw is h

abbrev pub IsMadeLocation : LocationName → List Value → RetLocation → Type 0
IsMadeLocation name values location =
    (location_name_of location ≡ name) × (location_fields location ≡ values)
    × IsOwnLocation location

pub location_made_some : (name : LocationName) (vs : List Value) (r : Option RetLocation)
    → MakesLocation name vs r → map kind_of vs ≡ location_kinds name
    → IfSome r (IsMadeLocation name vs)
unfolding MakesLocation
location_made_some location_names.Reg vs r h are =
    made (IsMadeLocation location_names.Reg vs) r (location_of location_names.Reg vs) h
    (refl, at_their_places (location_kinds location_names.Reg) vs are, tt)
location_made_some name vs r h are =
    made (IsMadeLocation name vs) r (location_of name vs) h
    (refl, at_their_places (location_kinds name) vs are, tt)

pub location_made_only : (location : RetLocation) (vs : List Value) (r : Option RetLocation)
    → MakesLocation (location_name_of location) vs r
    → AllByRecursion IsValue (location_fields location) → IsOwnLocation location
    → location_fields location ≡ vs → r ≡ Some location
unfolding MakesLocation
location_made_only (locations.Reg preg ty) vs r h fits own e =
    h ∙ ap (λ (t : List Value). Some (location_of location_names.Reg t)) (sym e)
location_made_only location vs r h fits own e =
    h ∙ ap (λ (t : List Value). Some (location_of (location_name_of location) t)) (sym e)

pub location_fields_kinds : (location : RetLocation)
    → map kind_of (location_fields location) ≡ location_kinds (location_name_of location)
location_fields_kinds (locations.Reg preg ty) = refl
location_fields_kinds location = refl
