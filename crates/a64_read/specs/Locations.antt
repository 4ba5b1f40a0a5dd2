-- The texts of where functions leave results: a name, and behind it its fields in parentheses.
use Rattle.std.specs.Prelude.{ℕ, List, [], ◌∷◌, codes}
use Rattle.std.specs.List.{join_with_byte, AllByRecursion}
use Rattle.a64_inst.specs.declared.call.RetLocation.{RetLocation}
use Rattle.a64_inst.specs.declared.call.RetLocation.TheVariants as locations
use Rattle.a64_read.specs.declared.location_name.LocationName.{LocationName}
use Rattle.a64_read.specs.declared.location_name.LocationName.TheVariants as location_names
use Rattle.a64_tokens.specs.declared.value.Kind.{Kind}
use Rattle.a64_tokens.specs.declared.value.Kind.TheVariants as kinds
use Rattle.a64_tokens.specs.declared.value.Value.{Value}
use Rattle.a64_tokens.specs.declared.value.Value.TheVariants as values
use Rattle.a64_tokens.specs.Fields.{call_text}
use Rattle.a64_read.specs.Heading.{Heading}
use Rattle.a64_read.specs.Parts.{part_texts, IsPart}

abbrev pub location_heading : LocationName → Heading
location_heading location_names.Reg = record {
  text = codes "reg";
  kinds = kinds.Reg ∷ kinds.Type ∷ [];
}
location_heading location_names.Stack = record {
  text = codes "stack";
  kinds = kinds.I64 ∷ kinds.Type ∷ [];
}

abbrev pub location_name_text : LocationName → List ℕ
location_name_text name = (location_heading name).text

abbrev pub location_kinds : LocationName → List Kind
location_kinds name = (location_heading name).kinds

-- the name of a place, and its fields
pub record LocationParts : Type 0 where
  pub name : LocationName
  pub fields : List Value

abbrev pub location_parts : RetLocation → LocationParts
location_parts (locations.Reg preg ty) = record {
  name = location_names.Reg;
  fields = values.Reg preg ∷ values.Type ty ∷ [];
}
location_parts (locations.Stack offset ty) = record {
  name = location_names.Stack;
  fields = values.I64 offset ∷ values.Type ty ∷ [];
}

abbrev pub location_name_of : RetLocation → LocationName
location_name_of location = (location_parts location).name

abbrev pub location_fields : RetLocation → List Value
location_fields location = (location_parts location).fields

abbrev pub IsOwnLocation : RetLocation → Type 0
IsOwnLocation location = Unit {0}

abbrev pub location_text : RetLocation → List ℕ
location_text location =
    call_text (
      location_name_text (location_name_of location),
      join_with_byte 44
          (part_texts (location_fields location)),
    )

abbrev pub IsLocation : RetLocation → Type 0
IsLocation location = AllByRecursion IsPart (location_fields location) × IsOwnLocation location
