-- What the name of where a function leaves a result makes of the fields behind it.
use Rattle.std.specs.Prelude.{List, Option, Some, ◌≡◌}
use Rattle.a64_inst.specs.declared.call.RetLocation.{RetLocation}
use Rattle.a64_inst.specs.declared.call.RetLocation.TheVariants as locations
use Rattle.a64_read.specs.declared.location_name.LocationName.{LocationName}
use Rattle.a64_read.specs.declared.location_name.LocationName.TheVariants as location_names
use Rattle.a64_tokens.specs.declared.value.Value.{Value}
use Rattle.a64_read.specs.At.{i64_at, reg_at, type_at}

-- the place of this name with these fields
abbrev pub location_of : LocationName → List Value → RetLocation
location_of location_names.Reg values = locations.Reg (reg_at values 0) (type_at values 1)
location_of location_names.Stack values = locations.Stack (i64_at values 0) (type_at values 1)

unfoldable pub MakesLocation : LocationName → List Value → Option RetLocation → Type 0
MakesLocation name values result = result ≡ Some (location_of name values)
