-- Symbols of units in which nothing is wrong are defined once.
use Rattle.std.proofs.Common.{ℕ, ◌≡◌, ◌^◌, cond, Bool, List, [], Some, None, ap, ◌∙◌}
use Rattle.std.specs.Prelude.{◌↔◌}
use Rattle.std.proofs.lemmas.Bool.{lt-leb}
use Rattle.a64_base.specs.declared.entity.ExternalName.{ExternalName}
use Rattle.a64_link.specs.declared.error.LinkError.TheVariants as errors
use Rattle.a64_link.specs.declared.unit.Unit.{Unit}
use Rattle.a64_link.specs.declared.unit.Symbol.{Symbol}
use Rattle.a64_link.specs.Units.{rooms, symbol_of}
use Rattle.a64_link.specs.Layout.{AreSums, Defines}
use Rattle.a64_link.specs.Faults.{fault_of, too_large, units_fault, repeated_in, definitions}
use Rattle.a64_link.proofs.Defined.{defined_once}
use Rattle.a64_link.proofs.Faultless.{both_none}

-- what is looked up is the definition
pub once_of : (units : List Unit) → fault_of units ≡ None → (name : ExternalName) (s : Symbol) → (symbol_of units name ≡ Some s) ↔ Defines units s.unit name s.place
once_of units faultless = defined_once units (both_none (repeated_in [] (definitions units)) _ (both_none (units_fault 0 units) _ faultless).1).0

-- nothing is wrong where all together are small
pub not_large : (units : List Unit) (sums : List ℕ) → AreSums units sums → fault_of units ≡ too_large units → fault_of units ≡ None
not_large units sums s e = e ∙ ap (λ (b : Bool). cond b (Some errors.TooLarge) None) (lt-leb (2 ^ 31) (rooms units) s.small)
