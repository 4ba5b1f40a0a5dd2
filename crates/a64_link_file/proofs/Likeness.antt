-- Files that say the same have the same faults.
use Rattle.std.proofs.Common.{◌≡◌, ℕ, suc, ◌+◌, ◌*◌, List, [], ◌∷◌, ◌++◌, length, map, Option, Some, None, refl, sym, ap, ◌∙◌}
use Rattle.std.specs.Prelude.{◌&&◌, nat_lt, nat_eq, nat_le, ◌^◌, is_some, if◌then◌else◌}
use Rattle.std.specs.List.{count_by, list_any}
use Rattle.std.specs.Map.{lookup}
use Rattle.std.proofs.lemmas.List.Sums.{sum_by-cons}
use Rattle.a64_link.specs.declared.error.LinkError.{LinkError}
use Rattle.a64_link.specs.declared.error.LinkError.TheVariants as errors
use Rattle.a64_link.specs.declared.unit.Unit.{Unit}
use Rattle.a64_link.specs.Faults.{defines_fault, definitions, fault_of, large_from, or_else, relocs_fault, repeated_in, too_large, undefined_from, undefined_in, units_fault}
use Rattle.a64_link.specs.Units.{Relocation, defined, defined_from, defined_in, is_call, near, room, rooms, round_up}
use Rattle.a64_link_file.specs.declared.file.LinkFile.{LinkFile}
use Rattle.a64_link_file.specs.Entries.{Contents, UnitContents, contents_of, unit_contents}

abbrev AreAlike : List Unit → List Unit → Type 0
AreAlike one two = map unit_contents one ≡ map unit_contents two

-- what goes over units, and sees of each what it says, is the same of units that say the same
module _ {X : Type 0} (next : ℕ → ℕ) (of_units : ℕ → List Unit → X) (more : ℕ → UnitContents → X → X)
    (goes_on : (i : ℕ) (unit : Unit) (units : List Unit) → of_units i (unit ∷ units) ≡ more i (unit_contents unit) (of_units (next i) units)) where
  alike : (one two : List Unit) → AreAlike one two → (i : ℕ) → of_units i one ≡ of_units i two
  alike [] [] e i = refl
  alike [] (v ∷ vs) e i = absurd cc
  alike (u ∷ us) [] e i = absurd cc
  alike (u ∷ us) (v ∷ vs) e i =
      let heads : unit_contents u ≡ unit_contents v = cc in
      let tails : AreAlike us vs = cc in
      goes_on i u us ∙ ap (λ (c : UnitContents). more i c (of_units (next i) us)) heads ∙ ap (λ (x : X). more i (unit_contents v) x) (alike us vs tails (next i)) ∙ sym (goes_on i v vs)

abbrev room_of : UnitContents → ℕ
room_of unit = round_up (4 * length unit.words + 20 * count_by (λ (r : Relocation). is_call r.1) unit.relocs)

abbrev fault_in : ℕ → UnitContents → Option LinkError
fault_in i unit = or_else (defines_fault i (4 * length unit.words) unit.defines) (relocs_fault i unit.words [] unit.relocs)

module _ (one two : List Unit) (same : AreAlike one two) where
  like_units : units_fault 0 one ≡ units_fault 0 two
  like_units = alike (λ i. i + 1) units_fault (λ i unit later. or_else (fault_in i unit) later) (λ i unit units. refl) one two same 0

  like_definitions : definitions one ≡ definitions two
  like_definitions = alike (λ i. i) (λ i units. definitions units) (λ i unit later. unit.defines ++ later) (λ i unit units. refl) one two same 0

  like_defined : defined one ≡ defined two
  like_defined = alike (λ i. suc i) defined_from (λ i unit later. defined_in i unit.defines ++ later) (λ i unit units. refl) one two same 0

  undefined_alike : (relocs : List Relocation) → undefined_in one relocs ≡ undefined_in two relocs
  undefined_alike [] = refl
  undefined_alike (r ∷ relocs) =
      ap (λ ds. if is_some (lookup (nat_eq r.2.0) ds) then undefined_in one relocs else Some (errors.Undefined r.2)) like_defined
      ∙ ap (λ (later : Option LinkError). if is_some (lookup (nat_eq r.2.0) (defined two)) then later else Some (errors.Undefined r.2)) (undefined_alike relocs)

  undefined_same : (units : List Unit) → undefined_from one units ≡ undefined_from two units
  undefined_same [] = refl
  undefined_same (unit ∷ units) =
      ap (λ (fault : Option LinkError). or_else fault (undefined_from one units)) (undefined_alike unit.relocs.items)
      ∙ ap (λ (later : Option LinkError). or_else (undefined_in two unit.relocs.items) later) (undefined_same units)

  like_undefined : undefined_from one one ≡ undefined_from two two
  like_undefined =
      undefined_same one
      ∙ alike (λ i. i) (λ i units. undefined_from two units) (λ i unit later. or_else (undefined_in two unit.relocs) later) (λ i unit units. refl) one two same 0

  like_large : large_from 0 one ≡ large_from 0 two
  like_large =
      alike (λ i. i + 1) large_from
      (λ i unit later. if list_any (λ (r : Relocation). is_call r.1) unit.relocs && nat_lt near (room_of unit) then Some (errors.UnitTooLarge i) else later)
      (λ i unit units. refl) one two same 0

  like_rooms : rooms one ≡ rooms two
  like_rooms = alike (λ i. i) (λ i units. rooms units) (λ i unit later. room_of unit + later) (λ i unit units. sum_by-cons room unit units) one two same 0

  like_faults : fault_of one ≡ fault_of two
  like_faults =
      let large : too_large one ≡ too_large two = ap (λ (n : ℕ). if nat_le (2 ^ 31) n then Some errors.TooLarge else None) like_rooms in
      let repeated : repeated_in [] (definitions one) ≡ repeated_in [] (definitions two) = ap (repeated_in []) like_definitions in
      rw (like_units, repeated, like_undefined, like_large, large) refl

pub like_fault : (one two : LinkFile) → contents_of one ≡ contents_of two → fault_of one.units.items ≡ fault_of two.units.items
like_fault one two same = like_faults one.units.items two.units.items (ap (λ (c : Contents). c.units) same)
