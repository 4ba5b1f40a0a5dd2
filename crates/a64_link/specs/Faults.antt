-- Why units are not linked: the first of some faults.
use Rattle.std.specs.Prelude.{ℕ, pos, ◌≡◌, ◌⊎◌, ◌+◌, ◌*◌, ◌/◌, ◌%◌, ◌^◌, ◌&&◌, not, nat_lt, nat_le}
use Rattle.std.specs.Prelude.{nat_eq, bit_and, Bool, true, false, if◌then◌else◌, List, [], ◌∷◌}
use Rattle.std.specs.Prelude.{◌++◌, length, get_or, Option, None, Some, is_some, Result, Ok, Err}
use Rattle.std.specs.List.{list_any}
use Rattle.std.specs.Ordering.{int_eq}
use Rattle.a64_base.specs.declared.entity.Reloc.{Reloc}
use Rattle.a64_base.specs.declared.entity.Reloc.TheVariants as relocs
use Rattle.a64_rows.specs.declared.row_table.Row.TheVariants as rows
use Rattle.a64_rows.specs.Forms.{fixed_mask}
use Rattle.a64_rows.specs.Rows.{fixed_of}
use Rattle.a64_link.specs.declared.error.LinkError.{LinkError}
use Rattle.a64_link.specs.declared.error.LinkError.TheVariants as errors
use Rattle.a64_link.specs.declared.unit.Unit.{Unit}
use Rattle.a64_link.specs.Units.{Definition, Relocation, is_call, size, room, rooms, near}
use Rattle.a64_link.specs.Units.{symbol_of}
use Rattle.a64_link.specs.Linking.{site_size}

-- the first fault, where there is one, else the second
abbrev pub or_else : Option LinkError → Option LinkError → Option LinkError
or_else None later = later
or_else (Some fault) later = Some fault

-- ---- a unit by itself

-- a symbol is defined at no word of the unit of this number, which has so many bytes
abbrev pub define_fault : ℕ → ℕ → Definition → Option LinkError
define_fault i bytes d =
    if nat_eq (d.1 % 4) 0 && nat_lt d.1 bytes then None else Some (errors.BadDefine i d.0)

abbrev pub defines_fault : ℕ → ℕ → List Definition → Option LinkError
defines_fault i bytes [] = None
defines_fault i bytes (d ∷ ds) = or_else (define_fault i bytes d) (defines_fault i bytes ds)

-- the two kinds of relocations that are linked
abbrev pub is_linked : Reloc → Bool
is_linked relocs.Arm64Call = true
is_linked relocs.Abs8 = true
is_linked _ = false

-- two sites have a byte in common
abbrev pub overlap : Relocation → Relocation → Bool
overlap a b = nat_lt a.0 (b.0 + site_size b) && nat_lt b.0 (a.0 + site_size a)

-- a word is of the row of branches with 26 bits: outside the row's field it has the row's bits
abbrev pub is_branch : ℕ → Bool
is_branch word = nat_eq (bit_and word (fixed_mask rows.Branch26)) (fixed_of rows.Branch26)

-- nothing is added to where a call leads, and the word at its place, of these, is a branch
abbrev pub fits_call : List ℕ → Relocation → Bool
fits_call words r = int_eq r.3 (pos 0) && is_branch (get_or words (r.0 / 4) 0)

-- a relocation may stand in a unit with these words, behind other relocations: its place is a
-- multiple of 4, its site ends within the unit and overlaps with none before it, and a call fits
abbrev pub is_good_site : List ℕ → List Relocation → Relocation → Bool
is_good_site words before r =
    nat_eq (r.0 % 4) 0
    && (nat_le (r.0 + site_size r) (4 * length words)
    && (not (list_any (overlap r) before) && (if is_call r.1 then fits_call words r else true)))

-- a relocation of the unit of this number, with these words, cannot be put behind those before it
abbrev pub reloc_fault : ℕ → List ℕ → List Relocation → Relocation → Option LinkError
reloc_fault i words before r =
    if is_linked r.1
    then (if is_good_site words before r then None else Some (errors.BadSite i r.0))
    else Some (errors.UnsupportedReloc i r.0)

abbrev pub relocs_fault : ℕ → List ℕ → List Relocation → List Relocation → Option LinkError
relocs_fault i words before [] = None
relocs_fault i words before (r ∷ rs) =
    or_else (reloc_fault i words before r) (relocs_fault i words (before ++ r ∷ []) rs)

-- what is wrong with the unit of this number: with what it defines, else with a relocation
abbrev pub unit_fault : ℕ → Unit → Option LinkError
unit_fault i unit =
    or_else (defines_fault i (size unit) unit.defines.items)
    (relocs_fault i unit.words.items [] unit.relocs.items)

-- what is wrong with the first unit with which something is; the first here has this number
abbrev pub units_fault : ℕ → List Unit → Option LinkError
units_fault i [] = None
units_fault i (unit ∷ units) = or_else (unit_fault i unit) (units_fault (i + 1) units)

-- ---- all units

-- the first of some definitions whose symbol's number is one of these, or that of one before it
abbrev pub repeated_in : List ℕ → List Definition → Option LinkError
repeated_in before [] = None
repeated_in before (d ∷ ds) =
    if list_any (nat_eq d.0.0) before
    then Some (errors.DefinedTwice d.0)
    else repeated_in (d.0.0 ∷ before) ds

-- all that units define, in order
abbrev pub definitions : List Unit → List Definition
definitions [] = []
definitions (unit ∷ units) = unit.defines.items ++ definitions units

-- the first of some relocations whose symbol none of all units defines
abbrev pub undefined_in : List Unit → List Relocation → Option LinkError
undefined_in all [] = None
undefined_in all (r ∷ rs) =
    if is_some (symbol_of all r.2) then undefined_in all rs else Some (errors.Undefined r.2)

abbrev pub undefined_from : List Unit → List Unit → Option LinkError
undefined_from all [] = None
undefined_from all (unit ∷ units) =
    or_else (undefined_in all unit.relocs.items) (undefined_from all units)

-- the first unit with a call in which a branch may not reach all; the first here has this number
abbrev pub large_from : ℕ → List Unit → Option LinkError
large_from i [] = None
large_from i (unit ∷ units) =
    if list_any (λ (r : Relocation). is_call r.1) unit.relocs.items && nat_lt near (room unit)
    then Some (errors.UnitTooLarge i)
    else large_from (i + 1) units

-- all units together are too large
abbrev pub too_large : List Unit → Option LinkError
too_large units = if nat_le (2 ^ 31) (rooms units) then Some errors.TooLarge else None

-- the first fault: first come those of units by themselves, then symbols that are defined twice,
-- those that are not defined, units that are too large, and the size of all
abbrev pub fault_of : List Unit → Option LinkError
fault_of units =
    or_else (units_fault 0 units)
    (or_else (repeated_in [] (definitions units))
    (or_else (undefined_from units units) (or_else (large_from 0 units) (too_large units))))

-- ---- what checks answer

-- a check fails with the fault, where there is one, or for want of memory
abbrev pub TellsFault : {A : Type 0} → Result A LinkError → Option LinkError → Type 0
TellsFault (Ok _) fault = fault ≡ None
TellsFault (Err error) fault = (error ≡ errors.OutOfMemory) ⊎ (fault ≡ Some error)
