-- The relocations of code as those of an object.
use Rattle.std.specs.Prelude.{ℕ, ℤ, ◌≡◌, List, Option, None, Some, slice_get}
use Rattle.std.specs.Option.{option_map}
use Rattle.std.specs.FinMap.{FinMap, get}
use Rattle.std.specs.Ordering.{nat_cmp}
use Rattle.a64_base.specs.declared.entity.ExternalName.{ExternalName}
use Rattle.a64_base.specs.declared.entity.Reloc.{Reloc}
use Rattle.a64_base.specs.declared.entity.Reloc.TheVariants as relocs
use Rattle.a64_elf.specs.declared.object.Relocation.{Relocation}
use Rattle.a64_elf.specs.declared.object.RelocationKind.{RelocationKind}
use Rattle.a64_elf.specs.declared.object.RelocationKind.TheVariants as kinds
use Rattle.a64_object_file.specs.declared.error.ObjectFileError.{ObjectFileError}
use Rattle.a64_object_file.specs.declared.error.ObjectFileError.TheVariants as errors

-- a place, a kind, a name, and a number more
abbrev pub CodeRelocation : Type 0
CodeRelocation = ℕ × Reloc × ExternalName × ℤ

-- the indices of symbols, by the numbers of external names
abbrev pub SymbolMap : Type 0
SymbolMap = FinMap nat_cmp ℕ

-- what ELF calls each kind
abbrev pub kind_of : Reloc → RelocationKind
kind_of relocs.Arm64Call = kinds.Call26
kind_of relocs.Abs8 = kinds.Abs64
kind_of relocs.Aarch64AdrGotPage21 = kinds.AdrGotPage
kind_of relocs.Aarch64Ld64GotLo12Nc = kinds.Ld64GotLo12Nc
kind_of relocs.Aarch64AdrPrelPgHi21 = kinds.AdrPrelPgHi21
kind_of relocs.Aarch64AddAbsLo12Nc = kinds.AddAbsLo12Nc

-- at the same place, to the symbol of the name, with the same number more
abbrev pub relocation_to : CodeRelocation → ℕ → Relocation
relocation_to reloc symbol =
    record { place = reloc.0; kind = kind_of reloc.1; symbol = symbol; addend = reloc.3 }

-- a relocation of an object, where the name has a symbol
abbrev pub elf_relocation : SymbolMap → CodeRelocation → Option Relocation
elf_relocation symbols reloc = option_map (relocation_to reloc) (get symbols reloc.2.0)

-- why there are no such relocations: one is to a name without a symbol
abbrev pub IsUnnamed : SymbolMap → List CodeRelocation → ObjectFileError → Type 0
IsUnnamed symbols relocs (errors.Unnamed name) =
    (k : ℕ) × (reloc : CodeRelocation) × (slice_get relocs k ≡ Some reloc)
    × (reloc.2 ≡ name) × (get symbols name.0 ≡ None)
IsUnnamed symbols relocs errors.OutOfMemory = Unit {0}
