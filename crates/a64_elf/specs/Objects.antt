-- Objects: the sections of code, symbols and relocations, and why there are none.
use Rattle.std.specs.Prelude.{ℕ, ◌≡◌, ◌+◌, ◌≤◌, ◌<◌, ◌^◌, List, [], ◌∷◌, ◌++◌, length, true, false}
use Rattle.std.specs.Prelude.{Some, slice_get, codes}
use Rattle.std.specs.List.{flat_map}
use Rattle.a64_elf.specs.declared.error.ElfError.{ElfError}
use Rattle.a64_elf.specs.declared.error.ElfError.TheVariants as errors
use Rattle.a64_elf.specs.declared.object.Global.{Global}
use Rattle.a64_elf.specs.declared.object.Object.{Object}
use Rattle.a64_elf.specs.declared.object.Relocation.{Relocation}
use Rattle.a64_elf.specs.declared.section.Alignment.TheVariants as alignments
use Rattle.a64_elf.specs.declared.section.SectionKind.TheVariants as kinds
use Rattle.a64_elf.specs.declared.section.Section.{Section}
use Rattle.a64_elf.specs.Sections.{string_section, has_nul, IsObject, IsSectionFault}
use Rattle.a64_elf.specs.Symbols.{relocation_entry, symbol_names, symbol_table}

-- code, that is loaded and run
abbrev pub text_section : List ℕ → Section
text_section content = record {
  name = codes ".text";
  kind = kinds.ProgBits;
  flags = 6;
  link = 0;
  info = 0;
  alignment = alignments.Sixteen;
  entry_size = 0;
  content = content;
}

-- relocations of section 1, by the symbols of section 3
abbrev pub relocation_section : List ℕ → Section
relocation_section content = record {
  name = codes ".rela.text";
  kind = kinds.Rela;
  flags = 64;
  link = 3;
  info = 1;
  alignment = alignments.Eight;
  entry_size = 24;
  content = content;
}

-- symbols with names in section 4, of which the first that is not local has this number
abbrev pub symbol_section : ℕ → List ℕ → Section
symbol_section first content = record {
  name = codes ".symtab";
  kind = kinds.SymTab;
  flags = 0;
  link = 4;
  info = first;
  alignment = alignments.Eight;
  entry_size = 24;
  content = content;
}

-- no code needs a stack that can be run
abbrev pub stack_section : Section
stack_section = record {
  name = codes ".note.GNU-stack";
  kind = kinds.ProgBits;
  flags = 0;
  link = 0;
  info = 0;
  alignment = alignments.One;
  entry_size = 0;
  content = [];
}

-- the number of the first global symbol: marks stand before it, and one that is none
abbrev pub first_global : Object → ℕ
first_global object = length object.marks.items + 1

abbrev pub sections_of : Object → List Section
sections_of object =
    text_section object.text.items
    ∷ relocation_section
    (flat_map (relocation_entry (first_global object)) object.relocations.items)
    ∷ symbol_section (first_global object)
    (symbol_table object.marks.items object.globals.items)
    ∷ string_section (codes ".strtab") (symbol_names object.globals.items)
    ∷ (object.sections.items ++ stack_section ∷ [])

-- no symbol's name has a NUL
abbrev pub HaveNames : List Global → Type 0
HaveNames globals =
    (k : ℕ) (global : Global) → slice_get globals k ≡ Some global → has_nul global.name ≡ false

-- each relocation is to a symbol of the object
abbrev pub AreRelocated : Object → Type 0
AreRelocated object =
    (k : ℕ) (relocation : Relocation) → slice_get object.relocations.items k ≡ Some relocation
    → relocation.symbol < length object.globals.items

-- the bytes are this object
pub record IsObjectOf (object : Object) (bytes : List ℕ) : Type 0 where
  pub names : HaveNames object.globals.items
  pub relocated : AreRelocated object
  pub few : length object.marks.items + length object.globals.items + 1 < 2 ^ 32
  pub laid : IsObject (sections_of object) bytes

-- why there is no such object
abbrev pub IsObjectFault : Object → ElfError → Type 0
IsObjectFault object (errors.SymbolName k) =
    (global : Global)
    × ((slice_get object.globals.items k ≡ Some global) × (has_nul global.name ≡ true))
IsObjectFault object (errors.RelocationSymbol k) =
    (relocation : Relocation) × ((slice_get object.relocations.items k ≡ Some relocation)
    × (length object.globals.items ≤ relocation.symbol))
IsObjectFault object errors.TooManySymbols =
    2 ^ 32 ≤ length object.marks.items + length object.globals.items + 1
IsObjectFault object (errors.SectionName k) =
    IsSectionFault (sections_of object) (errors.SectionName k)
IsObjectFault object errors.TooManySections =
    IsSectionFault (sections_of object) errors.TooManySections
IsObjectFault object errors.TooLarge = IsSectionFault (sections_of object) errors.TooLarge
IsObjectFault object errors.OutOfMemory = Unit {0}
