-- Relocatable objects: sections one behind another, and the table of their headers.
use Rattle.std.specs.Prelude.{ℕ, zero, suc, ◌≡◌, ◌≤◌, ◌<◌, ◌+◌, ◌*◌, ◌^◌, nat_eq, Bool, true}
use Rattle.std.specs.Prelude.{false, List, [], ◌∷◌, ◌++◌, length, take, drop, replicate, Some}
use Rattle.std.specs.Prelude.{slice_get, codes}
use Rattle.std.specs.List.{flat_map, list_any}
use Rattle.a64_elf.specs.declared.error.ElfError.{ElfError}
use Rattle.a64_elf.specs.declared.error.ElfError.TheVariants as errors
use Rattle.a64_elf.specs.declared.section.Alignment.TheVariants as alignments
use Rattle.a64_elf.specs.declared.section.SectionKind.TheVariants as kinds
use Rattle.a64_elf.specs.declared.section.Section.{Section}
use Rattle.a64_elf.specs.Fields.{filling, elf_header, section_header}

-- where the content of a section begins and ends, of which the one before it ends at a place
abbrev pub section_start : ℕ → Section → ℕ
section_start place section = place + length (filling section.alignment place)

abbrev pub section_end : ℕ → Section → ℕ
section_end place section = section_start place section + length section.content

-- the bytes of contents from a place on, each behind zeros up to where it may begin
abbrev pub contents : ℕ → List Section → List ℕ
contents place [] = []
contents place (section ∷ sections) =
    filling section.alignment place
    ++ (section.content ++ contents (section_end place section) sections)

-- where they end
abbrev pub end_of : ℕ → List Section → ℕ
end_of place [] = place
end_of place (section ∷ sections) = end_of (section_end place section) sections

-- the name of a section, which a NUL ends
abbrev pub named : Section → List ℕ
named section = section.name ++ 0 ∷ []

-- how many bytes the names have, behind a NUL
abbrev pub names_size : List Section → ℕ
names_size sections = length (0 ∷ flat_map named sections)

-- the headers of sections whose contents begin behind a place, and whose names at a place among
-- the names
abbrev pub headers : ℕ → ℕ → List Section → List ℕ
headers place name [] = []
headers place name (section ∷ sections) =
    section_header name (section_start place section) section
    ++ headers (section_end place section) (name + length (named section)) sections

-- a section of names
abbrev pub string_section : List ℕ → List ℕ → Section
string_section name content = record {
  name = name;
  kind = kinds.StrTab;
  flags = 0;
  link = 0;
  info = 0;
  alignment = alignments.One;
  entry_size = 0;
  content = content;
}

-- the section of the sections' names, its own too
abbrev pub names_section : List Section → Section
names_section sections =
    string_section (codes ".shstrtab")
    ((0 ∷ flat_map named sections) ++ (codes ".shstrtab" ++ 0 ∷ []))

abbrev pub all_sections : List Section → List Section
all_sections sections = sections ++ names_section sections ∷ []

-- where the table of headers stands
abbrev pub table_place : List Section → ℕ
table_place sections =
    let end = end_of 64 (all_sections sections) in
    end + length (filling alignments.Eight end)

-- the bytes of an object: the header of the file, contents, and the table of headers, of which
-- the first is zeros
abbrev pub object_of : List Section → List ℕ
object_of sections =
    elf_header (table_place sections) (length sections + 2)
    ++ (contents 64 (all_sections sections)
    ++ (filling alignments.Eight (end_of 64 (all_sections sections))
    ++ (replicate 64 0 ++ headers 64 1 (all_sections sections))))

-- a name has a NUL in it
abbrev pub has_nul : List ℕ → Bool
has_nul name = list_any (λ byte. nat_eq byte 0) name

-- no section's name has one
abbrev pub HasNames : List Section → Type 0
HasNames sections =
    (k : ℕ) (section : Section) → slice_get sections k ≡ Some section
    → has_nul section.name ≡ false

-- where the content of the section of this index begins
abbrev pub place_of : ℕ → List Section → ℕ → ℕ
place_of place [] k = place
place_of place (section ∷ sections) zero = section_start place section
place_of place (section ∷ sections) (suc k) = place_of (section_end place section) sections k

-- a section stands at a place of a file: there its content is, before the table of headers
pub record StandsAt (bytes : List ℕ) (table place : ℕ) (section : Section) : Type 0 where
  pub has : take (length section.content) (drop place bytes) ≡ section.content
  pub before_table : place + length section.content ≤ table

-- the bytes are an object of these sections
pub record IsObject (sections : List Section) (bytes : List ℕ) : Type 0 where
  pub names : HasNames sections
  pub few : length sections + 2 < 0xff00
  pub small : end_of 64 (all_sections sections) < 2 ^ 32
  pub laid : bytes ≡ object_of sections
  -- the file ends with the table of headers
  pub size : length bytes ≡ table_place sections + 64 * (length sections + 2)
  -- each section stands where its header tells
  pub stand :
      (k : ℕ) (section : Section) → slice_get (all_sections sections) k ≡ Some section
      → StandsAt bytes (table_place sections) (place_of 64 (all_sections sections) k) section
  -- and before each that comes later
  pub apart :
      (j k : ℕ) (section : Section) → slice_get (all_sections sections) j ≡ Some section → j < k
      → k < length (all_sections sections)
      → place_of 64 (all_sections sections) j + length section.content
      ≤ place_of 64 (all_sections sections) k

-- why there is no object of these sections
abbrev pub IsSectionFault : List Section → ElfError → Type 0
IsSectionFault sections (errors.SectionName k) =
    (section : Section) × ((slice_get sections k ≡ Some section) × (has_nul section.name ≡ true))
IsSectionFault sections (errors.SymbolName k) = ⊥
IsSectionFault sections (errors.RelocationSymbol k) = ⊥
IsSectionFault sections errors.TooManySymbols = ⊥
IsSectionFault sections errors.TooManySections = 0xff00 ≤ length sections + 2
IsSectionFault sections errors.TooLarge = 2 ^ 32 ≤ end_of 64 (all_sections sections)
IsSectionFault sections errors.OutOfMemory = Unit {0}

-- ---- what is known after each step of the writer

-- sections stand up to this end, with these names and this table
pub record IsLayout (sections : List Section) (end : ℕ) (names table : List ℕ) : Type 0 where
  pub ends : end ≡ end_of 64 sections
  pub names_are : names ≡ 0 ∷ flat_map named sections
  pub table_is : table ≡ replicate 64 0 ++ headers 64 1 sections
  pub small : end + length names < 2 ^ 32

-- and the section of names behind them
pub record IsLaid (end : ℕ) (names table : List ℕ) (new_end : ℕ) (new_names new_table : List ℕ)
    : Type 0 where
  pub names_are : new_names ≡ names ++ (codes ".shstrtab" ++ 0 ∷ [])
  pub ends : new_end ≡ end + length new_names
  pub table_is :
      new_table
      ≡ table ++ section_header (length names) end (string_section (codes ".shstrtab") new_names)
  pub small : new_end < 2 ^ 32
