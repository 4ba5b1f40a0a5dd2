-- The records of an ELF64 file: the header of the file and those of sections.
use Rattle.std.specs.Prelude.{ℕ, ◌-◌, ◌%◌, List, [], ◌∷◌, ◌++◌, length, replicate}
use Rattle.std.specs.List.{flat_map}
use Rattle.std.specs.Int.{w16, w32, w64, to_le_bytes}
use Rattle.a64_elf.specs.declared.section.Alignment.{Alignment}
use Rattle.a64_elf.specs.declared.section.Alignment.TheVariants as alignments
use Rattle.a64_elf.specs.declared.section.SectionKind.{SectionKind}
use Rattle.a64_elf.specs.declared.section.SectionKind.TheVariants as kinds
use Rattle.a64_elf.specs.declared.section.Section.{Section}

-- a field of two bytes, of four, of eight, the least byte first
unfoldable pub half : ℕ → List ℕ
half n = to_le_bytes w16 n

unfoldable pub word : ℕ → List ℕ
word n = to_le_bytes w32 n

unfoldable pub long : ℕ → List ℕ
long n = to_le_bytes w64 n

-- sh_type
abbrev pub kind_number : SectionKind → ℕ
kind_number kinds.ProgBits = 1
kind_number kinds.SymTab = 2
kind_number kinds.StrTab = 3
kind_number kinds.Rela = 4
kind_number kinds.Note = 7

abbrev pub alignment_bytes : Alignment → ℕ
alignment_bytes alignments.One = 1
alignment_bytes alignments.Two = 2
alignment_bytes alignments.Four = 4
alignment_bytes alignments.Eight = 8
alignment_bytes alignments.Sixteen = 16

-- the zeros from a place up to the next multiple of an alignment
unfoldable pub filling : Alignment → ℕ → List ℕ
filling alignment place =
    let multiple = alignment_bytes alignment in
    replicate ((multiple - place % multiple) % multiple) 0

-- Elf64_Ehdr, of a relocatable object for AArch64: where the table of so many section headers
-- stands, the last of which is that of the sections' names
unfoldable pub elf_header : ℕ → ℕ → List ℕ
elf_header table count =
    0x7f ∷ 0x45 ∷ 0x4c ∷ 0x46 ∷ 2 ∷ 1 ∷ 1 ∷ 0 ∷ 0 ∷ 0 ∷ 0 ∷ 0 ∷ 0 ∷ 0 ∷ 0 ∷ 0 ∷ []
    ++ (flat_map half (1 ∷ 183 ∷ [])
    ++ (flat_map word (1 ∷ [])
    ++ (flat_map long (0 ∷ 0 ∷ table ∷ [])
    ++ (flat_map word (0 ∷ [])
    ++ flat_map half (64 ∷ 0 ∷ 0 ∷ 64 ∷ count ∷ (count - 1) ∷ [])))))

-- Elf64_Shdr: where the name of a section stands among the names, and its content in the file
unfoldable pub section_header : ℕ → ℕ → Section → List ℕ
section_header name place section =
    flat_map word (name ∷ kind_number section.kind ∷ [])
    ++ (flat_map long (section.flags ∷ 0 ∷ place ∷ length section.content ∷ [])
    ++ (flat_map word (section.link ∷ section.info ∷ [])
    ++ flat_map long (alignment_bytes section.alignment ∷ section.entry_size ∷ [])))
