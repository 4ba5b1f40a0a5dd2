-- Faults of an object's sections are faults of the object.
use Rattle.std.proofs.Common.{◌≡◌, ◌≤◌, ◌^◌, ◌∷◌, ◌++◌, [], inl, inr, length, sym, subst, arith}
use Rattle.std.specs.Prelude.{◌⊎◌, codes}
use Rattle.std.specs.List.{flat_map}
use Rattle.a64_elf.specs.declared.error.ElfError.{ElfError}
use Rattle.a64_elf.specs.declared.error.ElfError.TheVariants as errors
use Rattle.a64_elf.specs.declared.object.Object.{Object}
use Rattle.a64_elf.specs.Objects.{IsObjectFault, first_global, sections_of, stack_section}
use Rattle.a64_elf.specs.Objects.{relocation_section, symbol_section, text_section}
use Rattle.a64_elf.specs.Sections.{IsSectionFault, all_sections, end_of, names_section, section_end}
use Rattle.a64_elf.specs.Sections.{string_section}
use Rattle.a64_elf.specs.Symbols.{relocation_entry, symbol_names, symbol_table}
use Rattle.a64_elf.proofs.Whole.{end_grows}

pub section_fault : (object : Object) (error : ElfError)
    → IsSectionFault (sections_of object) error → IsObjectFault object error
section_fault object (errors.SectionName k) is = is
section_fault object (errors.SymbolName k) is = elim is [ ]
section_fault object (errors.RelocationSymbol k) is = elim is [ ]
section_fault object errors.TooManySymbols is = elim is [ ]
section_fault object errors.TooManySections is = is
section_fault object errors.TooLarge is = is
section_fault object errors.OutOfMemory is = tt

-- names that are too large make all sections so
pub names_fault : (object : Object) (error : ElfError)
    → (error ≡ errors.OutOfMemory)
    ⊎ ((error ≡ errors.TooLarge) × (2 ^ 32 ≤ length (symbol_names object.globals.items)))
    → IsObjectFault object error
names_fault object error (inl none) = subst (IsObjectFault object) (sym none) tt
names_fault object error (inr (too, large)) =
    let code = section_end 64 (text_section object.text.items) in
    let relocated =
    section_end code
    (relocation_section
    (flat_map (relocation_entry (first_global object)) object.relocations.items))
    in
    let symbols =
    section_end relocated
    (symbol_section (first_global object)
    (symbol_table object.marks.items object.globals.items))
    in
    let named =
    section_end symbols (string_section (codes ".strtab") (symbol_names object.globals.items))
    in
    let rest = object.sections.items ++ stack_section ∷ [] in
    let grown : named ≤ end_of 64 (all_sections (sections_of object)) =
    end_grows named (rest ++ names_section (sections_of object) ∷ [])
    in
    let all : 2 ^ 32 ≤ end_of 64 (all_sections (sections_of object)) = omega (arith, large, grown) in
    subst (IsObjectFault object) (sym too) all
