use Rattle.std.proofs.Common.{◌≡◌, ◌++◌, Some, drop, map}
use Rattle.a64_elf.specs.declared.object.Relocation.{Relocation}
use Rattle.a64_object_file.specs.Relocations.{elf_relocation}
use Rattle.a64_object_file.proofs.relocations.elf_relocations.Given as goal

-- what is made, with what the relocations that are left give, is what all give
abbrev pub invariant-loop-reloc : goal.invariant-loop-reloc
invariant-loop-reloc l =
    map (λ (v : Relocation). Some v) l.made.items
    ++ map (elf_relocation l.symbols) (drop l.reloc-index l.relocs)
    ≡ map (elf_relocation l.symbols) l.relocs
