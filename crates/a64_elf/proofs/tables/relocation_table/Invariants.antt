use Rattle.std.proofs.Common.{◌≡◌, ◌++◌, drop}
use Rattle.std.specs.List.{flat_map}
use Rattle.a64_elf.specs.Symbols.{relocation_entry}
use Rattle.a64_elf.proofs.tables.relocation_table.Given as goal

-- what stands, with the entries of the relocations that are left, is what all give
abbrev pub invariant-loop-relocation : goal.invariant-loop-relocation
invariant-loop-relocation l =
    l.table.items ++ flat_map (relocation_entry l.first) (drop l.relocation-index l.relocations)
    ≡ flat_map (relocation_entry l.first) l.relocations
